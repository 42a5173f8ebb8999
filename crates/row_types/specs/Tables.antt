-- Tables: the rows of each table of a schema, in the order of their keys.
use Rattle.std.specs.Prelude.{ℕ, ◌<◌, if◌then◌else◌, is_none, List, [], ◌∷◌, ◌++◌, map, Result}
use Rattle.std.specs.List.{AllByRecursion}
use Rattle.row_types.specs.declared.definition.TableDef.{TableDef}
use Rattle.row_types.specs.declared.row.Value.{Value}
use Rattle.row_types.specs.declared.fault.SchemaFault.{SchemaFault}
use Rattle.row_types.specs.Slot.{IsRowOf}
use Rattle.row_types.specs.Schema.{IsSchema, refusal, verdict}
use Rattle.row_types.specs.Keys.{row_key}

-- the definition of a table, and its rows
pub record TableRows : Type 0 where
  pub def : TableDef
  pub rows : List (List Value)

-- the tables of a schema, one for each definition and in their order
abbrev pub Tables : Type 0
Tables = List TableRows

-- each key is below the next
abbrev pub AreRising : List ℕ → Type 0
AreRising [] = Unit {0}
AreRising (key ∷ keys) = AllByRecursion (λ other. key < other) keys × AreRising keys

-- the rows fit the definition, and their keys rise
pub record IsTableRows (table : TableRows) : Type 0 where
  pub fits : AllByRecursion (IsRowOf table.def.columns) table.rows
  pub rising : AreRising (map (row_key table.def.keys) table.rows)

-- the definitions of the tables
abbrev pub schema_of : Tables → List TableDef
schema_of tables = map (λ t. t.def) tables

-- the definitions are a schema, and the rows of each table fit its definition and rise
pub record AreTables (tables : Tables) : Type 0 where
  pub schema : IsSchema (schema_of tables)
  pub rows : AllByRecursion IsTableRows tables

-- the table that a definition begins with
abbrev pub empty_table : TableDef → TableRows
empty_table def = record { def = def; rows = [] }

-- the tables after a table was asked for: it is added without rows, unless it is refused
abbrev pub with_table : Tables → TableDef → Tables
with_table tables def =
    if is_none (refusal (schema_of tables) def) then tables ++ empty_table def ∷ [] else tables

-- the verdicts on tables that are asked for one after the other, and the tables after them
abbrev pub created : Tables → List TableDef → List (Result (Unit {0}) SchemaFault) × Tables
created tables [] = ([], tables)
created tables (def ∷ defs) = (
  verdict (schema_of tables) def
      ∷ (created (with_table tables def) defs).0,
  (created (with_table tables def) defs).1,
)
