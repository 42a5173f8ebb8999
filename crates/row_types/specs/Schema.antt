-- Schemas: which definitions of tables are accepted, and the tables and columns that a name is.
use Rattle.std.specs.Prelude.{◌≡◌, ℕ, ◌+◌, ◌≤◌, Bool, true, false, not, if◌then◌else◌, nat_lt, nat_le, List}
use Rattle.std.specs.Prelude.{[], ◌∷◌, ◌++◌, length, slice_get, Option, None, Some, Result, Ok, Err}
use Rattle.std.specs.Option.{option_or, option_map}
use Rattle.std.specs.List.{list_any, position_from, AllByRecursion}
use Rattle.std.specs.Str.{bytes_eq}
use Rattle.row_types.specs.declared.definition.Kind.{Kind}
use Rattle.row_types.specs.declared.definition.Kind.TheVariants as kind
use Rattle.row_types.specs.declared.definition.Column.{Column}
use Rattle.row_types.specs.declared.definition.TableDef.{TableDef}
use Rattle.row_types.specs.declared.fault.SchemaFault.{SchemaFault}
use Rattle.row_types.specs.declared.fault.SchemaFault.TheVariants.{TableExists, Tables, Columns, SameName}
use Rattle.row_types.specs.declared.fault.SchemaFault.TheVariants.{NoKey, TooWide}
use Rattle.row_types.specs.Text.{IsName}
use Rattle.row_types.specs.Slot.{slot_len}

-- the number of the table with this name: of the first, where there were two
abbrev pub table_named : List TableDef → List ℕ → Option ℕ
table_named tables name = position_from (λ t. bytes_eq t.name name) 0 tables

-- the number of the column with this name: of the first, where there were two
abbrev pub column_named : List Column → List ℕ → Option ℕ
column_named columns name = position_from (λ c. bytes_eq c.name name) 0 columns

-- a table has this name
abbrev pub has_table : List TableDef → List ℕ → Bool
has_table tables name = list_any (λ t. bytes_eq t.name name) tables

-- a column has this name
abbrev pub has_column : List Column → List ℕ → Bool
has_column columns name = list_any (λ c. bytes_eq c.name name) columns

-- the number of the first column whose name a column before it has, where the columns begin with number n
abbrev pub doubled_from : ℕ → List Column → List Column → Option ℕ
doubled_from n before [] = None
doubled_from n before (c ∷ columns) =
    if has_column before c.name then Some n else doubled_from (n + 1) (before ++ c ∷ []) columns

-- a column of this kind holds whole numbers
abbrev pub is_int : Kind → Bool
is_int kind.Int = true
is_int (kind.Text limit) = false

-- there is a column, and it holds whole numbers
abbrev pub is_int_column : Option Column → Bool
is_int_column None = false
is_int_column (Some c) = is_int c.kind

-- there is one mark, and it stands at a column of whole numbers
abbrev pub has_int_key : List Column → List ℕ → Bool
has_int_key columns [] = false
has_int_key columns (k ∷ []) = is_int_column (slice_get columns k)
has_int_key columns (k ∷ l ∷ marks) = false

-- the refusal where the test holds
abbrev pub refused_if : Bool → SchemaFault → Option SchemaFault
refused_if test fault = if test then Some fault else None

-- why a table with this definition isn't added to these tables: the first of these rules that it breaks
abbrev pub refusal : List TableDef → TableDef → Option SchemaFault
refusal tables def =
    option_or (refused_if (has_table tables def.name) TableExists)
    (option_or (refused_if (nat_le 16 (length tables)) (Tables 16))
    (option_or (refused_if (nat_lt 32 (length def.columns)) (Columns (length def.columns)))
    (option_or (option_map SameName (doubled_from 0 [] def.columns))
    (option_or (refused_if (not (has_int_key def.columns def.keys)) NoKey)
    (refused_if (nat_lt 4096 (slot_len def.columns)) (TooWide (slot_len def.columns)))))))

-- the table is accepted, unless there is a refusal
abbrev pub ok_unless : Option SchemaFault → Result (Unit {0}) SchemaFault
ok_unless None = Ok tt
ok_unless (Some fault) = Err fault

-- the answer to a table that is asked for
abbrev pub verdict : List TableDef → TableDef → Result (Unit {0}) SchemaFault
verdict tables def = ok_unless (refusal tables def)

-- the definitions are accepted one after the other, where these tables are there before
abbrev pub AreAccepted : List TableDef → List TableDef → Type 0
AreAccepted before [] = Unit {0}
AreAccepted before (def ∷ defs) = (refusal before def ≡ None) × AreAccepted (before ++ def ∷ []) defs

-- the table and each of its columns have names
abbrev pub IsNamed : TableDef → Type 0
IsNamed def = IsName def.name × AllByRecursion (λ c. IsName c.name) def.columns

-- the tables of a schema: they have names, and are accepted one after the other from none on
pub record IsSchema (tables : List TableDef) : Type 0 where
  pub named : AllByRecursion IsNamed tables
  pub accepted : AreAccepted [] tables

-- the columns of a table, where there is one
abbrev pub columns_of : Option TableDef → List Column
columns_of None = []
columns_of (Some def) = def.columns

-- the columns of table number n
abbrev pub columns_at : List TableDef → ℕ → List Column
columns_at tables n = columns_of (slice_get tables n)

-- the numbers of the key columns of a table, where there is one
abbrev pub keys_of : Option TableDef → List ℕ
keys_of None = []
keys_of (Some def) = def.keys

-- the numbers of the key columns of table number n
abbrev pub keys_at : List TableDef → ℕ → List ℕ
keys_at tables n = keys_of (slice_get tables n)

-- what holds of each table of a schema
pub record IsTable (def : TableDef) : Type 0 where
  pub few : length def.columns ≤ 32
  pub narrow : slot_len def.columns ≤ 4096
  pub key : has_int_key def.columns def.keys ≡ true
