-- Tables that are asked for lead from tables to tables.
use Rattle.std.proofs.Common.{◌≡◌, suc, cond, List, [], ◌∷◌, ◌++◌, length, Option, None, Some, refl, sym, ap, subst}
use Rattle.std.specs.Prelude.{is_none}
use Rattle.std.specs.List.{AllByRecursion}
use Rattle.row_types.specs.declared.definition.TableDef.{TableDef}
use Rattle.row_types.specs.declared.fault.SchemaFault.{SchemaFault}
use Rattle.row_types.specs.Schema.{refusal, IsNamed, IsSchema}
use Rattle.row_types.specs.Tables.{Tables, IsTableRows, AreTables, schema_of, empty_table, with_table, created}
use Rattle.row_types.proofs.SchemaLaws.{schema_push}

schema_of-push : (tables : Tables) (def : TableDef) → schema_of (tables ++ empty_table def ∷ []) ≡ schema_of tables ++ def ∷ []
schema_of-push [] def = refl
schema_of-push (t ∷ tables) def = ap (λ (defs : List TableDef). t.def ∷ defs) (schema_of-push tables def)

rows_push : (tables : Tables) (def : TableDef) → AllByRecursion IsTableRows tables → AllByRecursion IsTableRows (tables ++ empty_table def ∷ [])
rows_push [] def all = (record { fits = tt; rising = tt }, tt)
rows_push (t ∷ tables) def all = (all.0, rows_push tables def all.1)

-- tables stay tables with one more that isn't refused
tables_push : (tables : Tables) (def : TableDef) → AreTables tables → IsNamed def → refusal (schema_of tables) def ≡ None → AreTables (tables ++ empty_table def ∷ [])
tables_push tables def are named none = record {
  schema = subst IsSchema (sym (schema_of-push tables def)) (schema_push (schema_of tables) def are.schema named none);
  rows = rows_push tables def are.rows;
}

one_more : (tables : Tables) (def : TableDef) (o : Option SchemaFault) → AreTables tables → IsNamed def → refusal (schema_of tables) def ≡ o → AreTables (cond (is_none o) (tables ++ empty_table def ∷ []) tables)
one_more tables def None are named none = tables_push tables def are named none
one_more tables def (Some fault) are named some = are

pub created_are : (tables : Tables) (defs : List TableDef) → AreTables tables → AllByRecursion IsNamed defs → AreTables (created tables defs).1
created_are tables [] are named = are
created_are tables (def ∷ defs) are named =
    created_are (with_table tables def) defs (one_more tables def (refusal (schema_of tables) def) are named.0 refl) named.1

pub length-verdicts : (tables : Tables) (defs : List TableDef) → length (created tables defs).0 ≡ length defs
length-verdicts tables [] = refl
length-verdicts tables (def ∷ defs) = ap suc (length-verdicts (with_table tables def) defs)
