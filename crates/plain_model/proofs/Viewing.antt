-- Tables as definitions with their rows.
use Rattle.std.proofs.Common.{◌≡◌, ℕ, zero, suc, ◌<◌, List, [], ◌∷◌, length, map, Some, refl, ap, sym, subst, arith}
use Rattle.std.specs.Prelude.{slice_get, slice_index_or}
use Rattle.std.specs.List.{slice_set, AllByRecursion}
use Rattle.row_types.specs.declared.definition.TableDef.{TableDef}
use Rattle.row_types.specs.Schema.{IsSchema}
use Rattle.row_types.specs.Tables.{TableRows, Tables, IsTableRows, AreTables, schema_of, empty_table}
use Rattle.key_space.specs.Plays.{Rows, changed}
use Rattle.plain_model.specs.Meaning.{table_at}
use Rattle.plain_model.specs.Views.{paired}
use Rattle.plain_model.proofs.MeaningLaws.{schema_changed, rows_changed}

pub paired_schema : (defs : List TableDef) (lists : List Rows) → length lists ≡ length defs → schema_of (paired defs lists) ≡ defs
paired_schema [] lists e = refl
paired_schema (def ∷ defs) [] e = absurd (omega arith)
paired_schema (def ∷ defs) (rows ∷ lists) e = ap (λ (ds : List TableDef). def ∷ ds) (paired_schema defs lists (omega arith))

pub paired_len : (defs : List TableDef) (lists : List Rows) → length lists ≡ length defs → length (paired defs lists) ≡ length defs
paired_len [] lists e = refl
paired_len (def ∷ defs) [] e = absurd (omega arith)
paired_len (def ∷ defs) (rows ∷ lists) e = let rest = paired_len defs lists (omega arith) in omega arith

-- other rows in one place are other rows of that table
pub paired_set : (defs : List TableDef) (lists : List Rows) (n : ℕ) (rows : Rows) → paired defs (slice_set lists n rows) ≡ changed (paired defs lists) n (λ t. rows)
paired_set [] lists n rows = refl
paired_set (def ∷ defs) [] n rows = refl
paired_set (def ∷ defs) (list ∷ lists) zero rows = refl
paired_set (def ∷ defs) (list ∷ lists) (suc n) rows = ap (λ (ts : Tables). record { def = def; rows = list } ∷ ts) (paired_set defs lists n rows)

pub paired_get : (defs : List TableDef) (lists : List Rows) (n : ℕ) (rows : Rows) → length lists ≡ length defs → slice_get lists n ≡ Some rows → (table_at (paired defs lists) n).rows ≡ rows
paired_get [] [] n rows e at = absurd cc
paired_get [] (list ∷ lists) n rows e at = absurd (omega arith)
paired_get (def ∷ defs) [] n rows e at = absurd cc
paired_get (def ∷ defs) (list ∷ lists) zero rows e at = cc
paired_get (def ∷ defs) (list ∷ lists) (suc n) rows e at = paired_get defs lists n rows (omega arith) at

pub paired_at : (defs : List TableDef) (lists : List Rows) (n : ℕ) (other : Rows) → length lists ≡ length defs → n < length lists → slice_index_or lists n other ≡ (table_at (paired defs lists) n).rows
paired_at [] [] n other e inside = absurd (omega arith)
paired_at [] (list ∷ lists) n other e inside = absurd (omega arith)
paired_at (def ∷ defs) [] n other e inside = absurd (omega arith)
paired_at (def ∷ defs) (list ∷ lists) zero other e inside = refl
paired_at (def ∷ defs) (list ∷ lists) (suc n) other e inside = paired_at defs lists n other (omega arith) (omega arith)

-- where each list is empty, the tables are those that their definitions begin with
pub paired_empty : (defs : List TableDef) → paired defs (map (λ def. []) defs) ≡ map empty_table defs
paired_empty [] = refl
paired_empty (def ∷ defs) = ap (λ (ts : Tables). empty_table def ∷ ts) (paired_empty defs)

empty_schema : (defs : List TableDef) → schema_of (map empty_table defs) ≡ defs
empty_schema [] = refl
empty_schema (def ∷ defs) = ap (λ (ds : List TableDef). def ∷ ds) (empty_schema defs)

empty_rows : (defs : List TableDef) → AllByRecursion IsTableRows (map empty_table defs)
empty_rows [] = tt
empty_rows (def ∷ defs) = (record { fits = tt; rising = tt }, empty_rows defs)

pub empty_are_tables : (defs : List TableDef) → IsSchema defs → AreTables (map empty_table defs)
empty_are_tables defs is = record { schema = subst IsSchema (sym (empty_schema defs)) is; rows = empty_rows defs }

-- tables with other rows of one are tables
pub changed_are_tables : (tables : Tables) (n : ℕ) (rows : Rows) → AreTables tables → IsTableRows (record (table_at tables n) { rows = rows }) → AreTables (changed tables n (λ t. rows))
changed_are_tables tables n rows are is = record {
  schema = subst IsSchema (sym (schema_changed tables n (λ t. rows))) are.schema;
  rows = rows_changed tables n (λ t. rows) are.rows (λ t at old. subst (λ (x : TableRows). IsTableRows (record x { rows = rows })) (get_at tables n t at) is);
}
  where
    get_at : (ts : Tables) (k : ℕ) (t : TableRows) → slice_get ts k ≡ Some t → table_at ts k ≡ t
    get_at [] k t e = absurd cc
    get_at (x ∷ xs) zero t e = cc
    get_at (x ∷ xs) (suc k) t e = get_at xs k t e
