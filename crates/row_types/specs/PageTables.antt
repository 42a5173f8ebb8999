-- The tables of a list of pages: the rows of all slots in the order of their keys.
use Rattle.std.specs.Prelude.{ℕ, ◌+◌, Bool, true, false, ◌&&◌, ◌||◌, ◌==◌, if◌then◌else◌, nat_lt}
use Rattle.std.specs.Prelude.{is_none, List, [], ◌∷◌, map, Option, None, Some}
use Rattle.std.specs.List.{list_all, list_any, flat_map}
use Rattle.row_types.specs.declared.definition.TableDef.{TableDef}
use Rattle.row_types.specs.declared.row.Value.{Value}
use Rattle.row_types.specs.Keys.{row_key}
use Rattle.row_types.specs.Schema.{columns_at}
use Rattle.row_types.specs.Tables.{Tables, TableRows}
use Rattle.row_types.specs.Page.{page_fault, page_rows}

-- a page of a table: the table's number, and the page's bytes
pub record TablePage : Type 0 where
  pub table : ℕ
  pub bytes : List ℕ

-- the page has no fault
abbrev pub is_sound : List TableDef → TablePage → Bool
is_sound defs page = is_none (page_fault (columns_at defs page.table) page.bytes)

-- the rows of one table, page after page
abbrev pub rows_of : List TableDef → ℕ → List TablePage → List (List Value)
rows_of defs table pages =
    flat_map (λ p. if p.table == table then page_rows (columns_at defs table) p.bytes else []) pages

-- a row put before the first that has a greater key
abbrev pub with_row : List ℕ → List Value → List (List Value) → List (List Value)
with_row keys row [] = row ∷ []
with_row keys row (other ∷ rows) =
    if nat_lt (row_key keys row) (row_key keys other) then row ∷ other ∷ rows
    else other ∷ with_row keys row rows

-- rows in the order of their keys
abbrev pub in_key_order : List ℕ → List (List Value) → List (List Value)
in_key_order keys [] = []
in_key_order keys (row ∷ rows) = with_row keys row (in_key_order keys rows)

-- a key stands twice
abbrev pub has_twice : List ℕ → Bool
has_twice [] = false
has_twice (key ∷ keys) = list_any (λ other. other == key) keys || has_twice keys

-- a table of the pages
abbrev pub table_of : List TableDef → List TablePage → ℕ → TableDef → TableRows
table_of defs pages n def = record { def = def; rows = in_key_order def.keys (rows_of defs n pages) }

-- the tables from number n on
abbrev pub tables_from : List TableDef → List TablePage → ℕ → List TableDef → Tables
tables_from defs pages n [] = []
tables_from defs pages n (def ∷ rest) = table_of defs pages n def ∷ tables_from defs pages (n + 1) rest

-- no table has a key twice
abbrev pub has_no_key_twice : Tables → Bool
has_no_key_twice tables =
    list_all (λ t. if has_twice (map (row_key t.def.keys) t.rows) then false else true) tables

-- The tables of the pages, where each slot is in its grammar and no key stands twice in a table.
unfoldable pub tables_of : List TableDef → List TablePage → Option Tables
tables_of defs pages =
    if list_all (is_sound defs) pages && has_no_key_twice (tables_from defs pages 0 defs)
    then Some (tables_from defs pages 0 defs) else None
