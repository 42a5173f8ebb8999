-- What changes of rows make of tables.
use Rattle.std.specs.Prelude.{List, [], ◌∷◌, map, is_some, IsTrue, ⊤}
use Rattle.row_types.specs.declared.definition.TableDef.{TableDef}
use Rattle.row_types.specs.Keys.{key_of_int}
use Rattle.row_types.specs.Slot.{IsRowOf}
use Rattle.row_types.specs.Tables.{Tables, empty_table}
use Rattle.key_space.specs.Plays.{OfTable, changed, row_at, with_row, without_key}
use Rattle.op_log.specs.declared.change.RowChange.{RowChange}
use Rattle.op_log.specs.declared.change.RowChange.TheVariants.{Put, Del}

-- the tables of a schema without rows
abbrev pub empty_tables : List TableDef → Tables
empty_tables defs = map empty_table defs

-- a change can be played on tables: the row fits, and one that is taken away is there
abbrev pub IsPlayed : Tables → RowChange → Type 0
IsPlayed tables (Put table row) = OfTable tables table (λ t. IsRowOf t.def.columns row)
IsPlayed tables (Del table number) =
    OfTable tables table (λ t. IsTrue (is_some (row_at t.def.keys t.rows (key_of_int number))))

-- the tables after a change
abbrev pub tables_behind_change : Tables → RowChange → Tables
tables_behind_change tables (Put table row) = changed tables table (λ t. with_row t.def.keys t.rows row)
tables_behind_change tables (Del table number) =
    changed tables table (λ t. without_key t.def.keys t.rows (key_of_int number))

-- the tables after changes
abbrev pub played : Tables → List RowChange → Tables
played tables [] = tables
played tables (change ∷ changes) = played (tables_behind_change tables change) changes

-- changes can be played one after the other
abbrev pub ArePlayed : Tables → List RowChange → Type 0
ArePlayed tables [] = ⊤
ArePlayed tables (change ∷ changes) =
    IsPlayed tables change × ArePlayed (tables_behind_change tables change) changes

-- the tables after batches of changes
abbrev pub played_batches : Tables → List (List RowChange) → Tables
played_batches tables [] = tables
played_batches tables (batch ∷ batches) = played_batches (played tables batch) batches

-- batches can be played one after the other
abbrev pub BatchesPlayed : Tables → List (List RowChange) → Type 0
BatchesPlayed tables [] = ⊤
BatchesPlayed tables (batch ∷ batches) = ArePlayed tables batch × BatchesPlayed (played tables batch) batches
