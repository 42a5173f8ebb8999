-- Row operations, and what it means that they play from tables to tables.
use Rattle.std.specs.Prelude.{◌≡◌, ℕ, zero, suc, ◌≤◌, Bool, not, ◌&&◌, ◌==◌, nat_lt, nat_le, is_some, List}
use Rattle.std.specs.Prelude.{[], ◌∷◌, ◌++◌, length, slice_index_or, Option}
use Rattle.std.specs.List.{filter, find}
use Rattle.row_types.specs.declared.row.Value.{Value}
use Rattle.row_types.specs.Slot.{IsRowOf}
use Rattle.row_types.specs.Keys.{row_key}
use Rattle.row_types.specs.Tables.{TableRows, Tables}

-- the rows of a table, each a list of its values
abbrev pub Rows : Type 0
Rows = List (List Value)

-- an operation on a table, with its answer
pub data RowOp : Type 0 where
  -- the row of a key, or none
  Get : (table key : ℕ) → (answer : Option (List Value)) → RowOp
  -- the rows from a key to a key, both among them
  Part : (table from upto : ℕ) → (answer : List (List Value)) → RowOp
  -- set the row of its key
  Put : (table : ℕ) → (row : List Value) → RowOp
  -- take the row of a key away, and whether it was there
  Del : (table key : ℕ) → (answer : Bool) → RowOp
  -- go back to the tables after the first so many operations
  UndoTo : (count : ℕ) → RowOp

-- the row of a key
abbrev pub row_at : List ℕ → Rows → ℕ → Option (List Value)
row_at marks rows key = find (λ row. row_key marks row == key) rows

-- the rows whose keys lie between two, both among them
abbrev pub rows_between : List ℕ → Rows → ℕ → ℕ → Rows
rows_between marks rows from upto =
    filter (λ row. nat_le from (row_key marks row) && nat_le (row_key marks row) upto) rows

-- the row between those with lower keys and those with higher keys
abbrev pub with_row : List ℕ → Rows → List Value → Rows
with_row marks rows row =
    filter (λ other. nat_lt (row_key marks other) (row_key marks row)) rows ++ row
    ∷ filter (λ other. nat_lt (row_key marks row) (row_key marks other)) rows

-- the rows with other keys
abbrev pub without_key : List ℕ → Rows → ℕ → Rows
without_key marks rows key = filter (λ row. not (row_key marks row == key)) rows

-- the tables with the rows of table number n changed
abbrev pub changed : Tables → ℕ → (TableRows → Rows) → Tables
changed [] n rows_of = []
changed (t ∷ tables) zero rows_of = record t { rows = rows_of t } ∷ tables
changed (t ∷ tables) (suc n) rows_of = t ∷ changed tables n rows_of

-- a fact of table number n
abbrev pub OfTable : Tables → ℕ → (TableRows → Type 0) → Type 0
OfTable [] n Fact = ⊥
OfTable (t ∷ tables) zero Fact = Fact t
OfTable (t ∷ tables) (suc n) Fact = OfTable tables n Fact

-- the answer is what the tables say, a row that is put fits, and one goes back to tables that were there
abbrev pub AnswersAt : Tables → ℕ → RowOp → Type 0
AnswersAt tables before (Get table key answer) =
    OfTable tables table (λ t. answer ≡ row_at t.def.keys t.rows key)
AnswersAt tables before (Part table from upto answer) =
    OfTable tables table (λ t. answer ≡ rows_between t.def.keys t.rows from upto)
AnswersAt tables before (Put table row) = OfTable tables table (λ t. IsRowOf t.def.columns row)
AnswersAt tables before (Del table key answer) =
    OfTable tables table (λ t. answer ≡ is_some (row_at t.def.keys t.rows key))
AnswersAt tables before (UndoTo count) = count ≤ before

-- the tables after one operation, where moments has the tables before and after each earlier one
abbrev pub tables_after : List Tables → Tables → RowOp → Tables
tables_after moments tables (Get table key answer) = tables
tables_after moments tables (Part table from upto answer) = tables
tables_after moments tables (Put table row) = changed tables table (λ t. with_row t.def.keys t.rows row)
tables_after moments tables (Del table key answer) =
    changed tables table (λ t. without_key t.def.keys t.rows key)
tables_after moments tables (UndoTo count) = slice_index_or moments count tables

-- the operations play on from these tables, where before has the tables before each earlier operation
abbrev pub PlaysOn : List Tables → Tables → List RowOp → Tables → Type 0
PlaysOn before tables [] end = tables ≡ end
PlaysOn before tables (op ∷ ops) end =
    AnswersAt tables (length before) op
    × PlaysOn (before ++ tables ∷ []) (tables_after (before ++ tables ∷ []) tables op) ops end

-- the operations, with their answers, play from the first tables to the second
abbrev pub Plays : Tables → List RowOp → Tables → Type 0
Plays first ops end = PlaysOn [] first ops end
