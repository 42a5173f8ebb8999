-- What the calls of an object did to tables, where their answers are those of tables.
use Rattle.std.specs.Prelude.{ℕ, if◌then◌else◌, ◌==◌, List, [], ◌∷◌, length}
use Rattle.row_types.specs.Tables.{Tables}
use Rattle.key_space.specs.Plays.{RowOp, Get, Part, Put, Del, UndoTo, AnswersAt, tables_after}
use Rattle.plain_model.specs.Calls.{Call, ops_of}

-- the tables after the first n operations, where moments has
-- those after each number of them, the latest first
abbrev pub at_moment : ℕ → List Tables → Tables
at_moment n [] = []
at_moment n (tables ∷ moments) = if length moments == n then tables else at_moment n moments

-- the latest of them
abbrev pub latest : List Tables → Tables
latest [] = []
latest (tables ∷ moments) = tables

-- the tables after one more operation
abbrev pub tables_behind : List Tables → RowOp → Tables
tables_behind moments (Get table key answer) = latest moments
tables_behind moments (Part table from upto answer) = latest moments
tables_behind moments (Put table row) = tables_after [] (latest moments) (Put table row)
tables_behind moments (Del table key answer) = tables_after [] (latest moments) (Del table key answer)
tables_behind moments (UndoTo count) = at_moment count moments

-- the tables after each number of operations, both the latest first
abbrev pub moments_of : Tables → List RowOp → List Tables
moments_of first [] = first ∷ []
moments_of first (op ∷ ops) = tables_behind (moments_of first ops) op ∷ moments_of first ops

-- the tables after the operations since the last begin, which began from these
abbrev pub tables_of : Tables → List Call → Tables
tables_of first calls = latest (moments_of first (ops_of calls))

-- each operation answers what the tables at its place say
abbrev pub OpsPlay : Tables → List RowOp → Type 0
OpsPlay first [] = Unit {0}
OpsPlay first (op ∷ ops) = AnswersAt (latest (moments_of first ops)) (length ops) op × OpsPlay first ops

-- the operations answered since the last begin play on from these tables
abbrev pub CallsPlay : Tables → List Call → Type 0
CallsPlay first calls = OpsPlay first (ops_of calls)
