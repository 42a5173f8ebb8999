-- The changes of rows that stand after some operations of a transaction.
use Rattle.std.specs.Prelude.{ℕ, ◌-◌, ◌^◌, ℤ, pos, negsuc, Bool, true, false, if◌then◌else◌, ◌==◌, nat_le}
use Rattle.std.specs.Prelude.{List, [], ◌∷◌, ◌++◌, length}
use Rattle.row_types.specs.Keys.{key_of_int}
use Rattle.key_space.specs.Plays.{RowOp, Get, Part, Put, Del, UndoTo}
use Rattle.op_log.specs.declared.change.RowChange.{RowChange}
use Rattle.op_log.specs.declared.change.RowChange.TheVariants as change

-- the whole number whose key this is
abbrev pub int_of_key : ℕ → ℤ
int_of_key key = if nat_le (2 ^ 63) key then pos (key - 2 ^ 63) else negsuc (2 ^ 63 - key - 1)

-- the changes after the first n operations, where moments has
-- those after each number of them, the latest first
abbrev pub changes_at : ℕ → List (List RowChange) → List RowChange
changes_at n [] = []
changes_at n (changes ∷ moments) = if length moments == n then changes else changes_at n moments

-- the latest of them
abbrev pub latest_changes : List (List RowChange) → List RowChange
latest_changes [] = []
latest_changes (changes ∷ moments) = changes

-- the changes, and one more that takes the row of this key away, where one was there
abbrev pub with_del : Bool → ℕ → ℕ → List RowChange → List RowChange
with_del true table key changes = changes ++ change.Del table (int_of_key key) ∷ []
with_del false table key changes = changes

-- the changes after one operation more
abbrev pub changes_behind : List (List RowChange) → RowOp → List RowChange
changes_behind moments (Get table key answer) = latest_changes moments
changes_behind moments (Part table from upto answer) = latest_changes moments
changes_behind moments (Put table row) = latest_changes moments ++ change.Put table row ∷ []
changes_behind moments (Del table key answer) = with_del answer table key (latest_changes moments)
changes_behind moments (UndoTo count) = changes_at count moments

-- the changes after each number of operations, both the latest first
abbrev pub change_moments : List RowOp → List (List RowChange)
change_moments [] = [] ∷ []
change_moments (op ∷ ops) = changes_behind (change_moments ops) op ∷ change_moments ops

-- the changes that stand after operations, in order
abbrev pub standing : List RowOp → List RowChange
standing ops = latest_changes (change_moments ops)

-- the operation that makes a change
abbrev pub op_of : RowChange → RowOp
op_of (change.Put table row) = Put table row
op_of (change.Del table number) = Del table (key_of_int number) true
