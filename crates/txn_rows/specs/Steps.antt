-- What stands in lists of rows, and the steps by which a transaction has changed it.
use Rattle.std.specs.Prelude.{◌≡◌, ℕ, ◌+◌, ◌<◌, ◌≤◌, ◌==◌, ◌&&◌, if◌then◌else◌, nat_lt, IsSome, List, [], ◌∷◌}
use Rattle.std.specs.Prelude.{◌++◌, length, take, slice_get, slice_index_or, Option, None, Some}
use Rattle.std.specs.List.{AllByRecursion}
use Rattle.std.specs.Option.{option_flatten}
use Rattle.row_types.specs.declared.definition.TableDef.{TableDef}
use Rattle.row_types.specs.declared.row.Value.{Value}
use Rattle.row_types.specs.Tables.{TableRows, Tables, AreTables, schema_of}
use Rattle.key_space.specs.Plays.{row_at}
use Rattle.op_log.specs.Changes.{change_text}
use Rattle.op_log.specs.declared.change.RowChange.{RowChange}
use Rattle.row_lists.specs.Held.{Entries, at_key, stood}
use Rattle.txn_rows.specs.declared.undo.Step.{Step}

-- what stands at each key of each table
abbrev pub State : Type 0
State = ℕ → ℕ → Option (Option (List Value))

-- what stands in the lists of the tables
abbrev pub stands : List Entries → State
stands lists table key = at_key (slice_index_or lists table []) key

-- the same stands in two states
abbrev pub IsSame : State → State → Type 0
IsSame a b = (table key : ℕ) → a table key ≡ b table key

-- a state with one other thing at a key of a table
abbrev pub with_at : State → ℕ → ℕ → Option (Option (List Value)) → State
with_at state table key what t k = if (table == t) && (key == k) then what else state t k

-- the state before a step
abbrev pub back : State → Step → State
back state step = with_at state step.table step.key.number (stood step.before)

-- the state before steps, the earliest of which is the first of the list
abbrev pub back_all : State → List Step → State
back_all state [] = state
back_all state (step ∷ steps) = back (back_all state steps) step

-- the rows of these tables are those of the state, and their definitions are these
pub record Holds (defs : List TableDef) (state : State) (tables : Tables) : Type 0 where
  pub are : AreTables tables
  pub schema : schema_of tables ≡ defs
  pub rows : (n : ℕ) (t : TableRows) → slice_get tables n ≡ Some t →
      (key : ℕ) → option_flatten (state n key) ≡ row_at t.def.keys t.rows key

-- each step's key is there where the step is taken back
abbrev pub AreThere : State → List Step → Type 0
AreThere state [] = Unit {0}
AreThere state (step ∷ steps) =
    IsSome (back_all state steps step.table step.key.number) × AreThere state steps

-- the steps are those of the changes, whose bytes begin at this place of a frame
abbrev pub AreOf : List TableDef → ℕ → List Step → List RowChange → Type 0
AreOf defs at [] [] = Unit {0}
AreOf defs at [] (change ∷ changes) = ⊥
AreOf defs at (step ∷ steps) [] = ⊥
AreOf defs at (step ∷ steps) (change ∷ changes) =
    (step.len ≡ at) × AreOf defs (at + length (change_text defs change)) steps changes

-- the step came after fewer operations than these
abbrev pub IsBefore : ℕ → Step → Type 0
IsBefore count step = step.count < count

-- the step came after so many operations or more
abbrev pub IsSince : ℕ → Step → Type 0
IsSince count step = count ≤ step.count

-- where the steps from the operation with this number on
-- are taken back, these tables and these changes are left
pub record GoesBack (defs : List TableDef) (state : State) (steps : List Step) (changes : List RowChange)
    (count : ℕ) (tables : Tables) (left : List RowChange) : Type 0 where
  pub kept : List Step
  pub undone : List Step
  pub split : steps ≡ kept ++ undone
  pub before : AllByRecursion (IsBefore count) kept
  pub since : AllByRecursion (IsSince count) undone
  pub holds : Holds defs (back_all state undone) tables
  pub left_is : left ≡ take (length kept) changes

-- the bytes of the frame before the first of the steps, where there is one
abbrev pub first_len : List Step → Option ℕ
first_len [] = None
first_len (step ∷ steps) = Some step.len

-- the step is on one of the first so many tables
abbrev pub IsOnTable : ℕ → Step → Type 0
IsOnTable tables step = step.table < tables

-- the last step, where there is one, came after fewer operations than these
abbrev pub EndsBefore : ℕ → List Step → Type 0
EndsBefore count [] = Unit {0}
EndsBefore count (step ∷ []) = IsBefore count step
EndsBefore count (step ∷ next ∷ steps) = EndsBefore count (next ∷ steps)

-- a step more: something else was put at a key of a table
pub record IsStepped (old_lists new_lists : List Entries) (old new : List Step) (count len table key : ℕ)
    (what : Option (Option (List Value))) : Type 0 where
  pub step : Step
  pub added : new ≡ old ++ step ∷ []
  pub count_is : step.count ≡ count
  pub len_is : step.len ≡ len
  pub table_is : step.table ≡ table
  pub key_is : step.key.number ≡ key
  pub before : stood step.before ≡ stands old_lists table key
  pub lists_len : length new_lists ≡ length old_lists
  pub now : IsSame (stands new_lists) (with_at (stands old_lists) table key what)

-- steps were taken back, the latest first
pub record IsTakenBack (old_lists new_lists : List Entries) (undone : List Step) : Type 0 where
  pub lists_len : length new_lists ≡ length old_lists
  pub now : IsSame (stands new_lists) (back_all (stands old_lists) undone)

-- the rows are the same, at each key
pub record KeepsRows (old_lists new_lists : List Entries) : Type 0 where
  pub lists_len : length new_lists ≡ length old_lists
  pub rows : (table key : ℕ) →
      option_flatten (stands new_lists table key) ≡ option_flatten (stands old_lists table key)

-- nothing stands in the lists
abbrev pub AreEmpty : List Entries → Type 0
AreEmpty lists = (table key : ℕ) → stands lists table key ≡ None

-- a frame with the byte behind its changes, where it has any
abbrev pub closed : List ℕ → List ℕ
closed frame = if nat_lt 4 (length frame) then frame ++ 0 ∷ [] else frame
