-- What was called since a moment.
use Rattle.std.specs.Prelude.{◌≡◌, ◌⊎◌, ℕ, ◌++◌, Bool, true, false, List, [], ◌∷◌, Option, IsTrue}
use Rattle.row_types.specs.declared.row.Value.{Value}
use Rattle.key_space.specs.declared.lock.LockName.{LockName}
use Rattle.key_space.specs.declared.lock.Mode.{Mode}
use Rattle.key_space.specs.Plays.{RowOp, Put, Del}
use Rattle.plain_model.specs.declared.stop.Stop.{Stop}
use Rattle.plain_model.specs.Calls.{Asked, AskLock, AskGet, AskChunk, AskPut, AskDel, AskMark, AskUndoTo}
use Rattle.plain_model.specs.Calls.{Call, Began, Locked, Did, Stopped, is_running}

-- a call that asked for a row operation or a mark
abbrev pub is_row_call : Asked → Bool
is_row_call (AskGet table key) = true
is_row_call (AskChunk table range) = true
is_row_call (AskPut table row) = true
is_row_call (AskDel table key) = true
is_row_call AskMark = true
is_row_call (AskUndoTo mark) = true
is_row_call _ = false

-- nothing was called but row operations and marks
pub data Since (old : List Call) : List Call → Type 0 where
  here : Since old old
  did : (op : RowOp) (calls : List Call) → Since old calls → Since old (Did op ∷ calls)
  stopped : (asked : Asked) (stop : Stop) (calls : List Call) → is_row_call asked ≡ true → Since old calls
      → Since old (Stopped asked stop ∷ calls)

-- a statement's lock is its first call, of this name and mode, and no other lock is asked for
abbrev pub LocksFirst : LockName → Mode → List Call → List Call → Type 0
LocksFirst name mode old new =
    ((stop : Stop) × (new ≡ Stopped (AskLock name mode) stop ∷ old)) ⊎ Since (Locked name mode ∷ old) new

-- the last call gave this stop, and before it a transaction ran
pub record EndsBy (calls : List Call) (stop : Stop) : Type 0 where
  pub asked : Asked
  pub before : List Call
  pub last : calls ≡ Stopped asked stop ∷ before
  pub running : IsTrue (is_running before)

-- a call begins a transaction
abbrev pub is_begin : Call → Bool
is_begin (Began age number) = true
is_begin _ = false

-- the first call since a moment was a begin that was answered, and no other begin was
pub data BeganSince (old : List Call) : List Call → Type 0 where
  begins : (age : Option ℕ) (number : ℕ) → BeganSince old (Began age number ∷ old)
  then : (call : Call) (calls : List Call) → is_begin call ≡ false → BeganSince old calls
      → BeganSince old (call ∷ calls)

-- the rows that put calls named, refused ones too, the latest first
abbrev pub rows_put : List Call → List (List Value)
rows_put [] = []
rows_put (Did (Put table row) ∷ calls) = row ∷ rows_put calls
rows_put (Stopped (AskPut table row) stop ∷ calls) = row ∷ rows_put calls
rows_put (_ ∷ calls) = rows_put calls

-- the keys that del calls named, refused ones too, the latest first
abbrev pub keys_taken : List Call → List ℕ
keys_taken [] = []
keys_taken (Did (Del table key was) ∷ calls) = key ∷ keys_taken calls
keys_taken (Stopped (AskDel table key) stop ∷ calls) = key ∷ keys_taken calls
keys_taken (_ ∷ calls) = keys_taken calls

-- a list on top of another, the last of its elements on top
abbrev pub pushed : {A : Type 0} → List A → List A → List A
pushed [] list = list
pushed (x ∷ xs) list = pushed xs (x ∷ list)

-- what was named since is the front of a list, each element once and in order
pub record InOrder {A : Type 0} (all before now : List A) : Type 0 where
  pub sent : List A
  pub rest : List A
  pub front : all ≡ sent ++ rest
  pub added : now ≡ pushed sent before
