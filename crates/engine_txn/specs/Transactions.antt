-- The transaction of a block, by its calls.
use Rattle.std.specs.Prelude.{◌≡◌, ◌⊎◌, ℕ, Bool, true, false, not, if◌then◌else◌, List, ◌∷◌, Option, Some}
use Rattle.std.specs.Prelude.{Result, IsTrue}
use Rattle.disk_core.specs.declared.store.FileName.{FileName}
use Rattle.plain_model.specs.declared.stop.Stop.{Stop}
use Rattle.plain_model.specs.declared.stop.Stop.TheVariants as stops
use Rattle.plain_model.specs.Calls.{AskBegin, AskUndo, Asked, Call, Began, Committed, Undone, Stopped, age_of}
use Rattle.plain_model.specs.Calls.{is_running, told}
use Rattle.plain_model.specs.Runs.{is_begin}

-- the calls after an undo, which is told only where a transaction runs
abbrev pub told_undo : {T : Type 0} → Result T Stop → List Call → List Call
told_undo result calls = if is_running calls then told (λ done. Undone) AskUndo result calls else calls

-- ---- Calls since a moment

-- each call since passes a test
pub data AllSince (test : Call → Bool) (old : List Call) : List Call → Type 0 where
  here : AllSince test old old
  then : (call : Call) (calls : List Call) → test call ≡ true → AllSince test old calls
      → AllSince test old (call ∷ calls)

-- some calls more
abbrev pub Grown : List Call → List Call → Type 0
Grown old new = AllSince (λ call. true) old new

-- the call commits
abbrev pub is_commit : Call → Bool
is_commit Committed = true
is_commit call = false

-- nothing was committed since
abbrev pub Uncommitted : List Call → List Call → Type 0
Uncommitted old new = AllSince (λ call. not (is_commit call)) old new

-- nothing was committed since, or by the last call alone
abbrev pub CommitsLast : List Call → List Call → Type 0
CommitsLast old new =
    Uncommitted old new ⊎ ((before : List Call) × (new ≡ Committed ∷ before) × Uncommitted old before)

-- no transaction was begun since
abbrev pub Continues : List Call → List Call → Type 0
Continues old new = AllSince (λ call. not (is_begin call)) old new

-- a call is asked for to begin a transaction, or while one runs
abbrev pub IsOfTransaction : Asked → List Call → Type 0
IsOfTransaction asked calls = ((age : Option ℕ) × (asked ≡ AskBegin age)) ⊎ IsTrue (is_running calls)

-- a call since gave this stop: a begin, or one while a transaction ran
pub record GaveSince (stop : Stop) (old new : List Call) : Type 0 where
  pub asked : Asked
  pub before : List Call
  pub since : Grown old before
  pub more : Grown (Stopped asked stop ∷ before) new
  pub placed : IsOfTransaction asked before

-- the last call has begun a transaction
abbrev pub HasBegun : List Call → Type 0
HasBegun calls = (age : Option ℕ) × (number : ℕ) × (old : List Call) × (calls ≡ Began age number ∷ old)

-- ---- At most one transaction

-- the first call since was the begin of a transaction of this age, and no other began
abbrev pub BeganWith : Option ℕ → List Call → List Call → Type 0
BeganWith age old new = (number : ℕ) × Continues (Began age number ∷ old) new

-- nothing was called, or a begin of this age that was refused
abbrev pub BeganNone : Option ℕ → List Call → List Call → Type 0
BeganNone age old new = (new ≡ old) ⊎ ((stop : Stop) × (new ≡ Stopped (AskBegin age) stop ∷ old))

-- at most one transaction was begun, directly after the calls before
abbrev pub IsOneTry : Option ℕ → List Call → List Call → Type 0
IsOneTry age old new = BeganNone age old new ⊎ BeganWith age old new

-- ---- How a try ends

-- the last call since gave that a device failed
pub record EndsByFault (old new : List Call) : Type 0 where
  pub asked : Asked
  pub file : FileName
  pub before : List Call
  pub last : new ≡ Stopped asked (stops.Fault file) ∷ before
  pub since : Grown old before

-- the transaction was undone, by a call or since it was spent
abbrev pub IsGivenUp : List Call → List Call → Type 0
IsGivenUp calls new =
    (new ≡ Undone ∷ calls) ⊎ ((limit : ℕ) × (new ≡ Stopped AskUndo (stops.Spent limit) ∷ calls))

-- the last call before the undo gave that this older transaction is in the way of one of this age
pub record DiedBy (holder age : ℕ) (old new : List Call) : Type 0 where
  pub asked : Asked
  pub before : List Call
  pub since : Grown old before
  pub undone : IsGivenUp (Stopped asked (stops.Die holder) ∷ before) new
  pub age_is : age_of before ≡ Some age

-- no transaction runs, or its undo ran out of memory
abbrev pub IsUndone : List Call → Type 0
IsUndone new =
    (is_running new ≡ false) ⊎ ((before : List Call) × (new ≡ Stopped AskUndo stops.OutOfMemory ∷ before))
