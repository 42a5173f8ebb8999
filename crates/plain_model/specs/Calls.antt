-- The calls that a keeper of rows was sent, the latest first, and what they tell.
use Rattle.std.specs.Prelude.{◌≡◌, ◌⊎◌, ℕ, ◌+◌, ◌≤◌, Bool, true, false, not, ◌&&◌, ◌||◌, ◌==◌, nat_le, List}
use Rattle.std.specs.Prelude.{[], ◌∷◌, length, unwrap_or, Option, None, Some, Result, Ok, Err, IsTrue, ⊤}
use Rattle.row_types.specs.declared.row.Value.{Value}
use Rattle.key_space.specs.declared.range.Range.{Range}
use Rattle.key_space.specs.declared.lock.LockName.{LockName}
use Rattle.key_space.specs.declared.lock.Mode.{Mode}
use Rattle.key_space.specs.Locks.{is_exclusive}
use Rattle.key_space.specs.Plays.{RowOp, Get, Part, Put, Del, UndoTo}
use Rattle.plain_model.specs.declared.stop.Stop.{Stop}
use Rattle.plain_model.specs.declared.stop.Stop.TheVariants as stops
use Rattle.plain_model.specs.declared.stop.Resource.{Resource}
use Rattle.plain_model.specs.declared.stop.Resource.TheVariants.{Pages, Nodes, Txn, Locks, LogFull, Busy}

-- what a call that gave a stop had asked for
pub data Asked : Type 0 where
  AskLock : (name : LockName) → (mode : Mode) → Asked
  AskGet : (table key : ℕ) → Asked
  AskChunk : (table : ℕ) → (range : Range) → Asked
  AskPut : (table : ℕ) → (row : List Value) → Asked
  AskDel : (table key : ℕ) → Asked
  AskMark : Asked
  AskUndoTo : (mark : ℕ) → Asked
  AskBegin : (age : Option ℕ) → Asked
  AskCommit : Asked
  AskUndo : Asked
  AskCheckpoint : Asked

-- a call with its answer
pub data Call : Type 0 where
  -- a transaction of this number has begun, with the age of an earlier one or its own number as its age
  Began : (age : Option ℕ) → (number : ℕ) → Call
  Committed : Call
  Undone : Call
  Locked : (name : LockName) → (mode : Mode) → Call
  -- a row operation was answered
  Did : (op : RowOp) → Call
  -- a checkpoint has opened this generation
  Opened : (generation : ℕ) → Call
  -- a call gave a stop
  Stopped : (asked : Asked) → (stop : Stop) → Call

-- the calls after one more, by its answer
abbrev pub told : {T : Type 0} → (T → Call) → Asked → Result T Stop → List Call → List Call
told call asked (Ok answer) calls = call answer ∷ calls
told call asked (Err stop) calls = Stopped asked stop ∷ calls

-- the calls after a mark, which is told only where it gave a stop
abbrev pub told_mark : {T : Type 0} → Result T Stop → List Call → List Call
told_mark (Ok mark) calls = calls
told_mark (Err stop) calls = Stopped AskMark stop ∷ calls

-- ---- What the calls tell

-- the row operations answered since the last begin, the latest first
abbrev pub ops_of : List Call → List RowOp
ops_of [] = []
ops_of (Began age number ∷ calls) = []
ops_of (Committed ∷ calls) = ops_of calls
ops_of (Undone ∷ calls) = ops_of calls
ops_of (Locked name mode ∷ calls) = ops_of calls
ops_of (Did op ∷ calls) = op ∷ ops_of calls
ops_of (Opened generation ∷ calls) = ops_of calls
ops_of (Stopped asked stop ∷ calls) = ops_of calls

-- how many there are
abbrev pub op_count : List Call → ℕ
op_count calls = length (ops_of calls)

-- a transaction still runs behind a stop, unless it is spent
abbrev pub runs_behind : Stop → Bool → Bool
runs_behind (stops.Refused resource) runs = runs
runs_behind (stops.Die holder) runs = runs
runs_behind (stops.Fault file) runs = runs
runs_behind (stops.Spent limit) runs = false
runs_behind stops.OutOfMemory runs = runs

-- whether a transaction runs
abbrev pub is_running : List Call → Bool
is_running [] = false
is_running (Began age number ∷ calls) = true
is_running (Committed ∷ calls) = false
is_running (Undone ∷ calls) = false
is_running (Locked name mode ∷ calls) = is_running calls
is_running (Did op ∷ calls) = is_running calls
is_running (Opened generation ∷ calls) = is_running calls
is_running (Stopped asked stop ∷ calls) = runs_behind stop (is_running calls)

-- the age of the last transaction that has begun: the one that it was given, else its number
abbrev pub age_of : List Call → Option ℕ
age_of [] = None
age_of (Began age number ∷ calls) = Some (unwrap_or age number)
age_of (Committed ∷ calls) = age_of calls
age_of (Undone ∷ calls) = age_of calls
age_of (Locked name mode ∷ calls) = age_of calls
age_of (Did op ∷ calls) = age_of calls
age_of (Opened generation ∷ calls) = age_of calls
age_of (Stopped asked stop ∷ calls) = age_of calls

-- how many stops were given
abbrev pub stop_count : List Call → ℕ
stop_count [] = 0
stop_count (Began age number ∷ calls) = stop_count calls
stop_count (Committed ∷ calls) = stop_count calls
stop_count (Undone ∷ calls) = stop_count calls
stop_count (Locked name mode ∷ calls) = stop_count calls
stop_count (Did op ∷ calls) = stop_count calls
stop_count (Opened generation ∷ calls) = stop_count calls
stop_count (Stopped asked stop ∷ calls) = 1 + stop_count calls

-- ---- Locks

-- a lock of this name and mode lets a key of a table be read, or be written too
abbrev pub lets : Bool → LockName → Mode → ℕ → ℕ → Bool
lets write name mode table key =
    (name.table == table) && (nat_le name.range.lo.number key && nat_le key name.range.hi.number)
    && (is_exclusive mode || not write)

-- whether a lock given since the begin lets a key of a table be read, or be written too
abbrev pub is_locked : Bool → List Call → ℕ → ℕ → Bool
is_locked write [] table key = false
is_locked write (Began age number ∷ calls) table key = false
is_locked write (Committed ∷ calls) table key = false
is_locked write (Undone ∷ calls) table key = false
is_locked write (Locked name mode ∷ calls) table key =
    lets write name mode table key || is_locked write calls table key
is_locked write (Did op ∷ calls) table key = is_locked write calls table key
is_locked write (Opened generation ∷ calls) table key = is_locked write calls table key
is_locked write (Stopped asked stop ∷ calls) table key = is_locked write calls table key

-- the table of the last lock given since the begin
abbrev pub locked_table : List Call → Option ℕ
locked_table [] = None
locked_table (Began age number ∷ calls) = None
locked_table (Committed ∷ calls) = None
locked_table (Undone ∷ calls) = None
locked_table (Locked name mode ∷ calls) = Some name.table
locked_table (Did op ∷ calls) = locked_table calls
locked_table (Opened generation ∷ calls) = locked_table calls
locked_table (Stopped asked stop ∷ calls) = locked_table calls

-- the keys from one to another of the table of the last lock may be looked up
pub record MayRead (calls : List Call) (table lo hi : ℕ) : Type 0 where
  pub table_is : locked_table calls ≡ Some table
  pub locked : (key : ℕ) → lo ≤ key → key ≤ hi → IsTrue (is_locked false calls table key)

-- they may be changed too
pub record MayWrite (calls : List Call) (table lo hi : ℕ) : Type 0 where
  pub table_is : locked_table calls ≡ Some table
  pub locked : (key : ℕ) → lo ≤ key → key ≤ hi → IsTrue (is_locked true calls table key)

-- ---- Marks

-- an operation doesn't go back to fewer operations than the mark counts
abbrev pub KeepsMark : ℕ → RowOp → Type 0
KeepsMark mark (UndoTo count) = mark ≤ count
KeepsMark mark (Get table key answer) = ⊤
KeepsMark mark (Part table from upto answer) = ⊤
KeepsMark mark (Put table row) = ⊤
KeepsMark mark (Del table key answer) = ⊤

-- the mark counts so many of the first operations, and no later one goes back to fewer
abbrev pub IsMark : List RowOp → ℕ → Type 0
IsMark [] mark = mark ≡ 0
IsMark (op ∷ ops) mark = (mark ≡ length (op ∷ ops)) ⊎ (KeepsMark mark op × IsMark ops mark)

-- ---- Causes

-- a call that asked for this may give a lack of this resource
abbrev pub MayGiveLack : Asked → Resource → Type 0
MayGiveLack (AskLock name mode) (Locks held limit) = ⊤
MayGiveLack (AskPut table row) (Pages used limit) = ⊤
MayGiveLack (AskPut table row) (Nodes used limit) = ⊤
MayGiveLack (AskPut table row) (Txn used limit) = ⊤
MayGiveLack (AskDel table key) (Txn used limit) = ⊤
MayGiveLack (AskBegin age) (LogFull bytes limit) = ⊤
MayGiveLack AskCheckpoint (Busy oldest) = ⊤
MayGiveLack _ _ = ⊥

-- a call that asked for this may find an older transaction in its way: a lock alone
abbrev pub MayGiveDie : Asked → Type 0
MayGiveDie (AskLock name mode) = ⊤
MayGiveDie _ = ⊥

-- the stop may be given by a call that asked for this
abbrev pub MayGive : Asked → Stop → Type 0
MayGive asked (stops.Refused resource) = MayGiveLack asked resource
MayGive asked (stops.Die holder) = MayGiveDie asked
MayGive asked (stops.Fault file) = ⊤
MayGive asked (stops.Spent limit) = ⊤
MayGive asked stops.OutOfMemory = ⊤
