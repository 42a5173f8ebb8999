-- What the calls from a keeper's beginning on have done: the transactions that are over, and the one that
-- runs.
use Rattle.std.specs.Prelude.{◌≡◌, ◌⊎◌, ℕ, ◌+◌, ◌-◌, ◌^◌, ◌<◌, ◌≤◌, false, List, [], ◌∷◌, ◌++◌, map, length}
use Rattle.std.specs.Prelude.{None, IsTrue, ⊤}
use Rattle.row_types.specs.declared.definition.TableDef.{TableDef}
use Rattle.row_types.specs.Schema.{IsSchema}
use Rattle.row_types.specs.Tables.{Tables}
use Rattle.key_space.specs.Plays.{AnswersAt}
use Rattle.plain_model.specs.declared.stop.Stop.{Stop}
use Rattle.plain_model.specs.declared.stop.Stop.TheVariants as stops
use Rattle.plain_model.specs.declared.stop.Resource.{Resource}
use Rattle.plain_model.specs.declared.stop.Resource.TheVariants.{Txn, LogFull}
use Rattle.plain_model.specs.CallPlays.{tables_of}
use Rattle.plain_model.specs.Calls.{Asked, AskGet, AskChunk, AskPut, AskDel, AskUndoTo, AskBegin, AskUndo}
use Rattle.plain_model.specs.Calls.{AskCheckpoint, Call, Began}
use Rattle.plain_model.specs.Calls.{Committed, Undone, Locked, Did, Opened, Stopped, is_running, op_count}
use Rattle.plain_model.specs.Calls.{ops_of}
use Rattle.op_log.specs.Changes.{body_text, del_bytes, put_bytes}
use Rattle.op_log.specs.declared.change.RowChange.{RowChange}
use Rattle.call_log.specs.Played.{empty_tables}
use Rattle.call_log.specs.Standing.{op_of, standing}

-- ---- Tables

-- the tables at the last begin, and those after all transactions that are committed
abbrev pub bounds : Tables → List Call → Tables × Tables
bounds first [] = (first, first)
bounds first (Began age number ∷ calls) = ((bounds first calls).1, (bounds first calls).1)
bounds first (Committed ∷ calls) = ((bounds first calls).0, tables_of (bounds first calls).0 calls)
bounds first (Undone ∷ calls) = bounds first calls
bounds first (Locked name mode ∷ calls) = bounds first calls
bounds first (Did op ∷ calls) = bounds first calls
bounds first (Opened generation ∷ calls) = bounds first calls
bounds first (Stopped asked stop ∷ calls) = bounds first calls

-- the tables at the last begin
abbrev pub begun_at : Tables → List Call → Tables
begun_at first calls = (bounds first calls).0

-- the tables after all transactions that are committed
abbrev pub settled : Tables → List Call → Tables
settled first calls = (bounds first calls).1

-- each operation answers what the tables at its place say
abbrev pub HasPlayed : Tables → List Call → Type 0
HasPlayed first [] = ⊤
HasPlayed first (Did op ∷ calls) =
    AnswersAt (tables_of (begun_at first calls) calls) (op_count calls) op × HasPlayed first calls
HasPlayed first (Began age number ∷ calls) = HasPlayed first calls
HasPlayed first (Committed ∷ calls) = HasPlayed first calls
HasPlayed first (Undone ∷ calls) = HasPlayed first calls
HasPlayed first (Locked name mode ∷ calls) = HasPlayed first calls
HasPlayed first (Opened generation ∷ calls) = HasPlayed first calls
HasPlayed first (Stopped asked stop ∷ calls) = HasPlayed first calls

-- ---- Batches

-- the batches, and one more where it has changes
abbrev pub with_batch : List (List RowChange) → List RowChange → List (List RowChange)
with_batch batches [] = batches
with_batch batches (change ∷ changes) = batches ++ (change ∷ changes) ∷ []

-- the changes of each committed transaction that has any, in order
abbrev pub batches_of : List Call → List (List RowChange)
batches_of [] = []
batches_of (Committed ∷ calls) = with_batch (batches_of calls) (standing (ops_of calls))
batches_of (Began age number ∷ calls) = batches_of calls
batches_of (Undone ∷ calls) = batches_of calls
batches_of (Locked name mode ∷ calls) = batches_of calls
batches_of (Did op ∷ calls) = batches_of calls
batches_of (Opened generation ∷ calls) = batches_of calls
batches_of (Stopped asked stop ∷ calls) = batches_of calls

-- the changes of the transaction that the last call has committed; none where it has committed none
abbrev pub last_batch : List Call → List RowChange
last_batch (Committed ∷ calls) = standing (ops_of calls)
last_batch calls = []

-- the bodies of a log's batches
abbrev pub bodies_of : List TableDef → List (List RowChange) → List (List ℕ)
bodies_of defs batches = map (body_text defs) batches

-- the place of the gate behind batches: a head of 11 bytes, and for each
-- a gate of one byte, a length of four and its body
abbrev pub gate_behind : List TableDef → List (List RowChange) → ℕ
gate_behind defs [] = 11
gate_behind defs (batch ∷ batches) = 5 + length (body_text defs batch) + gate_behind defs batches

-- ---- Limits

-- the most bytes of a transaction's changes
abbrev pub txn_limit : ℕ
txn_limit = 65536

-- the last place at which a batch of a log file may end, and the limit that LOG FULL prints
abbrev pub log_limit : ℕ
log_limit = 67108864

-- the bytes that have to be free where a transaction begins: twice the sum of 64 and twice its most bytes
abbrev pub log_room : ℕ
log_room = 262272

-- how many bytes of a log file are in use that has these batches: up to the gate behind them, and that gate
abbrev pub bytes_with : List TableDef → List (List RowChange) → ℕ
bytes_with defs batches = gate_behind defs batches + 1

-- how many bytes of the log file are in use
abbrev pub log_bytes : List TableDef → List Call → ℕ
log_bytes defs calls = bytes_with defs (batches_of calls)

-- how many bytes the changes of the transaction that runs have
abbrev pub txn_bytes : List TableDef → List Call → ℕ
txn_bytes defs calls = length (body_text defs (standing (ops_of calls)))

-- the bytes of the log file that are in use leave too little room
abbrev pub IsLogFull : ℕ → ℕ → ℕ → Type 0
IsLogFull in_use bytes limit = (limit ≡ log_limit) × (bytes ≡ in_use) × (limit < bytes + log_room)

-- the bytes of a transaction's changes and so many more are too many
abbrev pub IsTxnFull : ℕ → ℕ → ℕ → Type 0
IsTxnFull more used limit = (limit ≡ txn_limit) × (used ≤ limit) × (limit < used + more)

-- what is used up, with the numbers that say so
abbrev pub IsUsedUp : List TableDef → List Call → Asked → Resource → Type 0
IsUsedUp defs calls (AskBegin age) (LogFull bytes limit) = IsLogFull (log_bytes defs calls) bytes limit
IsUsedUp defs calls (AskPut table row) (Txn used limit) =
    (table < length defs) × (used ≡ txn_bytes defs calls) × IsTxnFull (put_bytes defs table) used limit
IsUsedUp defs calls (AskDel table key) (Txn used limit) =
    (used ≡ txn_bytes defs calls) × IsTxnFull del_bytes used limit
IsUsedUp defs calls asked resource = ⊥

-- so many bytes are those of some change of a row of these tables
abbrev pub IsChangeLen : List TableDef → ℕ → Type 0
IsChangeLen defs len =
    ((table : ℕ) × (table < length defs) × (len ≡ put_bytes defs table)) ⊎ (len ≡ del_bytes)

-- what may lack for a block where the log has these batches, with the numbers that say so
abbrev pub MayLackWith : List TableDef → List (List RowChange) → Resource → Type 0
MayLackWith defs batches (LogFull bytes limit) = IsLogFull (bytes_with defs batches) bytes limit
MayLackWith defs batches (Txn used limit) =
    (len : ℕ) × IsChangeLen defs len × IsTxnFull len used limit
MayLackWith defs batches resource = ⊥

-- the most that is counted: of transactions, and of the operations of one
abbrev pub count_limit : ℕ
count_limit = 2 ^ 64 - 1

-- how many transactions have begun
abbrev pub begin_count : List Call → ℕ
begin_count [] = 0
begin_count (Began age number ∷ calls) = 1 + begin_count calls
begin_count (Committed ∷ calls) = begin_count calls
begin_count (Undone ∷ calls) = begin_count calls
begin_count (Locked name mode ∷ calls) = begin_count calls
begin_count (Did op ∷ calls) = begin_count calls
begin_count (Opened generation ∷ calls) = begin_count calls
begin_count (Stopped asked stop ∷ calls) = begin_count calls

-- a transaction of so many operations can't have one more
abbrev pub AreOpsSpent : ℕ → ℕ → Type 0
AreOpsSpent ops limit = (limit ≡ count_limit) × (ops ≡ limit)

-- no transaction can be counted any more, or no operation of the one that
-- runs; of checkpoints there may be none
abbrev pub IsSpentAt : List Call → Asked → ℕ → Type 0
IsSpentAt calls (AskBegin age) limit = (limit ≡ count_limit) × (limit ≤ begin_count calls)
IsSpentAt calls (AskGet table key) limit = AreOpsSpent (op_count calls) limit
IsSpentAt calls (AskChunk table range) limit = AreOpsSpent (op_count calls) limit
IsSpentAt calls (AskPut table row) limit = AreOpsSpent (op_count calls) limit
IsSpentAt calls (AskDel table key) limit = AreOpsSpent (op_count calls) limit
IsSpentAt calls (AskUndoTo mark) limit = AreOpsSpent (op_count calls) limit
IsSpentAt calls AskCheckpoint limit = limit ≡ 0
IsSpentAt calls asked limit = ⊥

-- where something is spent at this limit, at least so many calls were made
abbrev pub MayBeSpent : List Call → ℕ → Type 0
MayBeSpent calls limit = (limit ≡ count_limit) × (limit ≤ length calls)

-- ---- Order

-- a call that gives a stop comes where a transaction runs, a begin and a checkpoint where none does; an undo
-- gives none
abbrev pub IsInPlace : Asked → List Call → Type 0
IsInPlace (AskBegin age) calls = is_running calls ≡ false
IsInPlace AskCheckpoint calls = is_running calls ≡ false
IsInPlace AskUndo calls = ⊥
IsInPlace asked calls = IsTrue (is_running calls)

-- a stop that a keeper in memory may give: something is used up or spent, or memory ran out
abbrev pub IsOwnStop : List TableDef → List Call → Asked → Stop → Type 0
IsOwnStop defs calls asked (stops.Refused resource) = IsUsedUp defs calls asked resource
IsOwnStop defs calls asked (stops.Spent limit) = IsSpentAt calls asked limit
IsOwnStop defs calls asked stops.OutOfMemory = ⊤
IsOwnStop defs calls asked (stops.Die holder) = ⊥
IsOwnStop defs calls asked (stops.Fault file) = ⊥

-- each call comes where it may, locks are on tables of the schema, an undo
-- always succeeds, and each stop is one that a keeper in memory may give
abbrev pub IsOrdered : List TableDef → List Call → Type 0
IsOrdered defs [] = ⊤
IsOrdered defs (Began age number ∷ calls) = (is_running calls ≡ false) × IsOrdered defs calls
IsOrdered defs (Committed ∷ calls) = IsTrue (is_running calls) × IsOrdered defs calls
IsOrdered defs (Undone ∷ calls) = IsTrue (is_running calls) × IsOrdered defs calls
IsOrdered defs (Locked name mode ∷ calls) =
    (name.table < length defs) × IsTrue (is_running calls) × IsOrdered defs calls
IsOrdered defs (Did op ∷ calls) = IsTrue (is_running calls) × IsOrdered defs calls
IsOrdered defs (Opened generation ∷ calls) = ⊥
IsOrdered defs (Stopped asked stop ∷ calls) =
    IsInPlace asked calls × IsOwnStop defs calls asked stop × IsOrdered defs calls

-- the calls are those of a keeper in memory, whose tables began without rows
pub record IsHistory (defs : List TableDef) (calls : List Call) : Type 0 where
  pub schema : IsSchema defs
  pub ordered : IsOrdered defs calls
  pub plays : HasPlayed (empty_tables defs) calls

-- ---- A log file

-- the calls and those of a transaction that put and took away the rows of a batch
abbrev pub with_changes : List Call → List RowChange → List Call
with_changes calls [] = calls
with_changes calls (change ∷ changes) = with_changes (Did (op_of change) ∷ calls) changes

-- the calls after a transaction that did nothing and was undone: a log
-- file holds all that was committed before
abbrev pub with_forced : List Call → List Call
with_forced calls = Undone ∷ Began None 0 ∷ calls

-- the calls after a transaction that has made a batch of a log file
abbrev pub with_loaded : List Call → List RowChange → List Call
with_loaded calls batch = with_forced (Committed ∷ with_changes (Began None 0 ∷ calls) batch)
