-- How a block's transaction begins, ends and is given up.
use Rattle.std.specs.Prelude.{◌≡◌, ◌⊎◌, ℕ, false, List, [], ◌∷◌, ◌++◌, unwrap_or, Option, Result, Ok, Err}
use Rattle.std.specs.Prelude.{IsTrue, ⊤}
use Rattle.disk_core.specs.declared.store.FileName.{FileName}
use Rattle.row_types.specs.declared.block.BlockEnd.{BlockEnd}
use Rattle.row_types.specs.declared.block.BlockEnd.TheVariants.{Commit, Rollback, CutOff}
use Rattle.plain_model.specs.declared.reply.Reply.{Reply}
use Rattle.plain_model.specs.declared.reply.Reply.TheVariants.{Refused}
use Rattle.plain_model.specs.declared.reply.Refusal.{Refusal}
use Rattle.plain_model.specs.declared.reply.Refusal.TheVariants as refusals
use Rattle.plain_model.specs.declared.stop.Stop.{Stop}
use Rattle.plain_model.specs.declared.stop.Stop.TheVariants as stops
use Rattle.plain_model.specs.declared.stop.Resource.TheVariants.{LogFull}
use Rattle.plain_model.specs.Calls.{Asked, AskBegin, AskCommit, AskUndo, Call, Began, Committed, Undone}
use Rattle.plain_model.specs.Calls.{Stopped, is_running}
use Rattle.engine_txn.specs.declared.begun.Begun.{Begun}
use Rattle.engine_txn.specs.declared.begun.Begun.TheVariants.{Running, Refused as NotBegun}
use Rattle.engine_txn.specs.declared.ended.Ended.{Ended}
use Rattle.engine_txn.specs.declared.ended.Ended.TheVariants.{Done, Spent}
use Rattle.engine_txn.specs.declared.tried.Tried.{Tried}
use Rattle.engine_txn.specs.declared.tried.Tried.TheVariants as tries
use Rattle.engine_txn.specs.Transactions.{IsGivenUp}

-- the refusal that a begin's stop is
abbrev pub RefusesBegin : Stop → Refusal → Type 0
RefusesBegin (stops.Spent limit) refusal = refusal ≡ refusals.Spent limit
RefusesBegin (stops.Refused (LogFull bytes limit)) refusal = refusal ≡ refusals.Resource (LogFull bytes limit)
RefusesBegin stop refusal = ⊥

-- a device failed or memory ran out
abbrev pub Fails : Stop → Type 0
Fails (stops.Fault file) = ⊤
Fails stops.OutOfMemory = ⊤
Fails (stops.Die holder) = ⊥
Fails (stops.Spent limit) = ⊥
Fails (stops.Refused resource) = ⊥

-- the stop halts the block, without a reply
abbrev pub Halts : Stop → Type 0
Halts (stops.Fault file) = ⊤
Halts stops.OutOfMemory = ⊤
Halts (stops.Die holder) = ⊤
Halts (stops.Spent limit) = ⊥
Halts (stops.Refused resource) = ⊥

-- a transaction was begun, or the begin was refused or failed
abbrev pub Begins : Option ℕ → List Call → Result Begun Stop → List Call → Type 0
Begins age old (Ok (Running own)) new =
    (number : ℕ) × (new ≡ Began age number ∷ old) × (own ≡ unwrap_or age number)
Begins age old (Ok (NotBegun refusal)) new =
    (stop : Stop) × (new ≡ Stopped (AskBegin age) stop ∷ old) × RefusesBegin stop refusal
Begins age old (Err stop) new = (new ≡ Stopped (AskBegin age) stop ∷ old) × Fails stop

-- what is called at a block's end, and asked for
abbrev pub end_call : BlockEnd → Call
end_call Commit = Committed
end_call Rollback = Undone
end_call CutOff = Undone

abbrev pub end_asks : BlockEnd → Asked
end_asks Commit = AskCommit
end_asks Rollback = AskUndo
end_asks CutOff = AskUndo

-- the transaction was ended, or is spent, or the end failed
abbrev pub EndsAs : BlockEnd → List Call → Result Ended Stop → List Call → Type 0
EndsAs end old (Ok Done) new = new ≡ end_call end ∷ old
EndsAs end old (Ok (Spent limit)) new = new ≡ Stopped (end_asks end) (stops.Spent limit) ∷ old
EndsAs end old (Err stop) new = (new ≡ Stopped (end_asks end) stop ∷ old) × Fails stop

-- the reply to an end, this one where it was done
abbrev pub reply_at : Ended → Reply → Reply
reply_at Done usual = usual
reply_at (Spent limit) usual = Refused (refusals.Spent limit)

-- the replies with the one to the end, which a cut-off block hasn't
abbrev pub with_end : BlockEnd → List Reply → Reply → List Reply
with_end Commit said reply = said ++ reply ∷ []
with_end Rollback said reply = said ++ reply ∷ []
with_end CutOff said reply = said

-- the reply that something is spent, or the stop where it is another
abbrev pub spent_reply : Stop → Result Reply Stop
spent_reply (stops.Spent limit) = Ok (Refused (refusals.Spent limit))
spent_reply (stops.Fault file) = Err (stops.Fault file)
spent_reply (stops.Die holder) = Err (stops.Die holder)
spent_reply (stops.Refused resource) = Err (stops.Refused resource)
spent_reply stops.OutOfMemory = Err stops.OutOfMemory

-- a fault stops the try, and without memory it is out of memory
abbrev pub FailsAs : Stop → Tried → Type 0
FailsAs (stops.Fault file) tried = tried ≡ tries.Stopped
FailsAs stop tried = tried ≡ tries.OutOfMemory

-- an older transaction in the way has the try die with this age, else it is out of memory
abbrev pub UndoneAs : ℕ → Stop → Tried → Type 0
UndoneAs age (stops.Die holder) tried = tried ≡ tries.Died holder age
UndoneAs age stop tried = tried ≡ tries.OutOfMemory

-- a transaction in the way runs on, since the stop doesn't end it
abbrev pub RunsBehind : Stop → List Call → Type 0
RunsBehind (stops.Die holder) calls = IsTrue (is_running calls)
RunsBehind stop calls = ⊤

-- the replies are these
abbrev pub Says : Tried → List Reply → Type 0
Says (tries.Said replies) list = replies.items ≡ list
Says tries.Stopped list = ⊥
Says tries.OutOfMemory list = ⊥
Says (tries.Died holder age) list = ⊥

-- behind this stop the transaction is undone
abbrev pub IsUndoneBehind : Stop → Type 0
IsUndoneBehind (stops.Die holder) = ⊤
IsUndoneBehind stops.OutOfMemory = ⊤
IsUndoneBehind (stops.Fault file) = ⊥
IsUndoneBehind (stops.Spent limit) = ⊥
IsUndoneBehind (stops.Refused resource) = ⊥

-- After a stop the transaction of this age is undone, but not after a fault
-- of a device, behind which nothing is called. The try comes to what the stop
-- says, but where the undo fails for its part
abbrev pub GivesUp : ℕ → List Call → Stop → Tried → List Call → Type 0
GivesUp own old stop (tries.Died holder age) new =
    (stop ≡ stops.Die holder) × (age ≡ own) × IsGivenUp old new
GivesUp own old stop tries.Stopped new = (file : FileName)
    × (((stop ≡ stops.Fault file) × (new ≡ old))
    ⊎ (IsUndoneBehind stop × (new ≡ Stopped AskUndo (stops.Fault file) ∷ old)))
GivesUp own old stop tries.OutOfMemory new =
    ((stop ≡ stops.OutOfMemory) × (((is_running old ≡ false) × (new ≡ old)) ⊎ IsGivenUp old new))
    ⊎ (IsUndoneBehind stop × (new ≡ Stopped AskUndo stops.OutOfMemory ∷ old))
GivesUp own old stop (tries.Said replies) new = ⊥
