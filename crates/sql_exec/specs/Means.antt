-- What a statement that is run comes to.
use Rattle.std.specs.Prelude.{◌≡◌, ◌⊎◌, ℕ, List, ◌∷◌, Option, None, Some, Result, Ok, Err, IfOk, ⊤}
use Rattle.row_types.specs.declared.definition.TableDef.{TableDef}
use Rattle.row_types.specs.Tables.{Tables}
use Rattle.key_space.specs.declared.lock.LockName.{LockName}
use Rattle.key_space.specs.declared.lock.Mode.{Mode}
use Rattle.key_space.specs.declared.lock.Mode.TheVariants.{Shared, Exclusive}
use Rattle.key_space.specs.declared.range.Range.{Range}
use Rattle.key_space.specs.Plays.{UndoTo}
use Rattle.sql_parse.specs.declared.statement.Statement.{Statement}
use Rattle.sql_check.specs.declared.plan.Plan.{Plan}
use Rattle.sql_check.specs.declared.plan.Plan.TheVariants as plans
use Rattle.sql_check.specs.Valued.{IsPlanOf}
use Rattle.plain_model.specs.declared.reply.Reply.{Reply}
use Rattle.plain_model.specs.declared.reply.Reply.TheVariants as replies
use Rattle.plain_model.specs.declared.reply.Refusal.TheVariants as refusals
use Rattle.plain_model.specs.declared.stop.Resource.{Resource}
use Rattle.plain_model.specs.declared.stop.Stop.{Stop}
use Rattle.plain_model.specs.declared.stop.Stop.TheVariants as stops
use Rattle.plain_model.specs.Blocks.{AnswersUnless}
use Rattle.plain_model.specs.CallPlays.{tables_of}
use Rattle.plain_model.specs.Calls.{AskLock, Call, Did, Stopped}
use Rattle.plain_model.specs.Runs.{EndsBy, LocksFirst}
use Rattle.sql_exec.specs.Plays.{PlaysFrom}

-- `check` gives the plan for a statement on tables of these definitions
abbrev pub IsChecked : List TableDef → Plan → Type 0
IsChecked defs plan = (statement : Statement) × IsPlanOf defs statement plan

-- ---- The lock

-- the lock of a statement, where it is about some key
abbrev pub name_of : ℕ → Option Range → Option LockName
name_of table None = None
name_of table (Some range) = Some (record { table = table; range = range })

-- the name of a plan's lock
abbrev pub lock_of : Plan → Option LockName
lock_of (plans.Insert p) = name_of p.table p.range
lock_of (plans.Select p) = name_of p.table p.range
lock_of (plans.Totals p) = name_of p.table p.range
lock_of (plans.Update p) = name_of p.table p.range
lock_of (plans.Delete p) = name_of p.table p.range
lock_of plans.Create = None
lock_of plans.Begin = None
lock_of plans.Commit = None
lock_of plans.Rollback = None

-- what only reads is Shared, what changes rows Exclusive
abbrev pub mode_of : Plan → Mode
mode_of (plans.Select p) = Shared
mode_of (plans.Totals p) = Shared
mode_of (plans.Insert p) = Exclusive
mode_of (plans.Update p) = Exclusive
mode_of (plans.Delete p) = Exclusive
mode_of plans.Create = Shared
mode_of plans.Begin = Shared
mode_of plans.Commit = Shared
mode_of plans.Rollback = Shared

-- the one lock comes first, and without one nothing is called
abbrev pub LocksBy : Option LockName → Mode → List Call → List Call → Type 0
LocksBy None mode old new = new ≡ old
LocksBy (Some name) mode old new = LocksFirst name mode old new

-- ---- Reply and effect

-- wherever the calls are those of some tables, the reply and the tables
-- after it are those that the statement means, or it lacks a resource
abbrev pub Means : List TableDef → Statement → List Call → Result Reply Stop → List Call → Type 0
Means defs statement old result new =
    (first : Tables) → PlaysFrom defs first new
    → IfOk result
    (λ reply. AnswersUnless None statement (tables_of first old) reply (tables_of first new))

-- ---- Causes

-- a call gave this lack: the request for the lock, after which nothing
-- was called, or a later one, after which one went back to the mark
abbrev pub WasGiven : Resource → List Call → List Call → Type 0
WasGiven resource old new =
    ((name : LockName) × (mode : Mode) × (new ≡ Stopped (AskLock name mode) (stops.Refused resource) ∷ old))
    ⊎ ((mark : ℕ) × (before : List Call) × (new ≡ Did (UndoTo mark) ∷ before)
    × EndsBy before (stops.Refused resource))

-- the reply isn't that a resource is lacking
abbrev pub IsNoLackReply : Reply → Type 0
IsNoLackReply (replies.Refused (refusals.Resource resource)) = ⊥
IsNoLackReply reply = ⊤

-- the reply isn't that as many transactions, checkpoints or turns as there may be were made
abbrev pub IsNotSpentReply : Reply → Type 0
IsNotSpentReply (replies.Refused (refusals.Spent limit)) = ⊥
IsNotSpentReply reply = ⊤

-- a reply that a resource is lacking has its cause
abbrev pub HasGiver : List Call → List Call → Reply → Type 0
HasGiver old new (replies.Refused (refusals.Resource resource)) = WasGiven resource old new
HasGiver old new reply = ⊤

-- the stop isn't that a resource is lacking
abbrev pub IsNoLack : Stop → Type 0
IsNoLack (stops.Refused resource) = ⊥
IsNoLack (stops.Die holder) = ⊤
IsNoLack (stops.Fault file) = ⊤
IsNoLack (stops.Spent limit) = ⊤
IsNoLack stops.OutOfMemory = ⊤

-- the last call gave the stop, or memory ran out
abbrev pub IsOwnOrBy : List Call → Stop → Type 0
IsOwnOrBy calls stop = (stop ≡ stops.OutOfMemory) ⊎ EndsBy calls stop

-- a stop ends the run, and it isn't that a resource is lacking
pub record Stops (calls : List Call) (stop : Stop) : Type 0 where
  pub cause : IsOwnOrBy calls stop
  pub kind : IsNoLack stop

-- what comes of a statement is its own, since nothing was called: it says
-- nothing to be lacking, and only memory may have run out
abbrev pub IsOwn : Result Reply Stop → Type 0
IsOwn (Ok reply) = IsNoLackReply reply
IsOwn (Err stop) = stop ≡ stops.OutOfMemory
