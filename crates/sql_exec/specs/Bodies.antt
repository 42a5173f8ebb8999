-- What the parts of a statement's run come to, on the rows of its table.
use Rattle.std.specs.Prelude.{◌≡◌, ◌⊎◌, ℕ, ◌-◌, ◌^◌, min, Bool, true, false, not, is_none, take, filter}
use Rattle.std.specs.Prelude.{List, [], ◌∷◌, None, Some, Result, Ok, Err, IsTrue, ⊤}
use Rattle.std.specs.List.{list_any}
use Rattle.row_types.specs.declared.definition.TableDef.{TableDef}
use Rattle.row_types.specs.declared.row.Value.{Value}
use Rattle.key_space.specs.declared.lock.LockName.{LockName}
use Rattle.key_space.specs.declared.lock.Mode.{Mode}
use Rattle.key_space.specs.declared.lock.Mode.TheVariants.{Shared, Exclusive}
use Rattle.key_space.specs.Plays.{Rows, RowOp, Get, Part, Put, Del, UndoTo}
use Rattle.sql_check.specs.declared.plan.Plan.{Plan}
use Rattle.sql_check.specs.declared.plan.Plan.TheVariants as plans
use Rattle.plain_model.specs.declared.reply.Reply.{Reply}
use Rattle.plain_model.specs.declared.reply.Reply.TheVariants as replies
use Rattle.plain_model.specs.declared.reply.Refusal.{Refusal}
use Rattle.plain_model.specs.declared.reply.Refusal.TheVariants as refusals
use Rattle.plain_model.specs.declared.stop.Resource.{Resource}
use Rattle.plain_model.specs.declared.stop.Resource.TheVariants.{Pages, Nodes, Txn, Locks, LogFull, Busy}
use Rattle.plain_model.specs.declared.stop.Stop.{Stop}
use Rattle.plain_model.specs.declared.stop.Stop.TheVariants as stops
use Rattle.plain_model.specs.Calls.{Asked, AskGet, AskPut, AskUndoTo, Call, Did, Stopped, is_running, MayGive}
use Rattle.plain_model.specs.Calls.{MayRead, MayWrite}
use Rattle.plain_model.specs.Lacks.{IsReached}
use Rattle.plain_model.specs.Meaning.{duplicate, totals_reply, with_rows}
use Rattle.plain_model.specs.PlanMeaning.{passes_all, plan_acts, planned_row}
use Rattle.plain_model.specs.Runs.{is_row_call}
use Rattle.sql_exec.specs.declared.act.Act.{Act}
use Rattle.sql_exec.specs.declared.act.Changes.{Changes}
use Rattle.sql_exec.specs.declared.act.Changes.TheVariants.{Made, Duplicate, OutOfRange}
use Rattle.sql_exec.specs.Acts.{rows_in, acted_in, done_count, some_refused}
use Rattle.sql_exec.specs.Means.{IsNoLack}
use Rattle.sql_exec.specs.Selects.{sums_of}

-- the operation goes back to earlier rows
abbrev pub goes_back : RowOp → Bool
goes_back (UndoTo count) = true
goes_back (Get table key answer) = false
goes_back (Part table from upto answer) = false
goes_back (Put table row) = false
goes_back (Del table key answer) = false

-- nothing was called but row operations and marks, and none goes back
pub data OnlyForward (old : List Call) : List Call → Type 0 where
  here : OnlyForward old old
  did : (op : RowOp) (calls : List Call) → goes_back op ≡ false → OnlyForward old calls → OnlyForward old (Did op ∷ calls)
  stopped : (asked : Asked) (stop : Stop) (calls : List Call) → is_row_call asked ≡ true → OnlyForward old calls
      → OnlyForward old (Stopped asked stop ∷ calls)

-- a transaction runs, and the keys from one to another may be looked up
abbrev pub CanRead : List Call → ℕ → ℕ → ℕ → Type 0
CanRead calls table lo hi = IsTrue (is_running calls) × MayRead calls table lo hi

-- a transaction runs, and the keys may be changed
abbrev pub CanWrite : List Call → ℕ → ℕ → ℕ → Type 0
CanWrite calls table lo hi = IsTrue (is_running calls) × MayWrite calls table lo hi

-- the keys of a lock of this mode may be looked up, or changed too
abbrev pub MayAs : Mode → List Call → LockName → Type 0
MayAs Shared calls name = MayRead calls name.table name.range.lo.number name.range.hi.number
MayAs Exclusive calls name = MayWrite calls name.table name.range.lo.number name.range.hi.number

-- ---- Pieces of a range

-- the rows with keys below end, from lo on, are done with
pub record ActedSoFar (marks : List ℕ) (lo end : ℕ) (act : List Value → Act) (count : ℕ)
    (old new : Rows) : Type 0 where
  pub rows : new ≡ acted_in marks lo end act old
  pub none_refused : some_refused act (rows_in marks lo end old) ≡ false
  pub count_is : count ≡ min (done_count act (rows_in marks lo end old)) (2 ^ 64 - 1)

-- the first so many rows of an INSERT are added
pub record InsertedSoFar (marks : List ℕ) (list : Rows) (count : ℕ) (old new : Rows) : Type 0 where
  pub now : new ≡ with_rows marks old (take count list)
  pub none : duplicate marks old (take count list) ≡ None

-- ---- What changes come to

-- the reply that tells it
abbrev pub reply_of : Changes → Reply
reply_of (Made count) = replies.Many count
reply_of (Duplicate key) = replies.Refused (refusals.Duplicate key)
reply_of OutOfRange = replies.Refused refusals.Range

-- a new row of an INSERT is come to
abbrev pub AddsRow : List ℕ → Plan → Rows → Type 0
AddsRow marks (plans.Insert p) rows = IsReached (λ new. is_none (duplicate marks rows new)) p.rows
AddsRow marks plan rows = ⊥

-- a row that changes is come to
abbrev pub ChangesRow : List ℕ → Plan → Rows → Type 0
ChangesRow marks (plans.Insert p) rows = IsReached (λ new. is_none (duplicate marks rows new)) p.rows
ChangesRow marks (plans.Update p) rows =
    IsReached (λ reached. not (list_any (λ row. is_none (planned_row p.changes row)) reached))
    (filter (passes_all p.conditions) rows)
ChangesRow marks (plans.Delete p) rows = IsReached (λ reached. true) (filter (passes_all p.conditions) rows)
ChangesRow marks plan rows = ⊥

-- a plan comes to the step that asks for the resource, its lock aside
abbrev pub PlanLacks : List ℕ → Plan → Rows → Resource → Type 0
PlanLacks marks plan rows (Pages used limit) = AddsRow marks plan rows
PlanLacks marks plan rows (Nodes used limit) = AddsRow marks plan rows
PlanLacks marks plan rows (Txn used limit) = ChangesRow marks plan rows
PlanLacks marks plan rows (Locks held limit) = ⊥
PlanLacks marks plan rows (LogFull bytes limit) = ⊥
PlanLacks marks plan rows (Busy oldest) = ⊥

-- how the changes of a plan ended, by the rows at their start and now
abbrev pub ChangesEnd : TableDef → Plan → Result Changes Stop → Rows → Rows → Type 0
ChangesEnd def plan (Ok (Made count)) old new = plan_acts def plan old ≡ (replies.Many count, new)
ChangesEnd def plan (Ok (Duplicate key)) old new =
    plan_acts def plan old ≡ (replies.Refused (refusals.Duplicate key), old)
ChangesEnd def plan (Ok OutOfRange) old new = plan_acts def plan old ≡ (replies.Refused refusals.Range, old)
ChangesEnd def plan (Err (stops.Refused resource)) old new = PlanLacks def.keys plan old resource
ChangesEnd def plan (Err stop) old new = ⊤

-- a resource is lacking for a plan, and the rows stay
abbrev pub Lacks : TableDef → Plan → Reply → Rows → Rows → Type 0
Lacks def plan reply old new =
    (resource : Resource) × PlanLacks def.keys plan old resource
    × (reply ≡ replies.Refused (refusals.Resource resource)) × (new ≡ old)

-- how a plan ended whose lock was given
abbrev pub PlanEnds : TableDef → Plan → Result Reply Stop → Rows → Rows → Type 0
PlanEnds def plan (Ok reply) old new = (plan_acts def plan old ≡ (reply, new)) ⊎ Lacks def plan reply old new
PlanEnds def plan (Err stop) old new = ⊤

-- the reply to a plan that is about no key
abbrev pub RepliesWithoutKeys : Plan → Reply → Type 0
RepliesWithoutKeys (plans.Insert p) reply = reply ≡ replies.Many 0
RepliesWithoutKeys (plans.Select p) reply = reply ≡ replies.Rows []
RepliesWithoutKeys (plans.Totals p) reply = reply ≡ totals_reply (sums_of p [])
RepliesWithoutKeys (plans.Update p) reply = reply ≡ replies.Many 0
RepliesWithoutKeys (plans.Delete p) reply = reply ≡ replies.Many 0
RepliesWithoutKeys plan reply = reply ≡ replies.Done

-- ---- Which calls were made

-- what was done is to be undone
abbrev pub NeedsUndo : Result Changes Stop → Type 0
NeedsUndo (Ok (Made count)) = ⊥
NeedsUndo (Ok (Duplicate key)) = ⊤
NeedsUndo (Ok OutOfRange) = ⊤
NeedsUndo (Err (stops.Refused resource)) = ⊤
NeedsUndo (Err stop) = ⊥

-- one goes back to the mark and replies why
abbrev pub IsUndone : ℕ → Refusal → List Call → Result Reply Stop → List Call → Type 0
IsUndone mark why old (Ok reply) new = (reply ≡ replies.Refused why) × (new ≡ Did (UndoTo mark) ∷ old)
IsUndone mark why old (Err stop) new = (new ≡ Stopped (AskUndoTo mark) stop ∷ old) × IsNoLack stop

-- a statement is settled, by how its changes ended
abbrev pub IsSettled : ℕ → Result Changes Stop → List Call → Result Reply Stop → List Call → Type 0
IsSettled mark (Ok (Made count)) old result new = (result ≡ Ok (replies.Many count)) × (new ≡ old)
IsSettled mark (Ok (Duplicate key)) old result new = IsUndone mark (refusals.Duplicate key) old result new
IsSettled mark (Ok OutOfRange) old result new = IsUndone mark refusals.Range old result new
IsSettled mark (Err (stops.Refused resource)) old result new =
    IsUndone mark (refusals.Resource resource) old result new
IsSettled mark (Err stop) old result new = (result ≡ Err stop) × (new ≡ old)

-- the call that asks for this gave the stop, and may give it
abbrev pub Gives : Asked → Stop → List Call → List Call → Type 0
Gives asked stop old new = (new ≡ Stopped asked stop ∷ old) × MayGive asked stop

-- a row is looked up by its key, and put where there is none
abbrev pub InsertsOne : ℕ → ℕ → List Value → List Call → Result Bool Stop → List Call → Type 0
InsertsOne table key row old (Ok true) new = new ≡ Did (Put table row) ∷ Did (Get table key None) ∷ old
InsertsOne table key row old (Ok false) new =
    (found : List Value) × (new ≡ Did (Get table key (Some found)) ∷ old)
InsertsOne table key row old (Err stop) new =
    Gives (AskGet table key) stop old new ⊎ Gives (AskPut table row) stop (Did (Get table key None) ∷ old) new
