-- What a try of a block comes to.
use Rattle.std.proofs.Common.{◌≡◌, ◌≤◌, inl, inr, ℕ, Bool, true, false, not, List, [], ◌∷◌, length, Option, None, refl, sym, ◌∙◌, ap, subst, arith}
use Rattle.std.proofs.lemmas.Bool.{false≢true}
use Rattle.std.specs.Prelude.{IsTrue}
use Rattle.std.specs.List.{AllByRecursion}
use Rattle.row_types.specs.declared.block.Block.{Block}
use Rattle.row_types.specs.declared.definition.TableDef.{TableDef}
use Rattle.row_types.specs.Tables.{Tables}
use Rattle.plain_model.specs.declared.reply.Reply.{Reply}
use Rattle.plain_model.specs.declared.stop.Stop.{Stop}
use Rattle.plain_model.specs.declared.stop.Stop.TheVariants as stops
use Rattle.plain_model.specs.declared.stop.Resource.{Resource}
use Rattle.plain_model.specs.declared.stop.Resource.TheVariants.{Pages, Nodes, Txn, Locks, LogFull, Busy}
use Rattle.plain_model.specs.Blocks.{block_means}
use Rattle.plain_model.specs.CallPlays.{tables_of}
use Rattle.plain_model.specs.Calls.{Asked, AskLock, AskGet, AskChunk, AskPut, AskDel, AskMark, AskUndoTo, AskBegin, AskCommit, AskUndo, AskCheckpoint, Call, Began, Committed, Undone, Locked, Did, Opened, Stopped, is_running, op_count, ops_of}
use Rattle.plain_model.specs.Runs.{is_begin}
use Rattle.op_log.specs.declared.change.RowChange.{RowChange}
use Rattle.sql_exec.specs.Plays.{LacksFor, LacksPlay, PlaysFrom}
use Rattle.engine_txn.specs.declared.tried.Tried.{Tried}
use Rattle.engine_txn.specs.declared.tried.Tried.TheVariants as tries
use Rattle.engine_txn.specs.BlockSaid.{BlockSaid, ReplyWasGiven, SaidWithin, SaidWithout, left_by}
use Rattle.engine_txn.specs.Transactions.{here, then, BeganNone, CommitsLast, Continues, EndsByFault, GaveSince, Grown, IsGivenUp, IsOfTransaction, IsUndone, Uncommitted, is_commit}
use Rattle.engine_txn.specs.Tries.{Tries}
use Rattle.call_log.specs.History.{AreOpsSpent, begin_count, begun_at, settled, with_batch, batches_of, last_batch, IsInPlace, IsSpentAt, IsUsedUp, MayBeSpent, MayLackWith, IsOwnStop, IsOrdered, IsHistory}
use Rattle.call_log.specs.Played.{empty_tables, played}
use Rattle.call_log.specs.Standing.{standing}
use Rattle.call_log.proofs.Standings.{tables_are_played}
use Rattle.call_log.proofs.Histories.{begun_are_tables, calls_play}
use Rattle.call_laws.specs.Comings.{LacksBy, SaidBy, SpentBy, Comes}
use Rattle.call_laws.proofs.Lasting.{begun_kept, batches_kept, grown_by, grown_longer, history_since, last_kept, last_passes, settled_kept, since_between, tail_grown}

-- ---- the calls are those of some tables

-- a keeper in memory says of no pages and no nodes that they lack
own_lacks : (defs : List TableDef) (tables : Tables) (calls : List Call) (asked : Asked) (stop : Stop) → IsOwnStop defs calls asked stop → LacksFor tables asked stop
own_lacks defs tables calls (AskPut n row) (stops.Refused (Pages used limit)) own = absurd own
own_lacks defs tables calls (AskPut n row) (stops.Refused (Nodes used limit)) own = absurd own
own_lacks defs tables calls (AskPut n row) (stops.Refused (Txn used limit)) own = tt
own_lacks defs tables calls (AskPut n row) (stops.Refused (Locks held limit)) own = tt
own_lacks defs tables calls (AskPut n row) (stops.Refused (LogFull bytes limit)) own = tt
own_lacks defs tables calls (AskPut n row) (stops.Refused (Busy oldest)) own = tt
own_lacks defs tables calls (AskPut n row) (stops.Die holder) own = tt
own_lacks defs tables calls (AskPut n row) (stops.Fault file) own = tt
own_lacks defs tables calls (AskPut n row) (stops.Spent limit) own = tt
own_lacks defs tables calls (AskPut n row) stops.OutOfMemory own = tt
own_lacks defs tables calls (AskLock name mode) stop own = tt
own_lacks defs tables calls (AskGet n key) stop own = tt
own_lacks defs tables calls (AskChunk n range) stop own = tt
own_lacks defs tables calls (AskDel n key) stop own = tt
own_lacks defs tables calls AskMark stop own = tt
own_lacks defs tables calls (AskUndoTo mark) stop own = tt
own_lacks defs tables calls (AskBegin age) stop own = tt
own_lacks defs tables calls AskCommit stop own = tt
own_lacks defs tables calls AskUndo stop own = tt
own_lacks defs tables calls AskCheckpoint stop own = tt

lacks_play : (defs : List TableDef) (first : Tables) (calls : List Call) → IsOrdered defs calls → LacksPlay first calls
lacks_play defs first [] ordered = tt
lacks_play defs first (Began age number ∷ calls) ordered = tt
lacks_play defs first (Committed ∷ calls) ordered = lacks_play defs first calls ordered.1
lacks_play defs first (Undone ∷ calls) ordered = lacks_play defs first calls ordered.1
lacks_play defs first (Locked name mode ∷ calls) ordered = lacks_play defs first calls ordered.2
lacks_play defs first (Did op ∷ calls) ordered = lacks_play defs first calls ordered.1
lacks_play defs first (Opened generation ∷ calls) ordered = absurd ordered
lacks_play defs first (Stopped asked stop ∷ calls) ordered = (own_lacks defs (tables_of first calls) calls asked stop ordered.1, lacks_play defs first calls ordered.2)

pub plays_from : (defs : List TableDef) (calls : List Call) → IsHistory defs calls → PlaysFrom defs (begun_at (empty_tables defs) calls) calls
plays_from defs calls is =
    let are = begun_are_tables defs calls is in
    record { tables = are.0; schema = are.1; answers = calls_play (empty_tables defs) calls is.plays; lacks = lacks_play defs (begun_at (empty_tables defs) calls) calls is.ordered }

-- ---- what lacks

used_up_lacks : (defs : List TableDef) (calls : List Call) (asked : Asked) (resource : Resource) → IsUsedUp defs calls asked resource → MayLackWith defs (batches_of calls) resource
used_up_lacks defs calls (AskBegin age) (LogFull bytes limit) up = up
used_up_lacks defs calls (AskBegin age) (Pages used limit) up = absurd up
used_up_lacks defs calls (AskBegin age) (Nodes used limit) up = absurd up
used_up_lacks defs calls (AskBegin age) (Txn used limit) up = absurd up
used_up_lacks defs calls (AskBegin age) (Locks held limit) up = absurd up
used_up_lacks defs calls (AskBegin age) (Busy oldest) up = absurd up
used_up_lacks defs calls (AskPut n row) (Txn used limit) up = (_, inl (n, up.0, refl), up.2)
used_up_lacks defs calls (AskPut n row) (Pages used limit) up = absurd up
used_up_lacks defs calls (AskPut n row) (Nodes used limit) up = absurd up
used_up_lacks defs calls (AskPut n row) (Locks held limit) up = absurd up
used_up_lacks defs calls (AskPut n row) (LogFull bytes limit) up = absurd up
used_up_lacks defs calls (AskPut n row) (Busy oldest) up = absurd up
used_up_lacks defs calls (AskDel n key) (Txn used limit) up = (_, inr refl, up.1)
used_up_lacks defs calls (AskDel n key) (Pages used limit) up = absurd up
used_up_lacks defs calls (AskDel n key) (Nodes used limit) up = absurd up
used_up_lacks defs calls (AskDel n key) (Locks held limit) up = absurd up
used_up_lacks defs calls (AskDel n key) (LogFull bytes limit) up = absurd up
used_up_lacks defs calls (AskDel n key) (Busy oldest) up = absurd up
used_up_lacks defs calls (AskLock name mode) resource up = absurd up
used_up_lacks defs calls (AskGet n key) resource up = absurd up
used_up_lacks defs calls (AskChunk n range) resource up = absurd up
used_up_lacks defs calls AskMark resource up = absurd up
used_up_lacks defs calls (AskUndoTo mark) resource up = absurd up
used_up_lacks defs calls AskCommit resource up = absurd up
used_up_lacks defs calls AskUndo resource up = absurd up
used_up_lacks defs calls AskCheckpoint resource up = absurd up

-- a stop before a commit came before it
but_last : (asked : Asked) (stop : Stop) (before last : List Call) → Grown (Stopped asked stop ∷ before) (Committed ∷ last) → Grown (Stopped asked stop ∷ before) last
but_last asked stop before last (then _ _ is more) = more

module _ (defs : List TableDef) (old new : List Call) (is : IsHistory defs new) where
  -- before a stop nothing was committed
  uncommitted_before : (asked : Asked) (stop : Stop) (before : List Call) → CommitsLast old new → Grown old before → Grown (Stopped asked stop ∷ before) new → Uncommitted old before
  uncommitted_before asked stop before (inl kept) since more = since_between (λ call. not (is_commit call)) old before new kept since (tail_grown (Stopped asked stop) before new more)
  uncommitted_before asked stop before (inr (last, new_is, kept)) since more =
      since_between (λ call. not (is_commit call)) old before last kept since (tail_grown (Stopped asked stop) before last (but_last asked stop before last (subst (Grown (Stopped asked stop ∷ before)) new_is more)))

  lacks_by : (reply : Reply) → CommitsLast old new → ReplyWasGiven old new reply → LacksBy defs (batches_of old) reply
  lacks_by reply commits given = λ resource reply_is.
      let gave : GaveSince (stops.Refused resource) old new = subst (ReplyWasGiven old new) reply_is given in
      let stopped = history_since defs (Stopped gave.asked (stops.Refused resource) ∷ gave.before) new gave.more is in
      let kept = uncommitted_before gave.asked (stops.Refused resource) gave.before commits gave.since gave.more in
      subst (λ (batches : List (List RowChange)). MayLackWith defs batches resource) (batches_kept old gave.before kept) (used_up_lacks defs gave.before gave.asked resource stopped.ordered.1)

  all_lack : (replies : List Reply) → CommitsLast old new → AllByRecursion (ReplyWasGiven old new) replies → AllByRecursion (LacksBy defs (batches_of old)) replies
  all_lack [] commits given = tt
  all_lack (reply ∷ replies) commits given = (lacks_by reply commits given.0, all_lack replies commits given.1)

-- ---- what is spent

begins_few : (calls : List Call) → begin_count calls ≤ length calls
begins_few [] = omega arith
begins_few (Began age number ∷ calls) = let few = begins_few calls in omega (arith, few)
begins_few (Committed ∷ calls) = let few = begins_few calls in omega (arith, few)
begins_few (Undone ∷ calls) = let few = begins_few calls in omega (arith, few)
begins_few (Locked name mode ∷ calls) = let few = begins_few calls in omega (arith, few)
begins_few (Did op ∷ calls) = let few = begins_few calls in omega (arith, few)
begins_few (Opened generation ∷ calls) = let few = begins_few calls in omega (arith, few)
begins_few (Stopped asked stop ∷ calls) = let few = begins_few calls in omega (arith, few)

ops_few : (calls : List Call) → op_count calls ≤ length calls
ops_few [] = omega arith
ops_few (Began age number ∷ calls) = omega arith
ops_few (Committed ∷ calls) = let few = ops_few calls in omega (arith, few)
ops_few (Undone ∷ calls) = let few = ops_few calls in omega (arith, few)
ops_few (Locked name mode ∷ calls) = let few = ops_few calls in omega (arith, few)
ops_few (Did op ∷ calls) = let few = ops_few calls in omega (arith, few)
ops_few (Opened generation ∷ calls) = let few = ops_few calls in omega (arith, few)
ops_few (Stopped asked stop ∷ calls) = let few = ops_few calls in omega (arith, few)

ops_spent : (calls : List Call) (limit : ℕ) → AreOpsSpent (op_count calls) limit → MayBeSpent calls limit
ops_spent calls limit spent = (spent.0, subst (λ (n : ℕ). n ≤ length calls) spent.1 (ops_few calls))

-- a checkpoint isn't asked for by a transaction
no_checkpoint : (calls : List Call) → is_running calls ≡ false → IsOfTransaction AskCheckpoint calls → ⊥
no_checkpoint calls idle (inl (age, is)) = absurd cc
no_checkpoint calls idle (inr runs) = false≢true (subst (λ (r : Bool). IsTrue r) idle runs)

spent_calls : (calls : List Call) (asked : Asked) (limit : ℕ) → IsInPlace asked calls → IsOfTransaction asked calls → IsSpentAt calls asked limit → MayBeSpent calls limit
spent_calls calls (AskBegin age) limit place of spent = let few = begins_few calls in (spent.0, omega (arith, few, spent.1))
spent_calls calls (AskGet n key) limit place of spent = ops_spent calls limit spent
spent_calls calls (AskChunk n range) limit place of spent = ops_spent calls limit spent
spent_calls calls (AskPut n row) limit place of spent = ops_spent calls limit spent
spent_calls calls (AskDel n key) limit place of spent = ops_spent calls limit spent
spent_calls calls (AskUndoTo mark) limit place of spent = ops_spent calls limit spent
spent_calls calls AskCheckpoint limit place of spent = absurd (no_checkpoint calls place of)
spent_calls calls (AskLock name mode) limit place of spent = absurd spent
spent_calls calls AskMark limit place of spent = absurd spent
spent_calls calls AskCommit limit place of spent = absurd spent
spent_calls calls AskUndo limit place of spent = absurd spent

module _ (defs : List TableDef) (old new : List Call) (is : IsHistory defs new) where
  spent_by : (reply : Reply) → ReplyWasGiven old new reply → SpentBy new reply
  spent_by reply given = λ limit reply_is.
      let gave : GaveSince (stops.Spent limit) old new = subst (ReplyWasGiven old new) reply_is given in
      let stopped = history_since defs (Stopped gave.asked (stops.Spent limit) ∷ gave.before) new gave.more is in
      let spent = spent_calls gave.before gave.asked limit stopped.ordered.0 gave.placed stopped.ordered.1 in
      let longer = grown_longer (Stopped gave.asked (stops.Spent limit) ∷ gave.before) new gave.more in
      (spent.0, omega (arith, spent.1, longer))

  all_spent : (replies : List Reply) → AllByRecursion (ReplyWasGiven old new) replies → AllByRecursion (SpentBy new) replies
  all_spent [] given = tt
  all_spent (reply ∷ replies) given = (spent_by reply given.0, all_spent replies given.1)

-- ---- a block that is answered

left_step : (first : Tables) (call : Call) (calls : List Call) → not (is_commit call) ≡ true → left_by first (call ∷ calls) ≡ first
left_step first (Began age number) calls is = refl
left_step first Committed calls is = absurd (let e = is in cc)
left_step first Undone calls is = refl
left_step first (Locked name mode) calls is = refl
left_step first (Did op) calls is = refl
left_step first (Opened generation) calls is = refl
left_step first (Stopped asked stop) calls is = refl

-- the tables that an uncommitted transaction leaves
left_kept : (first : Tables) (age : Option ℕ) (number : ℕ) (old new : List Call) → Continues (Began age number ∷ old) new → Uncommitted old new → left_by first new ≡ first
left_kept first age number old _ here kept = refl
left_kept first age number old _ (then call calls is more) kept =
    left_step first call calls (last_passes (λ c. not (is_commit c)) old call calls kept (tail_grown (Began age number) old calls (grown_by (λ c. not (is_begin c)) (Began age number ∷ old) calls more)))

module _ (defs : List TableDef) (block : Block) (old : List Call) (replies : List Reply) where
  abbrev E : Tables
  E = empty_tables defs

  said_committed : (before : List Call) → Uncommitted old before → IsHistory defs (Committed ∷ before) → SaidWithin defs None block replies old (Committed ∷ before) → AllByRecursion (ReplyWasGiven old (Committed ∷ before)) replies
      → SaidBy defs block old replies (Committed ∷ before)
  said_committed before kept is said given =
      let new = Committed ∷ before in
      let begun : begun_at E new ≡ settled E old = begun_kept E (Began None said.calls.0 ∷ old) new said.calls.1 in
      record {
        means = subst (λ (t : Tables). block_means block t replies (settled E new)) begun (said.means (begun_at E new) (plays_from defs new is));
        batches = ap (λ (batches : List (List RowChange)). with_batch batches (standing (ops_of before))) (batches_kept old before kept);
        same = λ empty. tables_are_played (begun_at E before) (ops_of before) (calls_play E before is.plays) ∙ ap (λ (changes : List RowChange). played (begun_at E before) changes) empty ∙ begun;
        causes = all_lack defs old new is replies (inr (before, refl, kept)) given;
        spent = all_spent defs old new is replies given;
        ended = refl;
      }

  none_kept : (new : List Call) → BeganNone None old new → Uncommitted old new
  none_kept new (inl same) = subst (Uncommitted old) (sym same) here
  none_kept new (inr (stop, is)) = subst (Uncommitted old) (sym is) (then (Stopped (AskBegin None) stop) old refl here)

  said_within : (new : List Call) → IsHistory defs new → last_batch old ≡ [] → CommitsLast old new → SaidWithin defs None block replies old new → AllByRecursion (ReplyWasGiven old new) replies → is_running new ≡ false
      → SaidBy defs block old replies new
  said_within new is none (inl kept) said given idle =
      let begun : begun_at E new ≡ settled E old = begun_kept E (Began None said.calls.0 ∷ old) new said.calls.1 in
      let means = said.means (begun_at E new) (plays_from defs new is) in
      let left : left_by (begun_at E new) new ≡ settled E new = left_kept (begun_at E new) None said.calls.0 old new said.calls.1 kept ∙ begun ∙ sym (settled_kept E old new kept) in
      record {
        means = subst (λ (t : Tables). block_means block t replies (settled E new)) begun (subst (block_means block (begun_at E new) replies) left means);
        batches = batches_kept old new kept ∙ sym (ap (with_batch (batches_of old)) (last_kept old new kept none));
        same = λ empty. settled_kept E old new kept;
        causes = all_lack defs old new is replies (inl kept) given;
        spent = all_spent defs old new is replies given;
        ended = idle;
      }
  said_within new is none (inr (before, new_is, kept)) said given idle =
      subst (SaidBy defs block old replies) (sym new_is)
      (said_committed before kept (subst (IsHistory defs) new_is is) (subst (SaidWithin defs None block replies old) new_is said) (subst (λ (calls : List Call). AllByRecursion (ReplyWasGiven old calls) replies) new_is given))

  -- nothing was called, or a begin was refused
  said_without : (new : List Call) → IsHistory defs new → last_batch old ≡ [] → CommitsLast old new → SaidWithout None block replies old new → AllByRecursion (ReplyWasGiven old new) replies → is_running new ≡ false
      → SaidBy defs block old replies new
  said_without new is none commits said given idle =
      let kept = none_kept new said.calls in
      record {
        means = subst (block_means block (settled E old) replies) (sym (settled_kept E old new kept)) (said.means (settled E old));
        batches = batches_kept old new kept ∙ sym (ap (with_batch (batches_of old)) (last_kept old new kept none));
        same = λ empty. settled_kept E old new kept;
        causes = all_lack defs old new is replies commits given;
        spent = all_spent defs old new is replies given;
        ended = idle;
      }

  said : (new : List Call) → IsHistory defs new → last_batch old ≡ [] → CommitsLast old new → BlockSaid defs None block replies old new → AllByRecursion (ReplyWasGiven old new) replies → is_running new ≡ false → SaidBy defs block old replies new
  said new is none commits (inl without) given idle = said_without new is none commits without given idle
  said new is none commits (inr within) given idle = said_within new is none commits within given idle

-- ---- a block that isn't

undone_idle : (defs : List TableDef) (new : List Call) → IsHistory defs new → IsUndone new → is_running new ≡ false
undone_idle defs new is (inl idle) = idle
undone_idle defs new is (inr (before, new_is)) = absurd (subst (IsHistory defs) new_is is).ordered.0

no_fault : (defs : List TableDef) (old new : List Call) → IsHistory defs new → EndsByFault old new → ⊥
no_fault defs old new is ends = (subst (IsHistory defs) ends.last is).ordered.1

died_not : (defs : List TableDef) (holder : ℕ) (asked : Asked) (before new : List Call) → IsHistory defs new → IsGivenUp (Stopped asked (stops.Die holder) ∷ before) new → ⊥
died_not defs holder asked before new is (inl new_is) = (subst (IsHistory defs) new_is is).ordered.1.1
died_not defs holder asked before new is (inr (limit, new_is)) = (subst (IsHistory defs) new_is is).ordered.0

pub try_comes : (defs : List TableDef) (block : Block) (old new : List Call) (tried : Tried) → IsHistory defs new → last_batch old ≡ [] → Tries defs None block old tried new → Comes defs block old tried new
try_comes defs block old new (tries.Said replies) is none tried = said defs block old replies.items new is none tried.commits tried.said tried.causes tried.ended
try_comes defs block old new tries.OutOfMemory is none tried = record {
  settled_is = settled_kept (empty_tables defs) old new tried.kept;
  batches = batches_kept old new tried.kept;
  none = last_kept old new tried.kept none;
  ended = undone_idle defs new is tried.ended;
}
try_comes defs block old new tries.Stopped is none tried = no_fault defs old new is tried.stopped
try_comes defs block old new (tries.Died holder age) is none tried = died_not defs holder tried.died.asked tried.died.before new is tried.died.undone
