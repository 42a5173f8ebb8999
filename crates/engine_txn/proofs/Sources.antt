-- Which of a statement's own calls its reply or its stop comes from.
use Rattle.std.proofs.Common.{◌≡◌, inl, inr, ℕ, List, ◌∷◌, Option, None, Some, Result, Ok, Err, refl, sym, subst, ◌∙◌}
use Rattle.std.specs.Prelude.{IsTrue, IfErr, IfOk}
use Rattle.key_space.specs.declared.lock.LockName.{LockName}
use Rattle.key_space.specs.declared.lock.Mode.{Mode}
use Rattle.key_space.specs.Plays.{UndoTo}
use Rattle.plain_model.specs.declared.reply.Reply.{Reply}
use Rattle.plain_model.specs.declared.reply.Reply.TheVariants.{Done, Many, Rows, Opened as OpenedReply, Refused}
use Rattle.plain_model.specs.declared.reply.Refusal.{Refusal}
use Rattle.plain_model.specs.declared.reply.Refusal.TheVariants as refusals
use Rattle.plain_model.specs.declared.stop.Stop.{Stop}
use Rattle.plain_model.specs.declared.stop.Stop.TheVariants as stops
use Rattle.plain_model.specs.declared.stop.Resource.{Resource}
use Rattle.plain_model.specs.Calls.{AskLock, Call, Did, Stopped, is_running}
use Rattle.plain_model.specs.Runs.{EndsBy}
use Rattle.sql_exec.specs.Means.{HasGiver, IsNoLackReply, IsNotSpentReply, IsOwn, IsOwnOrBy, LocksBy, Stops, WasGiven}
use Rattle.engine_txn.specs.Transactions.{here, then, Grown, GaveSince}
use Rattle.engine_txn.specs.TextRuns.{GaveLast, HasCause, IsOwnOrGiven, StopsSince}
use Rattle.engine_txn.proofs.CallLists.{grown_first, past_lock}

module _ (mode : Mode) (old new : List Call) where
  -- ---- A stop

  gave_at : (lock : Option LockName) (stop : Stop) → (lock ≡ None → stop ≡ stops.OutOfMemory) → LocksBy lock mode old new → EndsBy new stop → IsOwnOrGiven old new stop
  gave_at None stop free same ends = inl (free refl)
  gave_at (Some name) stop free (inl (other, is)) ends =
      let all : Stopped ends.asked stop ∷ ends.before ≡ Stopped (AskLock name mode) other ∷ old = sym ends.last ∙ is in
      let same : ends.before ≡ old = cc in
      inr (record { asked = ends.asked; before = ends.before; last = ends.last; since = subst (Grown old) (sym same) here; running = ends.running })
  gave_at (Some name) stop free (inr since) ends =
      let past = past_lock name mode old (Stopped ends.asked stop) ends.before new refl ends.last since in
      inr (record { asked = ends.asked; before = ends.before; last = ends.last; since = grown_first name mode old ends.before past; running = ends.running })

  own_or_given : (lock : Option LockName) (stop : Stop) → (lock ≡ None → stop ≡ stops.OutOfMemory) → LocksBy lock mode old new → IsOwnOrBy new stop → IsOwnOrGiven old new stop
  own_or_given lock stop free locks (inl own) = inl own
  own_or_given lock stop free locks (inr ends) = gave_at lock stop free locks ends

  pub stops_since : (lock : Option LockName) (result : Result Reply Stop) → (lock ≡ None → IsOwn result) → LocksBy lock mode old new → IfErr result (Stops new) → IfErr result (StopsSince old new)
  stops_since lock (Ok reply) free locks ends = tt
  stops_since lock (Err stop) free locks ends = record { cause = own_or_given lock stop free locks ends.cause; kind = ends.kind }

  -- ---- A lack

  lack_since : (lock : Option LockName) (resource : Resource) → IsTrue (is_running old) → (lock ≡ None → ⊥) → LocksBy lock mode old new → WasGiven resource old new → GaveSince (stops.Refused resource) old new
  lack_since None resource runs free same given = absurd (free refl)
  lack_since (Some name) resource runs free locks (inl (asked, by, is)) = record {
    asked = AskLock asked by;
    before = old;
    since = here;
    more = subst (Grown (Stopped (AskLock asked by) (stops.Refused resource) ∷ old)) (sym is) here;
    placed = inr runs;
  }
  lack_since (Some name) resource runs free (inl (other, is)) (inr (mark, before, done, ends)) =
      let all : Did (UndoTo mark) ∷ before ≡ Stopped (AskLock name mode) other ∷ old = sym done ∙ is in
      absurd cc
  lack_since (Some name) resource runs free (inr since) (inr (mark, before, done, ends)) =
      let call = Stopped ends.asked (stops.Refused resource) in
      let back = past_lock name mode old (Did (UndoTo mark)) before new refl done since in
      let past = past_lock name mode old call ends.before before refl ends.last back in
      record {
        asked = ends.asked;
        before = ends.before;
        since = grown_first name mode old ends.before past;
        more = subst (Grown (call ∷ ends.before)) (sym done) (then (Did (UndoTo mark)) before refl (subst (Grown (call ∷ ends.before)) (sym ends.last) here));
        placed = inr ends.running;
      }

  module _ (lock : Option LockName) (runs : IsTrue (is_running old)) (locks : LocksBy lock mode old new) where
    refusal_cause : (refusal : Refusal) → HasGiver old new (Refused refusal) → IsNotSpentReply (Refused refusal) → (lock ≡ None → IsNoLackReply (Refused refusal)) → HasCause old new (Refused refusal)
    refusal_cause (refusals.Resource resource) giver spent free = lack_since lock resource runs free locks giver
    refusal_cause (refusals.Spent limit) giver spent free = absurd spent
    refusal_cause (refusals.Syntax at) giver spent free = tt
    refusal_cause refusals.InBlock giver spent free = tt
    refusal_cause refusals.NoBlock giver spent free = tt
    refusal_cause refusals.OnlyFirst giver spent free = tt
    refusal_cause refusals.NoTable giver spent free = tt
    refusal_cause refusals.NoColumn giver spent free = tt
    refusal_cause refusals.Kind giver spent free = tt
    refusal_cause refusals.Order giver spent free = tt
    refusal_cause refusals.KeyFixed giver spent free = tt
    refusal_cause refusals.Twice giver spent free = tt
    refusal_cause (refusals.Count given wanted) giver spent free = tt
    refusal_cause (refusals.Length given limit) giver spent free = tt
    refusal_cause (refusals.Duplicate key) giver spent free = tt
    refusal_cause refusals.Range giver spent free = tt
    refusal_cause refusals.TableExists giver spent free = tt
    refusal_cause (refusals.Tables limit) giver spent free = tt
    refusal_cause (refusals.Columns count) giver spent free = tt
    refusal_cause (refusals.SameName place) giver spent free = tt
    refusal_cause refusals.NoKey giver spent free = tt
    refusal_cause (refusals.TooWide bytes) giver spent free = tt

    reply_cause : (reply : Reply) → HasGiver old new reply → IsNotSpentReply reply → (lock ≡ None → IsNoLackReply reply) → HasCause old new reply
    reply_cause Done giver spent free = tt
    reply_cause (Many count) giver spent free = tt
    reply_cause (Rows rows) giver spent free = tt
    reply_cause (OpenedReply generation) giver spent free = tt
    reply_cause (Refused refusal) giver spent free = refusal_cause refusal giver spent free

    pub has_cause : (result : Result Reply Stop) → IfOk result (HasGiver old new) → IfOk result IsNotSpentReply → (lock ≡ None → IsOwn result) → IfOk result (HasCause old new)
    has_cause (Ok reply) giver spent free = reply_cause reply giver spent free
    has_cause (Err stop) giver spent free = tt
