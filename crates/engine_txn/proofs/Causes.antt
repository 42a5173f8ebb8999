-- That what is said to be lacking or spent is what a call gave.
use Rattle.std.proofs.Common.{◌≡◌, inl, inr, ℕ, Bool, true, not, List, [], ◌∷◌, None, Some, Result, Ok, Err, refl, sym, ap, subst}
use Rattle.std.specs.Prelude.{IsTrue}
use Rattle.std.specs.List.{AllByRecursion}
use Rattle.sql_parse.specs.declared.statement.Statement.{Statement}
use Rattle.plain_model.specs.declared.reply.Reply.{Reply}
use Rattle.plain_model.specs.declared.reply.Reply.TheVariants.{Done, Many, Rows, Opened as OpenedReply, Refused}
use Rattle.plain_model.specs.declared.reply.Refusal.{Refusal}
use Rattle.plain_model.specs.declared.reply.Refusal.TheVariants as refusals
use Rattle.plain_model.specs.declared.stop.Stop.{Stop}
use Rattle.plain_model.specs.declared.stop.Stop.TheVariants as stops
use Rattle.plain_model.specs.Blocks.{IsPlain}
use Rattle.plain_model.specs.Calls.{Asked, Call, Stopped, is_running}
use Rattle.plain_model.specs.Runs.{EndsBy, is_begin}
use Rattle.plain_model.proofs.NothingUsedUp.{misplaced_plain}
use Rattle.engine_txn.specs.Transactions.{here, then, Continues, Grown, GaveSince, HasBegun}
use Rattle.engine_txn.specs.BlockSaid.{ReplyWasGiven}
use Rattle.engine_txn.specs.TextRuns.{HasCause, refused_as}
use Rattle.engine_txn.proofs.CallLists.{grown, since_past, since_trans}

-- what was given stays given
gave_on : (stop : Stop) (first old new last : List Call) → Grown first old → Grown new last → GaveSince stop old new → GaveSince stop first last
gave_on stop first old new last before after gave = record {
  asked = gave.asked;
  before = gave.before;
  since = since_trans (λ call. true) first old gave.before before gave.since;
  more = since_trans (λ call. true) (Stopped gave.asked stop ∷ gave.before) new last gave.more after;
  placed = gave.placed;
}

-- a reply's cause stays its cause
module _ (first old new last : List Call) (before : Grown first old) (after : Continues new last) where
  more_since : Grown new last
  more_since = grown (λ call. not (is_begin call)) new last after

  refusal_on : (refusal : Refusal) → ReplyWasGiven old new (Refused refusal) → ReplyWasGiven first last (Refused refusal)
  refusal_on (refusals.Resource resource) gave = gave_on (stops.Refused resource) first old new last before more_since gave
  refusal_on (refusals.Spent limit) gave = gave_on (stops.Spent limit) first old new last before more_since gave
  refusal_on (refusals.Syntax at) gave = tt
  refusal_on refusals.InBlock gave = tt
  refusal_on refusals.NoBlock gave = tt
  refusal_on refusals.OnlyFirst gave = tt
  refusal_on refusals.NoTable gave = tt
  refusal_on refusals.NoColumn gave = tt
  refusal_on refusals.Kind gave = tt
  refusal_on refusals.Order gave = tt
  refusal_on refusals.KeyFixed gave = tt
  refusal_on refusals.Twice gave = tt
  refusal_on (refusals.Count given wanted) gave = tt
  refusal_on (refusals.Length given limit) gave = tt
  refusal_on (refusals.Duplicate key) gave = tt
  refusal_on refusals.Range gave = tt
  refusal_on refusals.TableExists gave = tt
  refusal_on (refusals.Tables limit) gave = tt
  refusal_on (refusals.Columns count) gave = tt
  refusal_on (refusals.SameName place) gave = tt
  refusal_on refusals.NoKey gave = tt
  refusal_on (refusals.TooWide bytes) gave = tt

  pub given_on : (reply : Reply) → ReplyWasGiven old new reply → ReplyWasGiven first last reply
  given_on Done gave = tt
  given_on (Many count) gave = tt
  given_on (Rows rows) gave = tt
  given_on (OpenedReply generation) gave = tt
  given_on (Refused refusal) gave = refusal_on refusal gave

  pub all_given_on : (replies : List Reply) → AllByRecursion (ReplyWasGiven old new) replies → AllByRecursion (ReplyWasGiven first last) replies
  all_given_on [] gave = tt
  all_given_on (reply ∷ replies) gave = (given_on reply gave.0, all_given_on replies gave.1)

-- ---- The cause of a statement's own reply

module _ (old new : List Call) where
  refusal_given : (refusal : Refusal) → HasCause old new (Refused refusal) → ReplyWasGiven old new (Refused refusal)
  refusal_given (refusals.Resource resource) cause = cause
  refusal_given (refusals.Spent limit) cause = absurd cause
  refusal_given (refusals.Syntax at) cause = tt
  refusal_given refusals.InBlock cause = tt
  refusal_given refusals.NoBlock cause = tt
  refusal_given refusals.OnlyFirst cause = tt
  refusal_given refusals.NoTable cause = tt
  refusal_given refusals.NoColumn cause = tt
  refusal_given refusals.Kind cause = tt
  refusal_given refusals.Order cause = tt
  refusal_given refusals.KeyFixed cause = tt
  refusal_given refusals.Twice cause = tt
  refusal_given (refusals.Count given wanted) cause = tt
  refusal_given (refusals.Length given limit) cause = tt
  refusal_given (refusals.Duplicate key) cause = tt
  refusal_given refusals.Range cause = tt
  refusal_given refusals.TableExists cause = tt
  refusal_given (refusals.Tables limit) cause = tt
  refusal_given (refusals.Columns count) cause = tt
  refusal_given (refusals.SameName place) cause = tt
  refusal_given refusals.NoKey cause = tt
  refusal_given (refusals.TooWide bytes) cause = tt

  pub reply_given : (reply : Reply) → HasCause old new reply → ReplyWasGiven old new reply
  reply_given Done cause = tt
  reply_given (Many count) cause = tt
  reply_given (Rows rows) cause = tt
  reply_given (OpenedReply generation) cause = tt
  reply_given (Refused refusal) cause = refusal_given refusal cause

  -- a refusal that nothing is lacking or spent for has none
  plain_cause : (refusal : Refusal) → IsPlain (Refused refusal) → HasCause old new (Refused refusal)
  plain_cause (refusals.Resource resource) plain = absurd (plain.0 resource refl)
  plain_cause (refusals.Spent limit) plain = absurd (plain.1 limit refl)
  plain_cause (refusals.Syntax at) plain = tt
  plain_cause refusals.InBlock plain = tt
  plain_cause refusals.NoBlock plain = tt
  plain_cause refusals.OnlyFirst plain = tt
  plain_cause refusals.NoTable plain = tt
  plain_cause refusals.NoColumn plain = tt
  plain_cause refusals.Kind plain = tt
  plain_cause refusals.Order plain = tt
  plain_cause refusals.KeyFixed plain = tt
  plain_cause refusals.Twice plain = tt
  plain_cause (refusals.Count given wanted) plain = tt
  plain_cause (refusals.Length given limit) plain = tt
  plain_cause (refusals.Duplicate key) plain = tt
  plain_cause refusals.Range plain = tt
  plain_cause refusals.TableExists plain = tt
  plain_cause (refusals.Tables limit) plain = tt
  plain_cause (refusals.Columns count) plain = tt
  plain_cause (refusals.SameName place) plain = tt
  plain_cause refusals.NoKey plain = tt
  plain_cause (refusals.TooWide bytes) plain = tt

  pub not_read_cause : (is_inside : Bool) (read : Result Statement ℕ) (refusal : Refusal) → refused_as is_inside read ≡ Some refusal → HasCause old new (Refused refusal)
  not_read_cause is_inside (Err at) refusal e =
      let same : refusals.Syntax at ≡ refusal = cc in
      subst (λ (r : Refusal). HasCause old new (Refused r)) same tt
  not_read_cause is_inside (Ok statement) refusal e = plain_cause refusal (misplaced_plain is_inside statement refusal e)

-- ---- SPENT

gave_last : (asked : Asked) (stop : Stop) (begun before new : List Call) → IsTrue (is_running before) → Grown begun before → Grown (Stopped asked stop ∷ before) new → GaveSince stop begun new
gave_last asked stop begun before new runs since more = record { asked = asked; before = before; since = since; more = more; placed = inr runs }

-- a stop that ended the calls behind a begin was given since
stop_given : (stop : Stop) (begun now last : List Call) → HasBegun begun → Grown begun now → EndsBy now stop → Grown now last → GaveSince stop begun last
stop_given stop begun now last has more ends on =
    gave_last ends.asked stop begun ends.before last ends.running (since_past (λ call. true) (Stopped ends.asked stop) begun ends.before now has refl ends.last more)
    (subst (λ (calls : List Call). Grown calls last) ends.last on)

-- the reply that something is spent, where the last call gave that
pub spent_given : (limit : ℕ) (begun now last : List Call) → HasBegun begun → Grown begun now → EndsBy now (stops.Spent limit) → Grown now last → ReplyWasGiven begun last (Refused (refusals.Spent limit))
spent_given limit begun now last has more ends on = stop_given (stops.Spent limit) begun now last has more ends on
