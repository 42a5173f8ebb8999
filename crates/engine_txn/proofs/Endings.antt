-- How a block's transaction comes to its end.
use Rattle.std.proofs.Common.{◌≡◌, inl, inr, ℕ, ◌+◌, ◌-◌, ◌<◌, Bool, true, false, List, [], ◌∷◌, ◌++◌, drop, length, None, Result, Ok, Err, refl, sym, ap, subst, ◌∙◌, arith}
use Rattle.std.specs.Prelude.{IsTrue}
use Rattle.std.specs.List.{AllByRecursion}
use Rattle.std.proofs.lemmas.List.{append_assoc, append-nil, at_drop_more}
use Rattle.row_types.specs.Block.{Placed}
use Rattle.row_types.specs.Tables.{Tables}
use Rattle.row_types.specs.declared.block.Block.{Block}
use Rattle.row_types.specs.declared.block.Block.TheVariants.{Alone, Transaction as Behind}
use Rattle.row_types.specs.declared.block.BlockEnd.{BlockEnd}
use Rattle.row_types.specs.declared.block.BlockEnd.TheVariants.{Commit, Rollback, CutOff}
use Rattle.row_types.specs.declared.block.Transaction.{Transaction}
use Rattle.row_types.specs.declared.definition.TableDef.{TableDef}
use Rattle.sql_parse.specs.declared.statement.Statement.{Statement}
use Rattle.plain_model.specs.declared.reply.Reply.{Reply}
use Rattle.plain_model.specs.declared.reply.Reply.TheVariants as replies
use Rattle.plain_model.specs.declared.reply.Refusal.TheVariants as refusals
use Rattle.plain_model.specs.declared.stop.Stop.{Stop}
use Rattle.plain_model.specs.declared.stop.Stop.TheVariants as stops
use Rattle.plain_model.specs.Blocks.{AloneAnswers, AnswersUnless, RunsSoFar, misplaced, TransactionAnswers, end_replies, end_without, without_block}
use Rattle.plain_model.specs.CallPlays.{tables_of}
use Rattle.plain_model.specs.Calls.{AskCommit, Call, Stopped, is_running}
use Rattle.plain_model.proofs.Running.{all_push}
use Rattle.sql_exec.specs.Means.{IsOwnOrBy, Means}
use Rattle.sql_exec.specs.Plays.{PlaysFrom}
use Rattle.engine_txn.specs.declared.ended.Ended.{Ended}
use Rattle.engine_txn.specs.declared.ended.Ended.TheVariants.{Done, Spent}
use Rattle.engine_txn.specs.declared.read.Read.TheVariants.{Allowed}
use Rattle.engine_txn.specs.Transactions.{here, then, CommitsLast, Continues, Grown, HasBegun, Uncommitted}
use Rattle.engine_txn.specs.Steps.{EndsAs, Fails, Halts, end_asks, end_call, reply_at, spent_reply, with_end}
use Rattle.engine_txn.specs.BlockRuns.{EndsBlock, replies_cut, spent_at, spent_end}
use Rattle.engine_txn.specs.BlockSaid.{ReplyWasGiven, left_by}
use Rattle.engine_txn.specs.StatementRuns.{RunsStatement, RowWork, is_row_work}
use Rattle.engine_txn.specs.Progress.{Answered, Broken, CutShort, Going, ReadAs, RunsBegun, RunsInside, RunsOr, is_end, rest_of}
use Rattle.engine_txn.specs.TextRuns.{HasCause, StopsSince, Through}
use Rattle.engine_txn.proofs.CallLists.{grown, works_uncommitted}
use Rattle.engine_txn.proofs.Causes.{all_given_on, given_on, reply_given, spent_given}
use Rattle.engine_txn.proofs.Inside.{spent_ends, spent_stops}
use Rattle.engine_txn.proofs.Tables.{left_first, plays_back, tables_begun}
use Rattle.engine_txn.proofs.Texts.{allowed_answers, stopped_by, text_replied, text_stopped, texts_early, texts_one}

-- a transaction that was broken off, where the result is its stop
pub begun_broken : {T : Type 0} (defs : List TableDef) (block : Block) (begun : List Call) (said : T → List Reply) (result : Result T Stop) (stop : Stop) (new : List Call) → result ≡ Err stop → Broken defs block begun stop new → RunsBegun defs block begun said result new
begun_broken defs block begun said result stop new is broken = subst (λ r. RunsBegun defs block begun said r new) (sym is) broken

-- the statements were run up to one that was spent, or to the last
pub inside_short : (defs : List TableDef) (t : Transaction) (begun : List Call) (said : List Reply) (all : Bool) (now : List Call) → all ≡ false → RunsInside defs t begun said (Ok all) now → CutShort defs t begun said now
inside_short defs t begun said false now e is = is
inside_short defs t begun said true now e is = absurd cc

pub inside_all : (defs : List TableDef) (t : Transaction) (begun : List Call) (said : List Reply) (all : Bool) (now : List Call) → all ≡ true → RunsInside defs t begun said (Ok all) now → Going defs t [] begun said now
inside_all defs t begun said true now e is = is
inside_all defs t begun said false now e is = absurd cc

-- ---- The end itself

-- the call that an end is, or that gave a stop for it
abbrev call_at : BlockEnd → Ended → Call
call_at end Done = end_call end
call_at end (Spent limit) = Stopped (end_asks end) (stops.Spent limit)

ends_by : (end : BlockEnd) (ended : Ended) (old new : List Call) → EndsAs end old (Ok ended) new → new ≡ call_at end ended ∷ old
ends_by end Done old new is = is
ends_by end (Spent limit) old new is = is

call_is_end : (end : BlockEnd) (ended : Ended) → is_end (call_at end ended) ≡ true
call_is_end Commit Done = refl
call_is_end Rollback Done = refl
call_is_end CutOff Done = refl
call_is_end Commit (Spent limit) = refl
call_is_end Rollback (Spent limit) = refl
call_is_end CutOff (Spent limit) = refl

asks_is_end : (end : BlockEnd) (stop : Stop) → is_end (Stopped (end_asks end) stop) ≡ true
asks_is_end Commit stop = refl
asks_is_end Rollback stop = refl
asks_is_end CutOff stop = refl

stops_running : (end : BlockEnd) (ended : Ended) (old : List Call) → is_running (call_at end ended ∷ old) ≡ false
stops_running Commit Done old = refl
stops_running Rollback Done old = refl
stops_running CutOff Done old = refl
stops_running Commit (Spent limit) old = refl
stops_running Rollback (Spent limit) old = refl
stops_running CutOff (Spent limit) old = refl

begins_nothing : (end : BlockEnd) (ended : Ended) (old : List Call) → Continues old (call_at end ended ∷ old)
begins_nothing Commit Done old = then _ old refl here
begins_nothing Rollback Done old = then _ old refl here
begins_nothing CutOff Done old = then _ old refl here
begins_nothing Commit (Spent limit) old = then _ old refl here
begins_nothing Rollback (Spent limit) old = then _ old refl here
begins_nothing CutOff (Spent limit) old = then _ old refl here

-- a commit is the last call
end_commits : (end : BlockEnd) (ended : Ended) (begun old : List Call) → Uncommitted begun old → CommitsLast begun (call_at end ended ∷ old)
end_commits Commit Done begun old kept = inr (old, refl, kept)
end_commits Rollback Done begun old kept = inl (then _ old refl kept)
end_commits CutOff Done begun old kept = inl (then _ old refl kept)
end_commits Commit (Spent limit) begun old kept = inl (then _ old refl kept)
end_commits Rollback (Spent limit) begun old kept = inl (then _ old refl kept)
end_commits CutOff (Spent limit) begun old kept = inl (then _ old refl kept)

pub fails_halts : (stop : Stop) → Fails stop → Halts stop
fails_halts (stops.Fault file) is = tt
fails_halts stops.OutOfMemory is = tt
fails_halts (stops.Die holder) is = absurd is
fails_halts (stops.Spent limit) is = absurd is
fails_halts (stops.Refused resource) is = absurd is

-- the reply to an end has its cause
end_given : (end : BlockEnd) (ended : Ended) (begun old : List Call) (usual : Reply) → IsTrue (is_running old) → Grown begun old → ReplyWasGiven begun (call_at end ended ∷ old) usual → ReplyWasGiven begun (call_at end ended ∷ old) (reply_at ended usual)
end_given end Done begun old usual runs more given = given
end_given end (Spent limit) begun old usual runs more given = record { asked = end_asks end; before = old; since = more; more = here; placed = inr runs }

-- ---- BEGIN, and what follows it

-- NO BLOCK for the end alone
pub no_block_at_end : (end : BlockEnd) (said : List Reply) → with_end end said (replies.Refused refusals.NoBlock) ≡ said ++ without_block [] end
no_block_at_end Commit said = refl
no_block_at_end Rollback said = refl
no_block_at_end CutOff said = sym (append-nil said)

end_means : (texts : List Placed) (end : BlockEnd) (ended : Ended) (first : Tables) (said : List Reply) (now : List Call) → RunsSoFar texts [] end first said (tables_of first now)
    → TransactionAnswers texts end first (with_end end said (reply_at ended replies.Done)) (left_by first (call_at end ended ∷ now))
end_means texts Commit Done first said now so_far = so_far (replies.Done ∷ []) (tables_of first now) (inl (refl, refl))
end_means texts Rollback Done first said now so_far = so_far (replies.Done ∷ []) first (inl (refl, refl))
end_means texts CutOff Done first said now so_far = subst (λ (l : List Reply). TransactionAnswers texts CutOff first l first) (append-nil said) (so_far [] first (inl (refl, refl)))
end_means texts Commit (Spent limit) first said now so_far = so_far (replies.Refused (refusals.Spent limit) ∷ []) first (inr ((replies.Refused (refusals.Spent limit), (limit, refl), refl), refl))
end_means texts Rollback (Spent limit) first said now so_far = so_far (replies.Refused (refusals.Spent limit) ∷ []) first (inr ((replies.Refused (refusals.Spent limit), (limit, refl), refl), refl))
end_means texts CutOff (Spent limit) first said now so_far = subst (λ (l : List Reply). TransactionAnswers texts CutOff first l first) (append-nil said) (so_far [] first (inl (refl, refl)))

all_with_end : (P : Reply → Type 0) (end : BlockEnd) (said : List Reply) (reply : Reply) → AllByRecursion P said → P reply → AllByRecursion P (with_end end said reply)
all_with_end P Commit said reply all is = all_push P said reply all is
all_with_end P Rollback said reply all is = all_push P said reply all is
all_with_end P CutOff said reply all is = all

all_append : (P : Reply → Type 0) (xs ys : List Reply) → AllByRecursion P xs → AllByRecursion P ys → AllByRecursion P (xs ++ ys)
all_append P [] ys all more = more
all_append P (x ∷ xs) ys all more = (all.0, all_append P xs ys all.1 more)

no_block_end : (P : Reply → Type 0) (end : BlockEnd) → P (replies.Refused refusals.NoBlock) → AllByRecursion P (end_without end)
no_block_end P Commit is = (is, tt)
no_block_end P Rollback is = (is, tt)
no_block_end P CutOff is = tt

pub all_no_block : (P : Reply → Type 0) (texts : List Placed) (end : BlockEnd) → P (replies.Refused refusals.NoBlock) → AllByRecursion P (without_block texts end)
all_no_block P [] end is = no_block_end P end is
all_no_block P (text ∷ texts) end is = (is, all_no_block P texts end is)

-- NO BLOCK for one text more
pub one_no_block : (said : List Reply) (texts : List Placed) (i : ℕ) (end : BlockEnd) → i < length texts → (said ++ replies.Refused refusals.NoBlock ∷ []) ++ without_block (drop (i + 1) texts) end ≡ said ++ without_block (drop i texts) end
one_no_block said texts i end inside =
    append_assoc said (replies.Refused refusals.NoBlock ∷ []) (without_block (drop (i + 1) texts) end)
    ∙ sym (at_drop_more (λ (l : List Placed). said ++ without_block l end) texts i (record { base = 0; text = [] }) inside)

-- the replies to BEGIN and to the texts, and then to the end
replies_to_end : (end : BlockEnd) (own : List Reply) → with_end end (replies.Done ∷ own) replies.Done ≡ replies.Done ∷ (own ++ end_replies end)
replies_to_end Commit own = refl
replies_to_end Rollback own = refl
replies_to_end CutOff own = ap (λ (l : List Reply). replies.Done ∷ l) (sym (append-nil own))

replies_to_spent : (end : BlockEnd) (own : List Reply) (limit : ℕ) → with_end end (replies.Done ∷ own) (spent_at limit) ≡ replies.Done ∷ (own ++ spent_end end limit)
replies_to_spent Commit own limit = refl
replies_to_spent Rollback own limit = refl
replies_to_spent CutOff own limit = ap (λ (l : List Reply). replies.Done ∷ l) (sym (append-nil own))

ends_block : (t : Transaction) (ended : Ended) (own : List Reply) (now : List Call) → EndsBlock (Behind t) own now (with_end t.end (replies.Done ∷ own) (reply_at ended replies.Done)) (call_at t.end ended ∷ now)
ends_block t Done own now = inl (replies_to_end t.end own, refl)
ends_block t (Spent limit) own now = inr (limit, replies_to_spent t.end own limit, refl)

-- NO BLOCK for what follows the last reply
replies_to_cut : (t : Transaction) (own : List Reply) → (replies.Done ∷ own) ++ without_block (rest_of t (replies.Done ∷ own)) t.end ≡ replies_cut (Behind t) own
replies_to_cut t own =
    let count : length (replies.Done ∷ own) - 1 ≡ length own = omega arith in
    ap (λ (n : ℕ). replies.Done ∷ (own ++ without_block (drop n t.statements) t.end)) count

module _ (defs : List TableDef) (t : Transaction) (begun : List Call) (has : HasBegun begun) where
  -- the end was done, or is spent
  pub answered_end : (said : List Reply) (now : List Call) (ended : Ended) (new : List Call) → Going defs t [] begun said now → EndsAs t.end now (Ok ended) new
      → Answered defs (Behind t) begun (with_end t.end said (reply_at ended replies.Done)) new
  answered_end said now ended new going ends =
      let last = call_at t.end ended in
      let is = ends_by t.end ended now new ends in
      let more = grown is_row_work begun now going.works in
      let behind : Answered defs (Behind t) begun (with_end t.end said (reply_at ended replies.Done)) (last ∷ now) = record {
        ran = record { mid = now; works = going.works; texts = going.runs now refl; ends = then last now (call_is_end t.end ended) here };
        goes = inl (record {
          said = going.so_far.own;
          mid = now;
          texts = going.so_far.goes Through now refl;
          ends = subst (λ (l : List Reply). EndsBlock (Behind t) going.so_far.own now (with_end t.end l (reply_at ended replies.Done)) (last ∷ now)) (sym going.so_far.split) (ends_block t ended going.so_far.own now);
        });
        means = λ first plays. end_means t.statements t.end ended first said now (going.said first (plays_back defs first now (last ∷ now) (begins_nothing t.end ended now) plays));
        causes = all_with_end (ReplyWasGiven begun (last ∷ now)) t.end said (reply_at ended replies.Done)
            (all_given_on begun begun now (last ∷ now) here (begins_nothing t.end ended now) said going.causes)
            (end_given t.end ended begun now replies.Done going.running more tt);
        commits = end_commits t.end ended begun now (works_uncommitted begun now going.works);
        ended = stops_running t.end ended now;
      } in
      subst (λ (calls : List Call). Answered defs (Behind t) begun (with_end t.end said (reply_at ended replies.Done)) calls) (sym is) behind

  -- the end failed
  pub broken_end : (said : List Reply) (now : List Call) (stop : Stop) (new : List Call) → Going defs t [] begun said now → EndsAs t.end now (Err stop) new → Broken defs (Behind t) begun stop new
  broken_end said now stop new going (is, fails) =
      let last = Stopped (end_asks t.end) stop in
      let behind : Broken defs (Behind t) begun stop (last ∷ now) = record {
        ran = record { mid = now; works = going.works; texts = going.runs now refl; ends = then last now (asks_is_end t.end stop) here };
        broke = record { said = going.so_far.own; at = inr (now, going.so_far.goes Through now refl, refl, fails) };
        cause = inr (record { asked = end_asks t.end; before = now; last = refl; running = going.running });
        halts = fails_halts stop fails;
        kept = then last now refl (works_uncommitted begun now going.works);
      } in
      subst (Broken defs (Behind t) begun stop) (sym is) behind

  -- a statement was spent, and NO BLOCK follows
  pub answered_short : (said all : List Reply) (now : List Call) → CutShort defs t begun said now → all ≡ said ++ without_block (rest_of t said) t.end → Answered defs (Behind t) begun all now
  answered_short said all now cut is =
      let behind : Answered defs (Behind t) begun (said ++ without_block (rest_of t said) t.end) now = record {
        ran = record { mid = now; works = cut.works; texts = cut.runs; ends = here };
        goes = inr (record {
          said = cut.to_spent.own;
          limit = cut.to_spent.limit;
          texts = cut.to_spent.goes;
          replies_are = ap (λ (l : List Reply). l ++ without_block (rest_of t l) t.end) cut.to_spent.split ∙ replies_to_cut t (cut.to_spent.own ++ spent_at cut.to_spent.limit ∷ []);
        });
        means = λ first plays. subst (TransactionAnswers t.statements t.end first (said ++ without_block (rest_of t said) t.end)) (sym (left_first first begun now has cut.works)) (cut.said first plays);
        causes = all_append (ReplyWasGiven begun now) said (without_block (rest_of t said) t.end) cut.causes (all_no_block (ReplyWasGiven begun now) (rest_of t said) t.end tt);
        commits = inl (works_uncommitted begun now cut.works);
        ended = cut.ended;
      } in
      subst (λ (l : List Reply). Answered defs (Behind t) begun l now) (sym is) behind

-- ---- A statement that stands alone

alone_ends : (text : Placed) (ended : Ended) (reply : Reply) (now : List Call) → EndsBlock (Alone text) (reply ∷ []) now (reply_at ended reply ∷ []) (call_at Commit ended ∷ now)
alone_ends text Done reply now = inl (refl, refl)
alone_ends text (Spent limit) reply now = inr (limit, refl, refl)

alone_means : (ended : Ended) (statement : Statement) (first : Tables) (reply : Reply) (now : List Call) → misplaced false statement ≡ None → AnswersUnless None statement first reply (tables_of first now)
    → AloneAnswers (Ok statement) first (reply_at ended reply) (left_by first (call_at Commit ended ∷ now))
alone_means Done statement first reply now allowed is = inl (allowed_answers false statement first (tables_of first now) reply allowed is)
alone_means (Spent limit) statement first reply now allowed is = inr (allowed, inl (limit, refl), refl)

module _ (defs : List TableDef) (text : Placed) (statement : Statement) (begun now : List Call) (has : HasBegun begun) (read : ReadAs false text (Allowed statement)) (works : RowWork begun now) where
  -- it was answered, and the commit was done or is spent
  pub alone_answered : (reply : Reply) (ended : Ended) (new : List Call) → RunsStatement defs statement begun now → IsTrue (is_running now) → Means defs statement begun (Ok reply) now → HasCause begun now reply
      → EndsAs Commit now (Ok ended) new → Answered defs (Alone text) begun (reply_at ended reply ∷ []) new
  alone_answered reply ended new runs running means cause ends =
      let last = call_at Commit ended in
      let is = ends_by Commit ended now new ends in
      let answers : (first : Tables) → PlaysFrom defs first now → AnswersUnless None statement first reply (tables_of first now) = λ first plays.
      subst (λ (tables : Tables). AnswersUnless None statement tables reply (tables_of first now)) (tables_begun first begun has) (means first plays) in
      let replied = text_replied false defs text statement begun reply now read runs means cause in
      let behind : Answered defs (Alone text) begun (reply_at ended reply ∷ []) (last ∷ now) = record {
        ran = record { mid = now; works = works; texts = texts_one false defs text [] statement begun now read runs; ends = then last now (call_is_end Commit ended) here };
        goes = inl (record { said = reply ∷ []; mid = now; texts = (now, replied, refl); ends = alone_ends text ended reply now });
        means = λ first plays. (Ok statement, read.0, (reply_at ended reply, refl, alone_means ended statement first reply now read.1 (answers first (plays_back defs first now (last ∷ now) (begins_nothing Commit ended now) plays))));
        causes = (end_given Commit ended begun now reply running (grown is_row_work begun now works) (given_on begun begun now (last ∷ now) here (begins_nothing Commit ended now) reply (reply_given begun now reply cause)), tt);
        commits = end_commits Commit ended begun now (works_uncommitted begun now works);
        ended = stops_running Commit ended now;
      } in
      subst (λ (calls : List Call). Answered defs (Alone text) begun (reply_at ended reply ∷ []) calls) (sym is) behind

  -- the commit failed
  pub alone_broken_end : (reply : Reply) (stop : Stop) (new : List Call) → RunsStatement defs statement begun now → IsTrue (is_running now) → Means defs statement begun (Ok reply) now → HasCause begun now reply → EndsAs Commit now (Err stop) new → Broken defs (Alone text) begun stop new
  alone_broken_end reply stop new runs running means cause (is, fails) =
      let last = Stopped AskCommit stop in
      let replied = text_replied false defs text statement begun reply now read runs means cause in
      let behind : Broken defs (Alone text) begun stop (last ∷ now) = record {
        ran = record { mid = now; works = works; texts = texts_one false defs text [] statement begun now read runs; ends = then last now refl here };
        broke = record { said = reply ∷ []; at = inr (now, (now, replied, refl), refl, fails) };
        cause = inr (record { asked = AskCommit; before = now; last = refl; running = running });
        halts = fails_halts stop fails;
        kept = then last now refl (works_uncommitted begun now works);
      } in
      subst (Broken defs (Alone text) begun stop) (sym is) behind

  -- it was spent
  pub alone_spent : (limit : ℕ) → RunsOr (Err (stops.Spent limit)) defs statement begun now → StopsSince begun now (stops.Spent limit) → Answered defs (Alone text) begun (replies.Refused (refusals.Spent limit) ∷ []) now
  alone_spent limit (inl early) stopped = absurd (let same : stops.Spent limit ≡ stops.OutOfMemory = early.0 in cc)
  alone_spent limit (inr runs) stopped =
      let ended = text_stopped false defs text statement begun (stops.Spent limit) now read (inr runs) stopped in
      let ends = spent_ends limit now (stopped_by false defs text begun (stops.Spent limit) now ended) in
      record {
        ran = record { mid = now; works = works; texts = texts_one false defs text [] statement begun now read runs; ends = here };
        goes = inr (record { said = []; limit = limit; texts = ended; replies_are = refl });
        means = λ first plays. (Ok statement, read.0, (replies.Refused (refusals.Spent limit), refl, inr (read.1, inl (limit, refl), left_first first begun now has works)));
        causes = (spent_given limit begun now now has (grown is_row_work begun now works) ends here, tt);
        commits = inl (works_uncommitted begun now works);
        ended = spent_stops limit now ends;
      }

  -- a stop came in it
  pub alone_broken : (stop : Stop) → RunsOr (Err stop) defs statement begun now → StopsSince begun now stop → Halts stop → Broken defs (Alone text) begun stop now
  alone_broken stop is stopped halts = record {
    ran = record {
      mid = now;
      works = works;
      texts = elim is [ inl early ↦ texts_early false defs (text ∷ []) begun now early.1 | inr runs ↦ texts_one false defs text [] statement begun now read runs ];
      ends = here;
    };
    broke = record { said = []; at = inl (text_stopped false defs text statement begun stop now read is stopped) };
    cause = stopped_by false defs text begun stop now (text_stopped false defs text statement begun stop now read is stopped);
    halts = halts;
    kept = works_uncommitted begun now works;
  }

  -- a stop came in it, or it was spent
  pub alone_stopped : (stop : Stop) → RunsOr (Err stop) defs statement begun now → StopsSince begun now stop → RunsBegun defs (Alone text) begun (λ (reply : Reply). reply ∷ []) (spent_reply stop) now
  alone_stopped (stops.Spent limit) is stopped = alone_spent limit is stopped
  alone_stopped (stops.Fault file) is stopped = alone_broken (stops.Fault file) is stopped tt
  alone_stopped (stops.Die holder) is stopped = alone_broken (stops.Die holder) is stopped tt
  alone_stopped (stops.Refused resource) is stopped = absurd stopped.kind
  alone_stopped stops.OutOfMemory is stopped = alone_broken stops.OutOfMemory is stopped tt
