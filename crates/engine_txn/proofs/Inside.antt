-- The statements behind BEGIN, one after the other.
use Rattle.std.proofs.Common.{◌≡◌, inl, inr, ℕ, ◌+◌, ◌≤◌, true, false, List, [], ◌∷◌, ◌++◌, length, Ok, Err, refl, sym, ap, subst, ◌∙◌}
use Rattle.std.specs.Prelude.{IsTrue}
use Rattle.std.specs.List.{AllByRecursion}
use Rattle.std.proofs.lemmas.List.{append_assoc}
use Rattle.row_types.specs.Block.{Placed}
use Rattle.row_types.specs.Tables.{Tables}
use Rattle.row_types.specs.declared.block.Block.TheVariants.{Transaction as Behind}
use Rattle.row_types.specs.declared.block.Transaction.{Transaction}
use Rattle.row_types.specs.declared.definition.TableDef.{TableDef}
use Rattle.plain_model.specs.declared.reply.Reply.{Reply}
use Rattle.plain_model.specs.declared.reply.Reply.TheVariants.{Done, Refused}
use Rattle.plain_model.specs.declared.reply.Refusal.TheVariants as refusals
use Rattle.plain_model.specs.declared.stop.Stop.{Stop}
use Rattle.plain_model.specs.declared.stop.Stop.TheVariants as stops
use Rattle.plain_model.specs.Blocks.{RunsSoFar, TransactionAnswers, without_block}
use Rattle.plain_model.specs.CallPlays.{tables_of}
use Rattle.plain_model.specs.Calls.{Call, is_running}
use Rattle.plain_model.specs.Runs.{EndsBy}
use Rattle.plain_model.proofs.Running.{all_push, runs_first}
use Rattle.sql_exec.specs.Means.{IsNoLack, IsOwnOrBy}
use Rattle.engine_txn.specs.Transactions.{here, HasBegun}
use Rattle.engine_txn.specs.Steps.{Halts, spent_reply}
use Rattle.engine_txn.specs.BlockSaid.{ReplyWasGiven}
use Rattle.engine_txn.specs.StatementRuns.{is_row_work, RowWork}
use Rattle.engine_txn.specs.Progress.{AnswersText, Broken, CutShort, Going, rest_of}
use Rattle.engine_txn.proofs.CallLists.{grown, since_trans, works_continue, works_uncommitted}
use Rattle.engine_txn.specs.TextRuns.{Course, Replied, StoppedBy, TextStopped, TextsGo, course_of}
use Rattle.engine_txn.proofs.Causes.{all_given_on, given_on, reply_given, spent_given}
use Rattle.engine_txn.proofs.Tables.{plays_back, tables_begun}
use Rattle.engine_txn.proofs.Texts.{course_more, stopped_by, texts_early, texts_one}

-- a stop that is no lack is that something is spent, and replied, or it halts the block
pub spent_is : (stop : Stop) (reply : Reply) → spent_reply stop ≡ Ok reply → (limit : ℕ) × (stop ≡ stops.Spent limit) × (reply ≡ Refused (refusals.Spent limit))
spent_is (stops.Spent limit) reply e = (limit, refl, let same : Refused (refusals.Spent limit) ≡ reply = cc in sym same)
spent_is (stops.Refused resource) reply e = absurd cc
spent_is (stops.Die holder) reply e = absurd cc
spent_is (stops.Fault file) reply e = absurd cc
spent_is stops.OutOfMemory reply e = absurd cc

pub halts_of : (stop other : Stop) → IsNoLack stop → spent_reply stop ≡ Err other → Halts stop × (stop ≡ other)
halts_of (stops.Refused resource) other kind e = absurd kind
halts_of (stops.Die holder) other kind e = (tt, let same : stops.Die holder ≡ other = cc in same)
halts_of (stops.Fault file) other kind e = (tt, let same : stops.Fault file ≡ other = cc in same)
halts_of (stops.Spent limit) other kind e = absurd cc
halts_of stops.OutOfMemory other kind e = (tt, let same : stops.OutOfMemory ≡ other = cc in same)

-- that something is spent was the last call's stop, behind which no transaction runs
pub spent_ends : (limit : ℕ) (now : List Call) → IsOwnOrBy now (stops.Spent limit) → EndsBy now (stops.Spent limit)
spent_ends limit now (inl own) = absurd cc
spent_ends limit now (inr ends) = ends

pub spent_stops : (limit : ℕ) (now : List Call) → EndsBy now (stops.Spent limit) → is_running now ≡ false
spent_stops limit now ends = ap is_running ends.last

pub running_begun : (begun : List Call) → HasBegun begun → IsTrue (is_running begun)
running_begun begun (age, number, old, is) = subst (λ (calls : List Call). IsTrue (is_running calls)) (sym is) refl

module _ (defs : List TableDef) (t : Transaction) (begun : List Call) (has : HasBegun begun) where
  pub going_first : Going defs t t.statements begun (Done ∷ []) begun
  going_first = record {
    works = here;
    runs = λ last runs. runs;
    so_far = record { own = []; split = refl; goes = λ course last goes. goes };
    said = λ first plays. subst (λ (tables : Tables). RunsSoFar t.statements t.statements t.end first (Done ∷ []) tables) (sym (tables_begun first begun has)) (runs_first t.statements t.end first);
    causes = (tt, tt);
    running = running_begun begun has;
  }

  module _ (text : Placed) (rest : List Placed) (replies : List Reply) (now new : List Call) (going : Going defs t (text ∷ rest) begun replies now) (works : RowWork now new) where
    works_on : RowWork begun new
    works_on = since_trans is_row_work begun now new going.works works

    causes_on : AllByRecursion (ReplyWasGiven begun new) replies
    causes_on = all_given_on begun begun now new here (works_continue now new works) replies going.causes

    pub going_more : (reply : Reply) → AnswersText defs text now (Ok reply) new → IsTrue (is_running new) → Going defs t rest begun (replies ++ reply ∷ []) new
    going_more reply is running = record {
      works = works_on;
      runs = λ last more. going.runs last (inr (is.read, is.is_read, (new, is.calls, more)));
      so_far = record {
        own = going.so_far.own ++ reply ∷ [];
        split = ap (λ (l : List Reply). l ++ reply ∷ []) going.so_far.split;
        goes = λ course last goes. subst (λ (c : Course). TextsGo true defs t.statements begun c last) (sym (course_more going.so_far.own reply course)) (going.so_far.goes (Replied reply course) last (new, is, goes));
      };
      said = λ first plays more last inside. subst (λ (l : List Reply). TransactionAnswers t.statements t.end first l last) (sym (append_assoc replies (reply ∷ []) more))
          (going.said first (plays_back defs first now new (works_continue now new works) plays) (reply ∷ more) last (is.read, is.is_read, inl (tables_of first new, is.means first plays, inside)));
      causes = all_push (ReplyWasGiven begun new) replies reply causes_on
          (given_on begun now new new (grown is_row_work begun now going.works) here reply (reply_given now new reply is.cause));
      running = running;
    }

    pub broken_at : (stop : Stop) → AnswersText defs text now (Err stop) new → Halts stop → Broken defs (Behind t) begun stop new
    broken_at stop is halts = record {
      ran = record {
        mid = new;
        works = works_on;
        texts = going.runs new (elim is [ inl early ↦ texts_early true defs (text ∷ rest) now new early.1 | inr at ↦ texts_one true defs text rest at.0 now new at.1 at.2 ]);
        ends = here;
      };
      broke = record { said = going.so_far.own; at = inl (going.so_far.goes (StoppedBy stop) new is) };
      cause = stopped_by true defs text now stop new is;
      halts = halts;
      kept = works_uncommitted begun new works_on;
    }

    pub cut_short : (limit : ℕ) (all : List Reply) → AnswersText defs text now (Err (stops.Spent limit)) new → all ≡ replies ++ Refused (refusals.Spent limit) ∷ [] → rest_of t all ≡ rest → 1 ≤ length all → length all ≤ length t.statements + 1 → CutShort defs t begun all new
    cut_short limit all (inl early) is behind some few = absurd (let same : stops.Spent limit ≡ stops.OutOfMemory = early.0 in cc)
    cut_short limit all (inr (statement, read, runs, cause)) is behind some few =
        let reply = Refused (refusals.Spent limit) in
        let stopped : TextStopped true defs text now (stops.Spent limit) new = inr (statement, read, runs, cause) in
        let ends = spent_ends limit new (stopped_by true defs text now (stops.Spent limit) new stopped) in
        record {
          works = works_on;
          runs = going.runs new (texts_one true defs text rest statement now new read runs);
          to_spent = record {
            own = going.so_far.own;
            limit = limit;
            split = is ∙ ap (λ (l : List Reply). l ++ reply ∷ []) going.so_far.split;
            goes = going.so_far.goes (StoppedBy (stops.Spent limit)) new stopped;
          };
          said = λ first plays.
              let after = without_block rest t.end in
              let said = going.said first (plays_back defs first now new (works_continue now new works) plays) (reply ∷ after) first (Ok statement, read.0, inr (read.1, (limit, refl), refl, refl)) in
              let joined : replies ++ reply ∷ after ≡ all ++ after = sym (append_assoc replies (reply ∷ []) after) ∙ ap (λ (l : List Reply). l ++ after) (sym is) in
              let placed : all ++ after ≡ all ++ without_block (rest_of t all) t.end = ap (λ (l : List Placed). all ++ without_block l t.end) (sym behind) in
              subst (λ (l : List Reply). TransactionAnswers t.statements t.end first l first) (joined ∙ placed) said;
          causes = subst (λ (l : List Reply). AllByRecursion (ReplyWasGiven begun new) l) (sym is)
              (all_push (ReplyWasGiven begun new) replies reply causes_on (spent_given limit begun new new has (grown is_row_work begun new works_on) ends here));
          ended = spent_stops limit new ends;
          some = some;
          few = few;
        }
