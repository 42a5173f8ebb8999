-- What a try of a block comes to.
use Rattle.std.proofs.Common.{◌≡◌, ◌⊎◌, inl, inr, ℕ, Bool, true, false, not, List, [], ◌∷◌, Option, Some, Result, Ok, Err, refl, sym, ap, subst, ◌∙◌}
use Rattle.std.specs.Prelude.{unwrap_or, IsTrue}
use Rattle.std.specs.List.{AllByRecursion}
use Rattle.row_types.specs.Block.{Placed}
use Rattle.row_types.specs.Tables.{Tables}
use Rattle.row_types.specs.declared.block.Block.{Block}
use Rattle.row_types.specs.declared.block.Block.TheVariants.{Alone, Transaction as Behind}
use Rattle.row_types.specs.declared.block.Transaction.{Transaction}
use Rattle.row_types.specs.declared.definition.TableDef.{TableDef}
use Rattle.sql_parse.specs.declared.statement.Statement.{Statement}
use Rattle.plain_model.specs.declared.reply.Reply.{Reply}
use Rattle.plain_model.specs.declared.reply.Reply.TheVariants as replies
use Rattle.plain_model.specs.declared.reply.Refusal.{Refusal}
use Rattle.plain_model.specs.declared.reply.Refusal.TheVariants as refusals
use Rattle.plain_model.specs.declared.stop.Stop.{Stop}
use Rattle.plain_model.specs.declared.stop.Stop.TheVariants as stops
use Rattle.plain_model.specs.declared.stop.Resource.TheVariants.{Pages, Nodes, Txn, Locks, LogFull, Busy}
use Rattle.plain_model.specs.Blocks.{IsNotBegun, block_means, without_block}
use Rattle.plain_model.specs.Calls.{AskBegin, AskUndo, Call, Began, Undone, Stopped, is_running}
use Rattle.plain_model.specs.Runs.{EndsBy, is_begin}
use Rattle.sql_exec.specs.Means.{IsOwnOrBy}
use Rattle.engine_txn.specs.declared.begun.Begun.TheVariants.{Running}
use Rattle.engine_txn.specs.declared.read.Read.TheVariants.{Allowed, Refused as NotRead}
use Rattle.engine_txn.specs.declared.tried.Tried.{Tried}
use Rattle.engine_txn.specs.declared.tried.Tried.TheVariants as tries
use Rattle.engine_txn.specs.Transactions.{AllSince, here, then, CommitsLast, Continues, Grown, HasBegun, IsGivenUp, IsOneTry, Uncommitted, is_commit}
use Rattle.engine_txn.specs.Steps.{Begins, Fails, FailsAs, GivesUp, RefusesBegin, RunsBehind, Says}
use Rattle.engine_txn.specs.BlockRuns.{MayBegin, TryGoes, replies_refused}
use Rattle.engine_txn.specs.BlockSaid.{ReplyWasGiven, left_by}
use Rattle.engine_txn.specs.StatementRuns.{RunsBlock, has_begin, is_row_work, texts_of}
use Rattle.engine_txn.specs.Progress.{Answered, Broken, Ran, ReadAs, is_end}
use Rattle.engine_txn.specs.Tries.{Tries}
use Rattle.engine_txn.proofs.CallLists.{end_continues, end_is_no_work, grown, same_age, since_past, since_trans, works_continue}
use Rattle.engine_txn.proofs.Causes.{all_given_on, not_read_cause, reply_given}
use Rattle.engine_txn.proofs.Endings.{all_no_block}
use Rattle.engine_txn.proofs.Texts.{refused_answers, texts_none}

given_up_ends : (old new : List Call) → IsGivenUp old new → AllSince is_end old new
given_up_ends old new (inl is) = subst (AllSince is_end old) (sym is) (then Undone old refl here)
given_up_ends old new (inr (limit, is)) = subst (AllSince is_end old) (sym is) (then (Stopped AskUndo (stops.Spent limit)) old refl here)

given_up_kept : (old new : List Call) → IsGivenUp old new → Uncommitted old new
given_up_kept old new (inl is) = subst (Uncommitted old) (sym is) (then Undone old refl here)
given_up_kept old new (inr (limit, is)) = subst (Uncommitted old) (sym is) (then (Stopped AskUndo (stops.Spent limit)) old refl here)

given_up_stops : (old new : List Call) → IsGivenUp old new → is_running new ≡ false
given_up_stops old new (inl is) = ap is_running is
given_up_stops old new (inr (limit, is)) = ap is_running is

pub died_by : (holder : ℕ) (now : List Call) → IsOwnOrBy now (stops.Die holder) → EndsBy now (stops.Die holder)
died_by holder now (inl own) = absurd cc
died_by holder now (inr ends) = ends

fault_by : (file : _) (now : List Call) → IsOwnOrBy now (stops.Fault file) → EndsBy now (stops.Fault file)
fault_by file now (inl own) = absurd cc
fault_by file now (inr ends) = ends

-- a transaction in the way runs on behind the stop that it gave
pub runs_behind_stop : (stop : Stop) (now : List Call) → IsOwnOrBy now stop → RunsBehind stop now
runs_behind_stop (stops.Die holder) now cause =
    let ends = died_by holder now cause in
    subst (λ (calls : List Call). IsTrue (is_running calls)) (sym ends.last) ends.running
runs_behind_stop (stops.Fault file) now cause = tt
runs_behind_stop (stops.Spent limit) now cause = tt
runs_behind_stop (stops.Refused resource) now cause = tt
runs_behind_stop stops.OutOfMemory now cause = tt

-- ---- A transaction was begun

module _ (defs : List TableDef) (block : Block) (begins : MayBegin block) (age : Option ℕ) (number : ℕ) (old : List Call) where
  abbrev begun : List Call
  begun = Began age number ∷ old

  has : HasBegun begun
  has = (age, number, old, refl)

  old_begun : Grown old begun
  old_begun = then (Began age number) old refl here

  ran_continues : (new : List Call) → Ran defs block begun new → Continues begun new
  ran_continues new ran = since_trans (λ call. not (is_begin call)) begun ran.mid new (works_continue begun ran.mid ran.works) (end_continues ran.mid new ran.ends)

  ran_grown : (new : List Call) → Ran defs block begun new → Grown begun new
  ran_grown new ran = grown (λ call. not (is_begin call)) begun new (ran_continues new ran)

  one_try : (new : List Call) → Ran defs block begun new → IsOneTry age old new
  one_try new ran = inr (number, ran_continues new ran)

  runs_block : (new : List Call) → Ran defs block begun new → RunsBlock defs block old new
  runs_block new ran = record {
    begun = begun;
    ended = ran.mid;
    begins = then (Began age number) old refl here;
    texts = ran.texts;
    ends = end_is_no_work ran.mid new ran.ends;
  }

  ran_on : (mid new : List Call) → Ran defs block begun mid → AllSince is_end mid new → Ran defs block begun new
  ran_on mid new ran more = record { mid = ran.mid; works = ran.works; texts = ran.texts; ends = since_trans is_end ran.mid mid new ran.ends more }

  kept_on : (mid new : List Call) → Uncommitted begun mid → Uncommitted mid new → Uncommitted old new
  kept_on mid new kept more =
      let test = λ (call : Call). not (is_commit call) in
      since_trans test old begun new (then (Began age number) old refl here) (since_trans test begun mid new kept more)

  commits_on : (new : List Call) → CommitsLast begun new → CommitsLast old new
  commits_on new (inl kept) = inl (kept_on new new kept here)
  commits_on new (inr (before, is, kept)) = inr (before, is, kept_on before before kept here)

  -- it was answered
  pub tried_said : (tried : Tried) (list : List Reply) (new : List Call) → Says tried list → Answered defs block begun list new → Tries defs age block old tried new
  tried_said tries.Stopped list new is answered = absurd is
  tried_said tries.OutOfMemory list new is answered = absurd is
  tried_said (tries.Died holder own) list new is answered = absurd is
  tried_said (tries.Said said) list new is answered = record {
    goes = inr (inr (inl (record { begins = begins; number = number; replies = list; says = is; runs = answered.goes })));
    began = one_try new answered.ran;
    commits = commits_on new answered.commits;
    said = inr (record {
      calls = (number, ran_continues new answered.ran);
      means = λ first plays. subst (λ (l : List Reply). block_means block first l (left_by first new)) (sym is) (answered.means first plays);
    });
    causes = subst (λ (l : List Reply). AllByRecursion (ReplyWasGiven old new) l) (sym is) (all_given_on old begun new new old_begun here list answered.causes);
    calls = runs_block new answered.ran;
    stopped = tt;
    died = tt;
    ended = answered.ended;
    kept = tt;
  }

  -- it was given up
  goes_up : (tried : Tried) (own : ℕ) (stop : Stop) (mid new : List Call) → own ≡ unwrap_or age number → Broken defs block begun stop mid → GivesUp own mid stop tried new → TryGoes defs age block old tried new
  goes_up tried own stop mid new own_is broken gave = inr (inr (inr (record {
    begins = begins;
    number = number;
    stop = stop;
    last = mid;
    broke = broken.broke;
    gives = subst (λ (n : ℕ). GivesUp n mid stop tried new) own_is gave;
  })))

  pub tried_given_up : (tried : Tried) (own : ℕ) (stop : Stop) (mid new : List Call) → own ≡ unwrap_or age number → Broken defs block begun stop mid → GivesUp own mid stop tried new → Tries defs age block old tried new
  tried_given_up (tries.Said said) own stop mid new own_is broken gave = absurd gave
  tried_given_up (tries.Died holder again) own stop mid new own_is broken (stop_is, again_is, undone) =
      let ran = ran_on mid new broken.ran (given_up_ends mid new undone) in
      let ends = died_by holder mid (subst (IsOwnOrBy mid) stop_is broken.cause) in
      let goes = since_past (λ call. not (is_begin call)) (Stopped ends.asked (stops.Die holder)) begun ends.before mid has refl ends.last (ran_continues mid broken.ran) in
      record {
        goes = goes_up (tries.Died holder again) own stop mid new own_is broken (stop_is, again_is, undone);
        began = one_try new ran;
        commits = inl (kept_on mid new broken.kept (given_up_kept mid new undone));
        said = tt;
        causes = tt;
        calls = runs_block new ran;
        stopped = tt;
        died = record {
          asked = ends.asked;
          before = ends.before;
          since = since_trans (λ call. true) old begun ends.before old_begun (grown (λ call. not (is_begin call)) begun ends.before goes);
          undone = subst (λ (calls : List Call). IsGivenUp calls new) ends.last undone;
          age_is = same_age begun ends.before goes ∙ ap Some (sym (again_is ∙ own_is));
        };
        ended = given_up_stops mid new undone;
        kept = kept_on mid new broken.kept (given_up_kept mid new undone);
      }
  tried_given_up tries.Stopped own stop mid new own_is broken (file, inl (stop_is, same)) =
      let ends = fault_by file mid (subst (IsOwnOrBy mid) stop_is broken.cause) in
      let past = since_past (λ call. true) (Stopped ends.asked (stops.Fault file)) begun ends.before mid has refl ends.last (ran_grown mid broken.ran) in
      let ran = ran_on mid new broken.ran (subst (AllSince is_end mid) (sym same) here) in
      record {
        goes = goes_up tries.Stopped own stop mid new own_is broken (file, inl (stop_is, same));
        began = one_try new ran;
        commits = inl (kept_on mid new broken.kept (subst (Uncommitted mid) (sym same) here));
        said = tt;
        causes = tt;
        calls = runs_block new ran;
        stopped = record {
          asked = ends.asked;
          file = file;
          before = ends.before;
          last = same ∙ ends.last;
          since = since_trans (λ call. true) old begun ends.before old_begun past;
        };
        died = tt;
        ended = tt;
        kept = tt;
      }
  tried_given_up tries.Stopped own stop mid new own_is broken (file, inr (behind, is)) =
      let ran = ran_on mid new broken.ran (subst (AllSince is_end mid) (sym is) (then (Stopped AskUndo (stops.Fault file)) mid refl here)) in
      record {
        goes = goes_up tries.Stopped own stop mid new own_is broken (file, inr (behind, is));
        began = one_try new ran;
        commits = inl (kept_on mid new broken.kept (subst (Uncommitted mid) (sym is) (then (Stopped AskUndo (stops.Fault file)) mid refl here)));
        said = tt;
        causes = tt;
        calls = runs_block new ran;
        stopped = record {
          asked = AskUndo;
          file = file;
          before = mid;
          last = is;
          since = since_trans (λ call. true) old begun mid old_begun (ran_grown mid broken.ran);
        };
        died = tt;
        ended = tt;
        kept = tt;
      }
  tried_given_up tries.OutOfMemory own stop mid new own_is broken (inl (stop_is, inl (idle, same))) =
      let ran = ran_on mid new broken.ran (subst (AllSince is_end mid) (sym same) here) in
      record {
        goes = goes_up tries.OutOfMemory own stop mid new own_is broken (inl (stop_is, inl (idle, same)));
        began = one_try new ran;
        commits = inl (kept_on mid new broken.kept (subst (Uncommitted mid) (sym same) here));
        said = tt;
        causes = tt;
        calls = runs_block new ran;
        stopped = tt;
        died = tt;
        ended = inl (ap is_running same ∙ idle);
        kept = kept_on mid new broken.kept (subst (Uncommitted mid) (sym same) here);
      }
  tried_given_up tries.OutOfMemory own stop mid new own_is broken (inl (stop_is, inr undone)) =
      let ran = ran_on mid new broken.ran (given_up_ends mid new undone) in
      record {
        goes = goes_up tries.OutOfMemory own stop mid new own_is broken (inl (stop_is, inr undone));
        began = one_try new ran;
        commits = inl (kept_on mid new broken.kept (given_up_kept mid new undone));
        said = tt;
        causes = tt;
        calls = runs_block new ran;
        stopped = tt;
        died = tt;
        ended = inl (given_up_stops mid new undone);
        kept = kept_on mid new broken.kept (given_up_kept mid new undone);
      }
  tried_given_up tries.OutOfMemory own stop mid new own_is broken (inr (behind, is)) =
      let ran = ran_on mid new broken.ran (subst (AllSince is_end mid) (sym is) (then (Stopped AskUndo stops.OutOfMemory) mid refl here)) in
      record {
        goes = goes_up tries.OutOfMemory own stop mid new own_is broken (inr (behind, is));
        began = one_try new ran;
        commits = inl (kept_on mid new broken.kept (subst (Uncommitted mid) (sym is) (then (Stopped AskUndo stops.OutOfMemory) mid refl here)));
        said = tt;
        causes = tt;
        calls = runs_block new ran;
        stopped = tt;
        died = tt;
        ended = inr (mid, is);
        kept = kept_on mid new broken.kept (subst (Uncommitted mid) (sym is) (then (Stopped AskUndo stops.OutOfMemory) mid refl here));
      }

-- the same, by what the begin answered
module _ (defs : List TableDef) (block : Block) (may : MayBegin block) (age : Option ℕ) (own : ℕ) (old begun : List Call) (begins : Begins age old (Ok (Running own)) begun) where
  pub begun_said : (tried : Tried) (list : List Reply) (new : List Call) → Says tried list → Answered defs block begun list new → Tries defs age block old tried new
  begun_said tried list new says answered =
      tried_said defs block may age begins.0 old tried list new says (subst (λ (calls : List Call). Answered defs block calls list new) begins.1 answered)

  pub begun_given_up : (tried : Tried) (stop : Stop) (mid new : List Call) → Broken defs block begun stop mid → GivesUp own mid stop tried new → Tries defs age block old tried new
  begun_given_up tried stop mid new broken gave =
      tried_given_up defs block may age begins.0 old tried own stop mid new begins.2 (subst (λ (calls : List Call). Broken defs block calls stop mid) begins.1 broken) gave

-- ---- No transaction was begun

-- what is called for a begin that isn't answered
abbrev pub unanswered : Option ℕ → Stop → List Call → List Call
unanswered age stop old = Stopped (AskBegin age) stop ∷ old

refused_begin : (stop : Stop) (refusal : Refusal) → RefusesBegin stop refusal → IsNotBegun (replies.Refused refusal)
refused_begin (stops.Spent limit) refusal is = inl (limit, ap replies.Refused is)
refused_begin (stops.Refused (LogFull bytes limit)) refusal is = inr (bytes, limit, ap replies.Refused is)
refused_begin (stops.Refused (Pages used limit)) refusal is = absurd is
refused_begin (stops.Refused (Nodes used limit)) refusal is = absurd is
refused_begin (stops.Refused (Txn used limit)) refusal is = absurd is
refused_begin (stops.Refused (Locks held limit)) refusal is = absurd is
refused_begin (stops.Refused (Busy oldest)) refusal is = absurd is
refused_begin (stops.Die holder) refusal is = absurd is
refused_begin (stops.Fault file) refusal is = absurd is
refused_begin stops.OutOfMemory refusal is = absurd is

refused_given : (age : Option ℕ) (stop : Stop) (refusal : Refusal) (old : List Call) → RefusesBegin stop refusal → ReplyWasGiven old (unanswered age stop old) (replies.Refused refusal)
refused_given age (stops.Spent limit) refusal old is =
    subst (λ (r : Refusal). ReplyWasGiven old (unanswered age (stops.Spent limit) old) (replies.Refused r)) (sym is) (record { asked = AskBegin age; before = old; since = here; more = here; placed = inl (age, refl) })
refused_given age (stops.Refused (LogFull bytes limit)) refusal old is =
    subst (λ (r : Refusal). ReplyWasGiven old (unanswered age (stops.Refused (LogFull bytes limit)) old) (replies.Refused r)) (sym is) (record { asked = AskBegin age; before = old; since = here; more = here; placed = inl (age, refl) })
refused_given age (stops.Refused (Pages used limit)) refusal old is = absurd is
refused_given age (stops.Refused (Nodes used limit)) refusal old is = absurd is
refused_given age (stops.Refused (Txn used limit)) refusal old is = absurd is
refused_given age (stops.Refused (Locks held limit)) refusal old is = absurd is
refused_given age (stops.Refused (Busy oldest)) refusal old is = absurd is
refused_given age (stops.Die holder) refusal old is = absurd is
refused_given age (stops.Fault file) refusal old is = absurd is
refused_given age stops.OutOfMemory refusal old is = absurd is

refused_stops : (age : Option ℕ) (stop : Stop) (refusal : Refusal) (old : List Call) → RefusesBegin stop refusal → is_running old ≡ false → is_running (unanswered age stop old) ≡ false
refused_stops age (stops.Spent limit) refusal old is idle = refl
refused_stops age (stops.Refused resource) refusal old is idle = idle
refused_stops age (stops.Die holder) refusal old is idle = idle
refused_stops age (stops.Fault file) refusal old is idle = idle
refused_stops age stops.OutOfMemory refusal old is idle = idle

module _ (defs : List TableDef) (age : Option ℕ) (block : Block) (old : List Call) where
  nothing_runs : (new : List Call) → AllSince (λ call. not (is_row_work call)) old new → RunsBlock defs block old new
  nothing_runs new no_work = record { begun = new; ended = new; begins = no_work; texts = texts_none (has_begin block) defs (texts_of block) new; ends = here }

  nothing_commits : (new : List Call) → (new ≡ old) ⊎ ((stop : Stop) × (new ≡ unanswered age stop old)) → CommitsLast old new
  nothing_commits new (inl same) = inl (subst (Uncommitted old) (sym same) here)
  nothing_commits new (inr (stop, is)) = inl (subst (Uncommitted old) (sym is) (then (Stopped (AskBegin age) stop) old refl here))

  -- the replies are the block's on any tables
  without : (tried : Tried) (list : List Reply) (new : List Call) → TryGoes defs age block old tried new → Says tried list → (new ≡ old) ⊎ ((stop : Stop) × (new ≡ unanswered age stop old)) → AllSince (λ call. not (is_row_work call)) old new
      → ((first : Tables) → block_means block first list first) → AllByRecursion (ReplyWasGiven old new) list → is_running new ≡ false → Tries defs age block old tried new
  without tries.Stopped list new goes is none no_work means given idle = absurd is
  without tries.OutOfMemory list new goes is none no_work means given idle = absurd is
  without (tries.Died holder own) list new goes is none no_work means given idle = absurd is
  without (tries.Said said) list new goes is none no_work means given idle = record {
    goes = goes;
    began = inl none;
    commits = nothing_commits new none;
    said = inl (record { calls = none; means = λ first. subst (λ (l : List Reply). block_means block first l first) (sym is) (means first) });
    causes = subst (λ (l : List Reply). AllByRecursion (ReplyWasGiven old new) l) (sym is) given;
    calls = nothing_runs new no_work;
    stopped = tt;
    died = tt;
    ended = idle;
    kept = tt;
  }

  -- the begin was refused
  pub not_begun : (tried : Tried) (refusal : Refusal) (more : List Reply) (stop : Stop) (new : List Call) → MayBegin block → replies_refused block refusal ≡ replies.Refused refusal ∷ more → Says tried (replies.Refused refusal ∷ more) → RefusesBegin stop refusal → new ≡ unanswered age stop old → is_running old ≡ false
      → ((first : Tables) → IsNotBegun (replies.Refused refusal) → block_means block first (replies.Refused refusal ∷ more) first) → AllByRecursion (ReplyWasGiven old (unanswered age stop old)) more → Tries defs age block old tried new
  not_begun tried refusal more stop new may all says refuses is idle means given =
      let tells = inl (refusal, refuses, subst (Says tried) (sym all) says) in
      let goes : TryGoes defs age block old tried (unanswered age stop old) = inr (inl (record { begins = may; stop = stop; calls = refl; tells = tells })) in
      subst (Tries defs age block old tried) (sym is)
      (without tried (replies.Refused refusal ∷ more) (unanswered age stop old) goes says (inr (stop, refl)) (then (Stopped (AskBegin age) stop) old refl here) (λ first. means first (refused_begin stop refusal refuses))
      (refused_given age stop refusal old refuses, given) (refused_stops age stop refusal old refuses idle))

  -- memory ran out before anything was called
  pub no_memory : is_running old ≡ false → Tries defs age block old tries.OutOfMemory old
  no_memory idle = record {
    goes = inl (record { calls = refl; why = inl refl });
    began = inl (inl refl);
    commits = inl here;
    said = tt;
    causes = tt;
    calls = nothing_runs old here;
    stopped = tt;
    died = tt;
    ended = inl idle;
    kept = here;
  }

  -- the begin failed
  begin_fails : (stop : Stop) (tried : Tried) → MayBegin block → Fails stop → FailsAs stop tried → is_running old ≡ false → Tries defs age block old tried (unanswered age stop old)
  begin_fails (stops.Fault file) tried may fails is idle = subst (λ (x : Tried). Tries defs age block old x (unanswered age (stops.Fault file) old)) (sym is) (record {
    goes = inr (inl (record { begins = may; stop = stops.Fault file; calls = refl; tells = inr (tt, refl) }));
    began = inl (inr (stops.Fault file, refl));
    commits = inl (then (Stopped (AskBegin age) (stops.Fault file)) old refl here);
    said = tt;
    causes = tt;
    calls = nothing_runs (unanswered age (stops.Fault file) old) (then (Stopped (AskBegin age) (stops.Fault file)) old refl here);
    stopped = record { asked = AskBegin age; file = file; before = old; last = refl; since = here };
    died = tt;
    ended = tt;
    kept = tt;
  })
  begin_fails stops.OutOfMemory tried may fails is idle = subst (λ (x : Tried). Tries defs age block old x (unanswered age stops.OutOfMemory old)) (sym is) (record {
    goes = inr (inl (record { begins = may; stop = stops.OutOfMemory; calls = refl; tells = inr (tt, refl) }));
    began = inl (inr (stops.OutOfMemory, refl));
    commits = inl (then (Stopped (AskBegin age) stops.OutOfMemory) old refl here);
    said = tt;
    causes = tt;
    calls = nothing_runs (unanswered age stops.OutOfMemory old) (then (Stopped (AskBegin age) stops.OutOfMemory) old refl here);
    stopped = tt;
    died = tt;
    ended = inl idle;
    kept = then (Stopped (AskBegin age) stops.OutOfMemory) old refl here;
  })
  begin_fails (stops.Die holder) tried may fails is idle = absurd fails
  begin_fails (stops.Spent limit) tried may fails is idle = absurd fails
  begin_fails (stops.Refused resource) tried may fails is idle = absurd fails

  pub begin_failed : (stop : Stop) (tried : Tried) (new : List Call) → MayBegin block → Fails stop → FailsAs stop tried → is_running old ≡ false → new ≡ unanswered age stop old → Tries defs age block old tried new
  begin_failed stop tried new may fails is idle new_is = subst (Tries defs age block old tried) (sym new_is) (begin_fails stop tried may fails is idle)

-- a text that stands alone is refused where it stands
pub not_read : (defs : List TableDef) (age : Option ℕ) (text : Placed) (old : List Call) (tried : Tried) (refusal : Refusal) → Says tried (replies.Refused refusal ∷ []) → ReadAs false text (NotRead refusal) → is_running old ≡ false → Tries defs age (Alone text) old tried old
not_read defs age text old tried refusal says (read, is, refused) idle =
    without defs age (Alone text) old tried (replies.Refused refusal ∷ []) old (inl (record { calls = refl; why = inr (read, refusal, is, refused, says) })) says (inl refl) here
    (λ first. (read, is, (replies.Refused refusal, refl, inl (refused_answers false read refusal first first (replies.Refused refusal) refused (refl, refl)))))
    (reply_given old old (replies.Refused refusal) (not_read_cause old old false read refusal refused), tt) idle

-- the transaction of a statement that stands alone isn't begun
pub alone_not_begun : (defs : List TableDef) (age : Option ℕ) (text : Placed) (old : List Call) (tried : Tried) (statement : Statement) (refusal : Refusal) (stop : Stop) (new : List Call) → Says tried (replies.Refused refusal ∷ []) → ReadAs false text (Allowed statement)
    → RefusesBegin stop refusal → new ≡ unanswered age stop old → is_running old ≡ false → Tries defs age (Alone text) old tried new
alone_not_begun defs age text old tried statement refusal stop new says (is, allowed) refuses new_is idle =
    not_begun defs age (Alone text) old tried refusal [] stop new (statement, (is, allowed)) refl says refuses new_is idle (λ first none. (Ok statement, is, (replies.Refused refusal, refl, inr (allowed, none, refl)))) tt

-- BEGIN is refused, and NO BLOCK follows
pub behind_not_begun : (defs : List TableDef) (age : Option ℕ) (t : Transaction) (old : List Call) (tried : Tried) (refusal : Refusal) (stop : Stop) (new : List Call) → Says tried (replies.Refused refusal ∷ without_block t.statements t.end)
    → RefusesBegin stop refusal → new ≡ unanswered age stop old → is_running old ≡ false → Tries defs age (Behind t) old tried new
behind_not_begun defs age t old tried refusal stop new says refuses new_is idle =
    not_begun defs age (Behind t) old tried refusal (without_block t.statements t.end) stop new tt refl says refuses new_is idle (λ first none. inr (none, refl, refl))
    (all_no_block (ReplyWasGiven old (unanswered age stop old)) t.statements t.end tt)
