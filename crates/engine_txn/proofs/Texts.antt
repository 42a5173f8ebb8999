-- The calls for texts, and what texts are read as.
use Rattle.std.proofs.Common.{◌≡◌, inl, inr, ℕ, Bool, true, List, [], ◌∷◌, ◌++◌, Option, None, Some, Result, Ok, Err, refl, sym, ap, subst, ◌∙◌}
use Rattle.std.specs.Prelude.{IfErr, IfOk}
use Rattle.row_types.specs.Block.{Placed}
use Rattle.row_types.specs.Tables.{Tables}
use Rattle.row_types.specs.declared.definition.TableDef.{TableDef}
use Rattle.sql_parse.specs.declared.statement.Statement.{Statement}
use Rattle.sql_check.specs.Misfits.{misfit}
use Rattle.sql_check.specs.Plans.{plan_of, plan_unless, IsUnlessMemory}
use Rattle.sql_check.specs.declared.plan.Plan.{Plan}
use Rattle.sql_check.specs.declared.fault.CheckFault.{CheckFault}
use Rattle.sql_check.specs.declared.fault.CheckFault.TheVariants as faults
use Rattle.plain_model.specs.declared.reply.Reply.{Reply}
use Rattle.plain_model.specs.declared.reply.Refusal.{Refusal}
use Rattle.plain_model.specs.declared.reply.Refusal.TheVariants as refusals
use Rattle.plain_model.specs.declared.stop.Stop.{Stop}
use Rattle.plain_model.specs.Refusals.{refusal_of_check}
use Rattle.plain_model.specs.Blocks.{Answers, AnswersUnless, IsRefused, misplaced}
use Rattle.plain_model.specs.CallPlays.{tables_of}
use Rattle.plain_model.specs.Calls.{Call}
use Rattle.sql_exec.specs.Means.{IsOwnOrBy, LocksBy, lock_of, mode_of, Means}
use Rattle.sql_exec.specs.Sends.{Sends}
use Rattle.engine_txn.specs.declared.read.Read.TheVariants.{Allowed, Refused as NotRead}
use Rattle.engine_txn.specs.StatementRuns.{RunsPlan, RunsUnless, RunsStatement, RunsPlaced, RunsText, RunsTexts}
use Rattle.engine_txn.specs.Progress.{AnswersText, ReadAs, RunsOr}
use Rattle.engine_txn.specs.TextRuns.{Course, HasCause, IsOwnOrGiven, Replied, StopsSince, TextReplied, TextStopped, course_of, refused_as}
use Rattle.engine_txn.proofs.Causes.{not_read_cause}

-- ---- One statement

-- the plan that check gives is that of a statement that fits
pub plan_given : (o : Option CheckFault) (due plan : Plan) → IsUnlessMemory (Ok plan) (plan_unless o due) → (o ≡ None) × (plan ≡ due)
plan_given None due plan (inl is) = (refl, let same : plan ≡ due = cc in same)
plan_given None due plan (inr is) = absurd cc
plan_given (Some fault) due plan (inl is) = absurd cc
plan_given (Some fault) due plan (inr is) = absurd cc

-- the fault that check gives is the statement's, where it is a refusal
pub fault_given : (o : Option CheckFault) (due : Plan) (fault : CheckFault) (refusal : Refusal) → IsUnlessMemory (Err fault) (plan_unless o due) → refusal_of_check fault ≡ Some refusal → o ≡ Some fault
fault_given None due fault refusal (inl is) refuses = absurd cc
fault_given (Some other) due fault refusal (inl is) refuses = let same : fault ≡ other = cc in ap Some (sym same)
fault_given o due fault refusal (inr is) refuses =
    let same : fault ≡ faults.OutOfMemory = cc in
    let none : None ≡ Some refusal = sym (ap refusal_of_check same) ∙ refuses in
    absurd cc

pub runs_fitting : (defs : List TableDef) (statement : Statement) (plan : Plan) (old new : List Call) → (misfit defs statement ≡ None) × (plan ≡ plan_of defs statement)
    → LocksBy (lock_of plan) (mode_of plan) old new → Sends defs statement old new → RunsStatement defs statement old new
runs_fitting defs statement plan old new (fits, is) lock sent =
    let runs : RunsPlan defs statement old new = record { lock = subst (λ (p : Plan). LocksBy (lock_of p) (mode_of p) old new) is lock; sent = sent } in
    subst (λ (o : Option CheckFault). RunsUnless o defs statement old new) (sym fits) runs

pub runs_unfit : (defs : List TableDef) (statement : Statement) (fault : CheckFault) (old : List Call) → misfit defs statement ≡ Some fault → RunsStatement defs statement old old
runs_unfit defs statement fault old is = subst (λ (o : Option CheckFault). RunsUnless o defs statement old old) (sym is) refl

pub runs_or : (result : Result Reply Stop) (defs : List TableDef) (statement : Statement) (old new : List Call) → RunsStatement defs statement old new → RunsOr result defs statement old new
runs_or (Ok reply) defs statement old new runs = runs
runs_or (Err stop) defs statement old new runs = inr runs

-- ---- One text

pub allowed_runs : (is_inside : Bool) (defs : List TableDef) (statement : Statement) (old new : List Call) → misplaced is_inside statement ≡ None → RunsStatement defs statement old new → RunsText is_inside defs (Ok statement) old new
allowed_runs is_inside defs statement old new allowed runs = subst (λ (o : Option Refusal). RunsPlaced o defs statement old new) (sym allowed) runs

pub refused_runs : (is_inside : Bool) (defs : List TableDef) (read : Result Statement ℕ) (refusal : Refusal) (old : List Call) → refused_as is_inside read ≡ Some refusal → RunsText is_inside defs read old old
refused_runs is_inside defs (Err at) refusal old e = refl
refused_runs is_inside defs (Ok statement) refusal old e = subst (λ (o : Option Refusal). RunsPlaced o defs statement old old) (sym e) refl

pub refused_answers : (is_inside : Bool) (read : Result Statement ℕ) (refusal : Refusal) (old new : Tables) (reply : Reply) → refused_as is_inside read ≡ Some refusal → IsRefused refusal old reply new → Answers is_inside read old reply new
refused_answers is_inside (Err at) refusal old new reply e is =
    let same : refusals.Syntax at ≡ refusal = cc in
    subst (λ (r : Refusal). IsRefused r old reply new) (sym same) is
refused_answers is_inside (Ok statement) refusal old new reply e is = subst (λ (o : Option Refusal). AnswersUnless o statement old reply new) (sym e) is

pub allowed_answers : (is_inside : Bool) (statement : Statement) (old new : Tables) (reply : Reply) → misplaced is_inside statement ≡ None → AnswersUnless None statement old reply new → Answers is_inside (Ok statement) old reply new
allowed_answers is_inside statement old new reply allowed is = subst (λ (o : Option Refusal). AnswersUnless o statement old reply new) (sym allowed) is

pub text_refused : (defs : List TableDef) (text : Placed) (refusal : Refusal) (old : List Call) → ReadAs true text (NotRead refusal) → AnswersText defs text old (Ok (Reply.Refused refusal)) old
text_refused defs text refusal old (read, is, refused) = record {
  read = read;
  is_read = is;
  calls = refused_runs true defs read refusal old refused;
  means = λ first plays. refused_answers true read refusal _ _ _ refused (refl, refl);
  cause = not_read_cause old old true read refusal refused;
}

-- a statement that is allowed has a reply, or a stop ends it
pub text_replied : (is_inside : Bool) (defs : List TableDef) (text : Placed) (statement : Statement) (old : List Call) (reply : Reply) (new : List Call) → ReadAs is_inside text (Allowed statement) → RunsStatement defs statement old new → Means defs statement old (Ok reply) new → HasCause old new reply → TextReplied is_inside defs text old reply new
text_replied is_inside defs text statement old reply new (is, allowed) runs means cause = record {
  read = Ok statement;
  is_read = is;
  calls = allowed_runs is_inside defs statement old new allowed runs;
  means = λ first plays. allowed_answers is_inside statement (tables_of first old) (tables_of first new) reply allowed (means first plays);
  cause = cause;
}

pub text_stopped : (is_inside : Bool) (defs : List TableDef) (text : Placed) (statement : Statement) (old : List Call) (stop : Stop) (new : List Call) → ReadAs is_inside text (Allowed statement) → RunsOr (Err stop) defs statement old new → StopsSince old new stop → TextStopped is_inside defs text old stop new
text_stopped is_inside defs text statement old stop new read (inl early) ends = inl early
text_stopped is_inside defs text statement old stop new read (inr runs) ends = inr (statement, read, runs, ends.cause)

-- the last call of a text that a stop ended gave that, or memory ran out
given_by : (old new : List Call) (stop : Stop) → IsOwnOrGiven old new stop → IsOwnOrBy new stop
given_by old new stop (inl own) = inl own
given_by old new stop (inr gave) = inr (record { asked = gave.asked; before = gave.before; last = gave.last; running = gave.running })

pub stopped_by : (is_inside : Bool) (defs : List TableDef) (text : Placed) (old : List Call) (stop : Stop) (new : List Call) → TextStopped is_inside defs text old stop new → IsOwnOrBy new stop
stopped_by is_inside defs text old stop new (inl early) = inl early.0
stopped_by is_inside defs text old stop new (inr (statement, read, runs, cause)) = given_by old new stop cause

pub text_allowed : (defs : List TableDef) (text : Placed) (statement : Statement) (old : List Call) (result : Result Reply Stop) (new : List Call) → ReadAs true text (Allowed statement) → RunsOr result defs statement old new → Means defs statement old result new → IfOk result (HasCause old new) → IfErr result (StopsSince old new) → AnswersText defs text old result new
text_allowed defs text statement old (Ok reply) new read runs means cause ends = text_replied true defs text statement old reply new read runs means cause
text_allowed defs text statement old (Err stop) new read runs means cause ends = text_stopped true defs text statement old stop new read runs ends

-- ---- Texts

-- one may be given up before any text
pub texts_none : (is_inside : Bool) (defs : List TableDef) (texts : List Placed) (now : List Call) → RunsTexts is_inside defs texts now now
texts_none is_inside defs [] now = refl
texts_none is_inside defs (text ∷ texts) now = inl refl

-- the calls for a text, and no more
pub texts_one : (is_inside : Bool) (defs : List TableDef) (text : Placed) (texts : List Placed) (statement : Statement) (old new : List Call) → ReadAs is_inside text (Allowed statement) → RunsStatement defs statement old new → RunsTexts is_inside defs (text ∷ texts) old new
texts_one is_inside defs text texts statement old new (is, allowed) runs =
    inr (Ok statement, is, (new, allowed_runs is_inside defs statement old new allowed runs, texts_none is_inside defs texts new))

pub texts_early : (is_inside : Bool) (defs : List TableDef) (texts : List Placed) (old new : List Call) → new ≡ old → RunsTexts is_inside defs texts old new
texts_early is_inside defs texts old new same = subst (RunsTexts is_inside defs texts old) (sym same) (texts_none is_inside defs texts old)

-- one reply more
pub course_more : (replies : List Reply) (reply : Reply) (course : Course) → course_of (replies ++ reply ∷ []) course ≡ course_of replies (Replied reply course)
course_more [] reply course = refl
course_more (first ∷ replies) reply course = ap (Replied first) (course_more replies reply course)
