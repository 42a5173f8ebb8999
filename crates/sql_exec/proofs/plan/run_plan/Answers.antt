use Rattle.std.proofs.Common.{◌≡◌, ◌∙◌, ◌∷◌, ℕ, List, Some, None, refl, sym, ap, subst}
use Rattle.row_types.specs.declared.definition.TableDef.{TableDef}
use Rattle.row_types.specs.Tables.{Tables}
use Rattle.sql_check.specs.declared.plan.Plan.{Plan}
use Rattle.sql_check.specs.Columns.{def_at}
use Rattle.sql_check.specs.Plans.{number_of, plan_of}
use Rattle.plain_model.specs.declared.reply.Reply.TheVariants as replies
use Rattle.plain_model.specs.declared.reply.Refusal.TheVariants as refusals
use Rattle.plain_model.specs.declared.stop.Resource.{Resource}
use Rattle.plain_model.specs.declared.stop.Stop.{Stop}
use Rattle.plain_model.specs.Blocks.{AnswersUnless}
use Rattle.plain_model.specs.Calls.{AskLock, Call, Locked, MayGive, Stopped}
use Rattle.plain_model.specs.CallPlays.{tables_of}
use Rattle.plain_model.specs.Runs.{Since, keys_taken, rows_put}
use Rattle.sql_exec.specs.Bodies.{PlanEnds, RepliesWithoutKeys}
use Rattle.sql_exec.specs.Fits.{FitsTables}
use Rattle.sql_exec.specs.Means.{lock_of}
use Rattle.sql_exec.specs.Plays.{OnTable, PlaysFrom}
use Rattle.sql_exec.specs.Sends.{PlanSends}
use Rattle.sql_exec.proofs.Keyless.{is_own}
use Rattle.sql_exec.proofs.Planning.{answers_without, behind_lock, behind_stop, if_ok, lock_about, lock_lacks, lock_table, locked_sent, plan_ok, plan_answers, quiet_sent}
use Rattle.sql_exec.proofs.Playing.{plays_since}
use Rattle.sql_exec.proofs.plan.run_plan.Goals as goal

pub returns-in_default-clause-means : goal.returns-in_default-clause-means
returns-in_default-clause-means g c = λ statement of first plays.
    let defs = g.R.RowCalls.defs c.args.rows.now in
    let start = g.R.RowCalls.calls c.args.rows.now in
    let plan = c.args.plan.now in
    let fits = subst (FitsTables defs) of.plan_is (c.plans_fit.ensures defs statement plan of) in
    let none : lock_of (plan_of defs statement) ≡ None = ap lock_of (sym of.plan_is) ∙ sym c.lock_of.ensures ∙ c.in_default.is in
    if_ok (RepliesWithoutKeys plan) (λ reply. AnswersUnless None statement (tables_of first start) reply (tables_of first start)) c.without_keys.result
    (λ reply is. answers_without defs statement of.fits first start plays reply fits none (subst (λ (p : Plan). RepliesWithoutKeys p reply) of.plan_is is)) c.without_keys.ensures.reply

pub lock-requires-clause-table : goal.lock-requires-clause-table
lock-requires-clause-table g c =
    let defs = g.R.RowCalls.defs c.args.rows.now in
    let plan = c.args.plan.now in
    (lock_about defs plan c.in-Some.name (c.plans_fit.ensures defs c.requires.plan.0 plan c.requires.plan.1) (sym c.lock_of.ensures ∙ c.in-Some.is)).0

pub lock-requires-clause-range : goal.lock-requires-clause-range
lock-requires-clause-range g c =
    let defs = g.R.RowCalls.defs c.args.rows.now in
    let plan = c.args.plan.now in
    (lock_about defs plan c.in-Some.name (c.plans_fit.ensures defs c.requires.plan.0 plan c.requires.plan.1) (sym c.lock_of.ensures ∙ c.in-Some.is)).1

pub run_locked-requires-clause-plan : goal.run_locked-requires-clause-plan
run_locked-requires-clause-plan g c =
    let defs = g.R.RowCalls.defs c.args.rows.now in
    let plan = c.args.plan.now in
    subst (λ (ds : List TableDef). FitsTables ds plan) (sym c.in-Ok.ensures.schema) (c.plans_fit.ensures defs c.requires.plan.0 plan c.requires.plan.1)

pub returns-in-Ok-clause-means : goal.returns-in-Ok-clause-means
returns-in-Ok-clause-means g c = λ statement of first plays.
    let calls = g.R.RowCalls.calls in
    let defs = g.R.RowCalls.defs c.args.rows.now in
    let start = calls c.args.rows.now in
    let mid = calls c.lock.new.self in
    let new = calls c.run_locked.new.rows in
    let name = c.in-Some.name in
    let result = c.run_locked.result in
    let n = number_of defs statement in
    let plan = plan_of defs statement in
    let told : mid ≡ Locked name c.mode_of.result ∷ start = c.in-Ok.ensures.told in
    let since : Since (Locked name c.mode_of.result ∷ start) new = subst (λ (m : List Call). Since m new) told c.run_locked.ensures.since in
    let was = behind_lock defs first name c.mode_of.result start (plays_since defs first (Locked name c.mode_of.result ∷ start) new since plays) in
    let is : name.table ≡ n = lock_table defs statement of.fits first start was name (ap lock_of (sym of.plan_is) ∙ sym c.lock_of.ensures ∙ c.in-Some.is) in
    let ends =
    subst (λ (p : Plan). OnTable defs n (PlanEnds (def_at defs n) p result) (Locked name c.mode_of.result ∷ start) new) of.plan_is
    (subst (λ (k : ℕ). OnTable defs k (PlanEnds (def_at defs k) c.args.plan.now result) (Locked name c.mode_of.result ∷ start) new) is
    (subst (λ (ds : List TableDef). OnTable ds name.table (PlanEnds (def_at ds name.table) c.args.plan.now result) (Locked name c.mode_of.result ∷ start) new) c.in-Ok.ensures.schema
    (subst (λ (m : List Call). OnTable (g.R.RowCalls.defs c.lock.new.self) name.table (PlanEnds (def_at (g.R.RowCalls.defs c.lock.new.self) name.table) c.args.plan.now result) m new) told c.run_locked.ensures.plain))) in
    plan_ok n (def_at defs n) plan (tables_of first start) (tables_of first new) result (λ reply. AnswersUnless None statement (tables_of first start) reply (tables_of first new))
    (λ reply turns. plan_answers defs statement of.fits first start was reply (tables_of first new) turns) (ends first plays)

pub returns-in_default-clause-sent : goal.returns-in_default-clause-sent
returns-in_default-clause-sent g c = λ statement of. quiet_sent (g.R.RowCalls.defs c.args.rows.now) statement (g.R.RowCalls.calls c.args.rows.now) (g.R.RowCalls.calls c.args.rows.now) (record { put = refl; taken = refl })

pub returns-in-Ok-clause-sent : goal.returns-in-Ok-clause-sent
returns-in-Ok-clause-sent g c = λ statement of.
    let calls = g.R.RowCalls.calls in
    let defs = g.R.RowCalls.defs c.args.rows.now in
    let start = calls c.args.rows.now in
    let new = calls c.run_locked.new.rows in
    let name = c.in-Some.name in
    let mode = c.mode_of.result in
    let told = c.in-Ok.ensures.told in
    let since : Since (Locked name mode ∷ start) new = subst (λ (m : List Call). Since m new) told c.run_locked.ensures.since in
    let named = ap lock_of (sym of.plan_is) ∙ sym c.lock_of.ensures ∙ c.in-Some.is in
    locked_sent defs statement of.fits name mode start new since named
    (subst (λ (p : Plan). PlanSends defs name.table p (Locked name mode ∷ start) new) of.plan_is
    (subst (λ (ds : List TableDef). PlanSends ds name.table c.args.plan.now (Locked name mode ∷ start) new) c.in-Ok.ensures.schema
    (subst (λ (m : List Call). PlanSends (g.R.RowCalls.defs c.lock.new.self) name.table c.args.plan.now m new) told c.run_locked.ensures.sent)))

pub returns-in-Err-Refused-clause-sent : goal.returns-in-Err-Refused-clause-sent
returns-in-Err-Refused-clause-sent g c = λ statement of. quiet_sent (g.R.RowCalls.defs c.args.rows.now) statement (g.R.RowCalls.calls c.args.rows.now) (g.R.RowCalls.calls c.lock.new.self)
    (let told = c.in-Err-Refused.ensures.told in record { put = ap rows_put told; taken = ap keys_taken told })

pub returns-in-Err-clause-sent : goal.returns-in-Err-clause-sent
returns-in-Err-clause-sent g c = λ statement of. quiet_sent (g.R.RowCalls.defs c.args.rows.now) statement (g.R.RowCalls.calls c.args.rows.now) (g.R.RowCalls.calls c.lock.new.self)
    (let told = c.in-Err.ensures.told in record { put = ap rows_put told; taken = ap keys_taken told })

pub returns-in-Err-Refused-clause-means : goal.returns-in-Err-Refused-clause-means
returns-in-Err-Refused-clause-means g c = λ statement of first plays.
    let calls = g.R.RowCalls.calls in
    let defs = g.R.RowCalls.defs c.args.rows.now in
    let start = calls c.args.rows.now in
    let new = calls c.lock.new.self in
    let name = c.in-Some.name in
    let mode = c.mode_of.result in
    let told : new ≡ Stopped (AskLock name mode) c.in-Err-Refused.field-0 ∷ start = c.in-Err-Refused.ensures.told in
    let was = behind_stop defs first (AskLock name mode) c.in-Err-Refused.field-0 start (subst (PlaysFrom defs first) told plays) in
    let may = subst (λ (stop : Stop). MayGive (AskLock name mode) stop) c.in-Err-Refused.field-0-is c.in-Err-Refused.ensures.cause in
    let lock : lock_of (plan_of defs statement) ≡ Some name = ap lock_of (sym of.plan_is) ∙ sym c.lock_of.ensures ∙ c.in-Some.is in
    let answer = subst (λ (tables : Tables). AnswersUnless None statement (tables_of first start) (replies.Refused (refusals.Resource c.in-Err-Refused.resource)) tables) (sym (ap (tables_of first) told)) (lock_lacks defs statement of.fits first start was name mode c.in-Err-Refused.resource lock may) in
    subst (λ (resource : Resource). AnswersUnless None statement (tables_of first start) (replies.Refused (refusals.Resource resource)) (tables_of first new)) (sym c.in-Err-Refused.resource-is) answer

pub returns-in_default-clause-own : goal.returns-in_default-clause-own
returns-in_default-clause-own g c = λ none. is_own c.args.plan.now c.without_keys.result c.without_keys.ensures.reply c.without_keys.ensures.memory

pub returns-in-Ok-clause-own : goal.returns-in-Ok-clause-own
returns-in-Ok-clause-own g c = λ none. absurd (let e : None ≡ Some c.in-Some.name = sym none ∙ sym c.lock_of.ensures ∙ c.in-Some.is in cc)

pub returns-in-Err-Refused-clause-own : goal.returns-in-Err-Refused-clause-own
returns-in-Err-Refused-clause-own g c = λ none. absurd (let e : None ≡ Some c.in-Some.name = sym none ∙ sym c.lock_of.ensures ∙ c.in-Some.is in cc)

pub returns-in-Err-clause-own : goal.returns-in-Err-clause-own
returns-in-Err-clause-own g c = λ none. absurd (let e : None ≡ Some c.in-Some.name = sym none ∙ sym c.lock_of.ensures ∙ c.in-Some.is in cc)
