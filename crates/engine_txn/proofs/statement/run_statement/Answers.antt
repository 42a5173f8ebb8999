use Rattle.std.proofs.Common.{◌≡◌, None, Err, inl, sym, subst, ◌∙◌, rules}
use Rattle.sql_check.specs.Misfits.{misfit}
use Rattle.sql_check.specs.Plans.{plan_of, plan_unless, IsUnlessMemory}
use Rattle.sql_exec.specs.Means.{lock_of, mode_of}
use Rattle.engine_txn.specs.Transactions.{here}
use Rattle.engine_txn.proofs.CallLists.{works_by}
use Rattle.engine_txn.proofs.Sources.{has_cause, stops_since}
use Rattle.engine_txn.proofs.Tables.{schema_now, unfit_means}
use Rattle.engine_txn.proofs.Texts.{fault_given, runs_fitting, runs_or, runs_unfit}
use Rattle.engine_txn.proofs.statement.run_statement.Goals as goal

pub returns-in-Ok-clause-calls : goal.returns-in-Ok-clause-calls
returns-in-Ok-clause-calls g c =
    let defs = g.B.RowCalls.defs c.args.calls.now in
    let old = g.B.RowCalls.calls c.args.calls.now in
    let new = g.B.RowCalls.calls c.run_plan.new.rows in
    let is : (misfit defs c.args.statement ≡ None) × (c.in-Ok.plan ≡ plan_of defs c.args.statement) = search rules in
    runs_or c.run_plan.result defs c.args.statement old new
    (runs_fitting defs c.args.statement c.in-Ok.plan old new is c.run_plan.ensures.lock (c.run_plan.ensures.sent c.args.statement (search rules)))

pub returns-in-Ok-clause-cause : goal.returns-in-Ok-clause-cause
returns-in-Ok-clause-cause g c =
    let plan = c.in-Ok.plan in
    has_cause (mode_of plan) _ _ (lock_of plan) c.requires.running c.run_plan.ensures.lock c.run_plan.result c.run_plan.ensures.lack c.run_plan.ensures.spent c.run_plan.ensures.own

pub returns-in-Ok-clause-end : goal.returns-in-Ok-clause-end
returns-in-Ok-clause-end g c =
    let plan = c.in-Ok.plan in
    stops_since (mode_of plan) _ _ (lock_of plan) c.run_plan.result c.run_plan.ensures.own c.run_plan.ensures.lock c.run_plan.ensures.end

pub returns-in-Ok-clause-works : goal.returns-in-Ok-clause-works
returns-in-Ok-clause-works g c = works_by _ _ _ _ c.run_plan.ensures.lock

pub returns-in-Some-clause-works : goal.returns-in-Some-clause-works
returns-in-Some-clause-works g c = here

pub returns-in-None-clause-works : goal.returns-in-None-clause-works
returns-in-None-clause-works g c = here

pub returns-in-Some-clause-means : goal.returns-in-Some-clause-means
returns-in-Some-clause-means g c =
    let defs = g.B.RowCalls.defs c.args.calls.now in
    let old = g.B.RowCalls.calls c.args.calls.now in
    let refuses = sym c.of_check.ensures ∙ c.in-Some.is in
    let is = fault_given (misfit defs c.args.statement) (plan_of defs c.args.statement) c.in-Err.fault c.in-Some.refusal (subst (λ ds. IsUnlessMemory (Err c.in-Err.fault) (plan_unless (misfit ds c.args.statement) (plan_of ds c.args.statement))) c.schema.ensures c.in-Err.ensures.plan) refuses in
    λ first plays. inl (unfit_means defs _ c.args.statement c.in-Err.fault c.in-Some.refusal (schema_now defs first old plays) is refuses)

pub returns-in-Some-clause-calls : goal.returns-in-Some-clause-calls
returns-in-Some-clause-calls g c =
    let defs = g.B.RowCalls.defs c.args.calls.now in
    let refuses = sym c.of_check.ensures ∙ c.in-Some.is in
    let is = fault_given (misfit defs c.args.statement) (plan_of defs c.args.statement) c.in-Err.fault c.in-Some.refusal (subst (λ ds. IsUnlessMemory (Err c.in-Err.fault) (plan_unless (misfit ds c.args.statement) (plan_of ds c.args.statement))) c.schema.ensures c.in-Err.ensures.plan) refuses in
    runs_unfit defs c.args.statement c.in-Err.fault _ is
