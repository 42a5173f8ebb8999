use Rattle.std.proofs.Common.{rules, ◌≡◌, ◌∙◌, sym, subst, refl, ap, List, Err}
use Rattle.row_types.specs.declared.definition.TableDef.{TableDef}
use Rattle.sql_check.specs.Columns.{def_at}
use Rattle.plain_model.specs.declared.stop.Stop.{Stop}
use Rattle.plain_model.specs.Calls.{Call, op_count}
use Rattle.plain_model.specs.Runs.{Since, here, stopped}
use Rattle.plain_model.proofs.CallLaws.{since_joined}
use Rattle.sql_exec.specs.Acts.{act_of, as_plan}
use Rattle.sql_exec.specs.Bodies.{ChangesEnd}
use Rattle.sql_exec.specs.Plays.{OnTable}
use Rattle.sql_exec.specs.Sends.{ChangeSends}
use Rattle.sql_exec.proofs.ChangeLoops.{change_sends}
use Rattle.sql_exec.proofs.Settling.{change_sent, no_mark, plan_ends, settled_since}
use Rattle.sql_exec.proofs.Forward.{mark_forward, forward_since}
use Rattle.sql_exec.proofs.change.change.Goals as goal

pub returns-in_err-mark-clause-since : goal.returns-in_err-mark-clause-since
returns-in_err-mark-clause-since g c = subst (Since (g.R.RowCalls.calls c.args.rows.now)) (sym c.in_err-mark.ensures.told) (stopped _ _ _ refl here)

pub returns-in_err-mark-clause-plain : goal.returns-in_err-mark-clause-plain
returns-in_err-mark-clause-plain g c =
    let defs = g.R.RowCalls.defs c.args.rows.now in
    let n = c.args.table in
    let stop : Stop = c.in_err-mark.field-0.0 in
    let is : c.from_residual.result ≡ Err stop = search rules in
    no_mark defs n (def_at defs n) (as_plan c.args.plan) stop c.from_residual.result (g.R.RowCalls.calls c.args.rows.now) (g.R.RowCalls.calls c.mark.new.self) is c.in_err-mark.ensures.told

pub settle-requires-clause-mark : goal.settle-requires-clause-mark
settle-requires-clause-mark g c =
    let calls = g.R.RowCalls.calls in
    mark_forward (calls c.mark.new.self) (calls c.change_all-changes.new.rows) _ (c.in_ok-mark.ensures.mark ∙ ap op_count (sym c.in_ok-mark.ensures.told)) c.change_all-changes.ensures.changed.forward

pub returns-clause-since : goal.returns-clause-since
returns-clause-since g c =
    let calls = g.R.RowCalls.calls in
    let mid = calls c.change_all-changes.new.rows in
    let body = subst (λ (start : List Call). Since start mid) c.in_ok-mark.ensures.told (forward_since (calls c.mark.new.self) mid c.change_all-changes.ensures.changed.forward) in
    since_joined (calls c.args.rows.now) mid (calls c.settle.new.rows) body (settled_since _ _ mid _ (calls c.settle.new.rows) c.settle.ensures.calls)

pub returns-clause-plain : goal.returns-clause-plain
returns-clause-plain g c =
    let calls = g.R.RowCalls.calls in
    let defs = g.R.RowCalls.defs c.args.rows.now in
    let n = c.args.table in
    let start = calls c.args.rows.now in
    let mid = calls c.change_all-changes.new.rows in
    let told = c.in_ok-mark.ensures.told in
    let since = subst (λ (from : List Call). Since from mid) told (forward_since (calls c.mark.new.self) mid c.change_all-changes.ensures.changed.forward) in
    let body = subst (λ (from : List Call). OnTable defs n (ChangesEnd (def_at defs n) (as_plan c.args.plan) c.change_all-changes.result) from mid) told
    (subst (λ (ds : List TableDef). OnTable ds n (ChangesEnd (def_at ds n) (as_plan c.args.plan) c.change_all-changes.result) (calls c.mark.new.self) mid) c.in_ok-mark.ensures.schema c.change_all-changes.ensures.changed.plain) in
    plan_ends defs n (def_at defs n) (as_plan c.args.plan) _ c.change_all-changes.result start mid c.settle.result (calls c.settle.new.rows) c.in_ok-mark.ensures.mark since c.settle.ensures.calls body

pub returns-clause-sent : goal.returns-clause-sent
returns-clause-sent g c =
    let calls = g.R.RowCalls.calls in
    let defs = g.R.RowCalls.defs c.args.rows.now in
    let n = c.args.table in
    let mid = calls c.change_all-changes.new.rows in
    let body = subst (λ (from : List Call). ChangeSends defs n (act_of c.args.plan) from mid) c.in_ok-mark.ensures.told
    (subst (λ (ds : List TableDef). ChangeSends ds n (act_of c.args.plan) (calls c.mark.new.self) mid) c.in_ok-mark.ensures.schema (change_sends (g.R.RowCalls.defs c.mark.new.self) n c.args.plan (calls c.mark.new.self) mid c.change_all-changes.ensures.changed.sent)) in
    change_sent defs n (act_of c.args.plan) _ c.change_all-changes.result (calls c.args.rows.now) mid c.settle.result (calls c.settle.new.rows) c.settle.ensures.calls body
