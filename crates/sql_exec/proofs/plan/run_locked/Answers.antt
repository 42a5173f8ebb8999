use Rattle.std.proofs.Common.{◌∙◌, sym, ap, subst}
use Rattle.sql_check.specs.Columns.{def_at}
use Rattle.sql_check.specs.declared.plan.Plan.{Plan}
use Rattle.sql_check.specs.declared.plan.Plan.TheVariants.{Select, Totals}
use Rattle.sql_exec.specs.Bodies.{PlanEnds}
use Rattle.sql_exec.specs.Means.{lock_of}
use Rattle.sql_exec.specs.Plays.{OnTable}
use Rattle.sql_exec.proofs.Forward.{forward_since}
use Rattle.sql_exec.proofs.Planning.{name_table}
use Rattle.sql_exec.proofs.ReadLoops.{plan_read}
use Rattle.sql_exec.proofs.plan.run_locked.Goals as goal

pub returns-in-Select-clause-since : goal.returns-in-Select-clause-since
returns-in-Select-clause-since g c = forward_since (g.R.RowCalls.calls c.args.rows.now) (g.R.RowCalls.calls c.select.new.rows) c.select.ensures.read.forward

pub returns-in-Totals-clause-since : goal.returns-in-Totals-clause-since
returns-in-Totals-clause-since g c = forward_since (g.R.RowCalls.calls c.args.rows.now) (g.R.RowCalls.calls c.total.new.rows) c.total.ensures.read.forward

pub returns-in-Select-clause-plain : goal.returns-in-Select-clause-plain
returns-in-Select-clause-plain g c =
    let defs = g.R.RowCalls.defs c.args.rows.now in
    let start = g.R.RowCalls.calls c.args.rows.now in
    let new = g.R.RowCalls.calls c.select.new.rows in
    let p = c.in-Select.p in
    let named = sym (name_table p.table p.range c.args.name (sym (ap lock_of c.in-Select.is) ∙ c.requires.name)) in
    subst (λ (plan : Plan). OnTable defs c.args.name.table (PlanEnds (def_at defs c.args.name.table) plan c.select.result) start new) (sym c.in-Select.is)
    (subst (λ n. OnTable defs n (PlanEnds (def_at defs n) (Select p) c.select.result) start new) named (plan_read (Select p) c.select.result c.select.ensures.read))

pub returns-in-Totals-clause-plain : goal.returns-in-Totals-clause-plain
returns-in-Totals-clause-plain g c =
    let defs = g.R.RowCalls.defs c.args.rows.now in
    let start = g.R.RowCalls.calls c.args.rows.now in
    let new = g.R.RowCalls.calls c.total.new.rows in
    let p = c.in-Totals.p in
    let named = sym (name_table p.table p.range c.args.name (sym (ap lock_of c.in-Totals.is) ∙ c.requires.name)) in
    subst (λ (plan : Plan). OnTable defs c.args.name.table (PlanEnds (def_at defs c.args.name.table) plan c.total.result) start new) (sym c.in-Totals.is)
    (subst (λ n. OnTable defs n (PlanEnds (def_at defs n) (Totals p) c.total.result) start new) named (plan_read (Totals p) c.total.result c.total.ensures.read))
