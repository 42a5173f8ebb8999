use Rattle.std.proofs.Common.{◌≡◌, ◌∷◌, List, ap, refl, sym, take, ◌∙◌}
use Rattle.row_types.specs.declared.row.Value.{Value}
use Rattle.key_space.specs.Plays.{Rows}
use Rattle.sql_check.specs.declared.plan.Test.{Test}
use Rattle.plain_model.specs.PlanMeaning.{passes_all}
use Rattle.sql_exec.specs.Selects.{in_columns}
use Rattle.sql_exec.proofs.Lasting.{last_collected}
use Rattle.sql_exec.proofs.falling.collect_last.Goals as goal

pub loop-row-preserved-then-passes_all : goal.loop-row-preserved-then-passes_all
loop-row-preserved-then-passes_all c = λ before e.
    let row = c.in-Some.row in
    let found : Rows = c.loop-row.found.items in
    let tested = sym (ap (λ (tests : List Test). passes_all tests row) c.as_slice.ensures) ∙ sym c.passes_all.ensures in
    last_collected c.args.p.now c.args.wanted before c.loop-row.yielded row found c.truncate.new.self.items (c.loop-row.invariant before e)
    (c.truncate.ensures.items ∙ ap (λ (l : Rows). take c.args.wanted l) c.in_ok-push_front.ensures.items
    ∙ rw (tested ∙ c.if-passes_all.true) (ap (λ (values : List Value). take c.args.wanted (values ∷ found)) (c.in_ok-in_columns.ensures ∙ ap (λ (columns : List _). in_columns columns row) c.as_slice-then-passes_all.ensures)))

pub loop-row-preserved : goal.loop-row-preserved
loop-row-preserved c = λ before e.
    let row = c.in-Some.row in
    let found : Rows = c.loop-row.found.items in
    let tested = sym (ap (λ (tests : List Test). passes_all tests row) c.as_slice.ensures) ∙ sym c.passes_all.ensures in
    last_collected c.args.p.now c.args.wanted before c.loop-row.yielded row found found (c.loop-row.invariant before e) (rw (tested ∙ c.if-passes_all.false) refl)
