use Rattle.std.proofs.Common.{rules, ℕ, ◌≡◌, [], ◌∷◌, ◌++◌, length, ap, refl, sym, ◌∙◌, List}
use Rattle.plain_model.specs.PlanMeaning.{passes_all}
use Rattle.sql_check.specs.declared.plan.Test.{Test}
use Rattle.row_types.specs.declared.row.Value.{Value}
use Rattle.sql_exec.specs.Selects.{in_columns}
use Rattle.sql_exec.proofs.Showing.{enough, collected, collected_enough}
use Rattle.sql_exec.proofs.select.collect.Goals.{else-is_wanted-via-then-is_wanted+else-passes_all, else-is_wanted-via-else-is_wanted}
use Rattle.sql_exec.proofs.select.collect.Goals as goal

pub loop-row-preserved-then-passes_all : goal.loop-row-preserved-then-passes_all
loop-row-preserved-then-passes_all c = λ before e.
    let row = c.in-Some.row in
    let found = c.loop-row.found.items in
    let asked : c.is_enough-is_wanted.result ≡ enough c.args.wanted (length found) = search rules in
    let tested = sym (ap (λ (tests : List Test). passes_all tests row) c.as_slice-then-is_wanted.ensures) ∙ sym c.passes_all.ensures in
    collected c.args.p.now c.args.wanted before c.loop-row.yielded row found c.push.new.self.items (c.loop-row.invariant before e) (sym asked ∙ c.if-is_wanted.true)
    (c.in_ok-push.ensures.items ∙ rw (tested ∙ c.if-passes_all.true) (ap (λ (values : List Value). found ++ values ∷ []) (c.in_ok-in_columns.ensures ∙ ap (λ (columns : List ℕ). in_columns columns row) c.as_slice-then-passes_all.ensures)))

pub loop-row-preserved : goal.loop-row-preserved
loop-row-preserved c = λ before e.
    let row = c.in-Some.row in
    let found = c.loop-row.found.items in
    let asked : c.is_enough-is_wanted.result ≡ enough c.args.wanted (length found) = search rules in
    elim c.else-is_wanted.branch [
      | else-is_wanted-via-then-is_wanted+else-passes_all w ↦
          let tested = sym (ap (λ (tests : List Test). passes_all tests row) w.as_slice-then-is_wanted.ensures) ∙ sym w.passes_all.ensures in
          collected c.args.p.now c.args.wanted before c.loop-row.yielded row found found (c.loop-row.invariant before e) (sym asked ∙ w.if-is_wanted.true) (rw (tested ∙ w.if-passes_all.false) refl)
      | else-is_wanted-via-else-is_wanted w ↦ collected_enough c.args.p.now c.args.wanted before c.loop-row.yielded row found (c.loop-row.invariant before e) (sym asked ∙ w.if-is_wanted.false)
    ]
