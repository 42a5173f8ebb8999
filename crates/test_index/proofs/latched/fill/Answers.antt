use Rattle.std.proofs.Common.{ℕ, subst, sym}
use Rattle.atomic_table.specs.declared.shared.Seat.{Seat}
use Rattle.olfit_rule.specs.declared.view.View.{View}
use Rattle.olfit_change.specs.States.{IsBetweenCalls}
use Rattle.olfit_change.proofs.Climbs.{works_still}
use Rattle.test_index.proofs.latched.fill.Goals.{then-is_some-via-then-is_some, then-is_some-via-else-is_some+then-nodes_needed-used}
use Rattle.test_index.proofs.latched.fill.Goals as goal

pub put-requires-clause-works : goal.put-requires-clause-works
put-requires-clause-works c =
    works_still _ 8 c.loop-done.used c.value_of.new.me c.nodes_needed.new.me (works_still _ 8 c.loop-done.used c.loop-done.me c.value_of.new.me c.loop-done.invariant.0 c.value_of.ensures.same) c.nodes_needed.ensures.same

pub returns-then-is_some-clause-works : goal.returns-then-is_some-clause-works
returns-then-is_some-clause-works c =
    let looked = works_still _ 8 c.loop-done.used c.loop-done.me c.value_of.new.me c.loop-done.invariant.0 c.value_of.ensures.same in
    elim c.then-is_some.branch [
      | then-is_some-via-then-is_some w ↦ subst (λ (m : Seat ℕ View). IsBetweenCalls c.args.shared.now.table_id 8 c.loop-done.used m) (sym w.me-is) looked
      | then-is_some-via-else-is_some+then-nodes_needed-used w ↦ subst (λ (m : Seat ℕ View). IsBetweenCalls c.args.shared.now.table_id 8 c.loop-done.used m) (sym w.me-is) (works_still _ 8 c.loop-done.used c.value_of.new.me w.nodes_needed.new.me looked w.nodes_needed.ensures.same)
    ]
