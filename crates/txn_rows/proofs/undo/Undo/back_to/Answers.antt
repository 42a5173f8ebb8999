use Rattle.std.proofs.Common.{List, refl, ◌∙◌, subst}
use Rattle.txn_rows.specs.declared.undo.Step.{Step}
use Rattle.txn_rows.specs.Steps.{AreThere, stands}
use Rattle.txn_rows.proofs.States.{there_last, undoing_step, undoing_end}
use Rattle.txn_rows.proofs.undo.Undo.back_to.Goals as goal

pub restore-requires-clause-there : goal.restore-requires-clause-there
restore-requires-clause-there c =
    there_last (stands c.loop-step.lists) c.pop_from.new.self.steps.items c.in-Some.step
    (subst (λ (ss : List Step). AreThere (stands c.loop-step.lists) ss) c.in-Some.ensures.some.0 c.loop-step.invariant.there)

pub loop-step-preserved : goal.loop-step-preserved
loop-step-preserved c =
    undoing_step c.args.lists.now c.loop-step.lists c.restore.new.lists c.args.self.now.steps.items c.loop-step.self.steps.items c.pop_from.new.self.steps.items c.args.count c.loop-step.len c.in-Some.step c.loop-step.invariant
    c.in-Some.ensures.some.0 c.in-Some.ensures.some.1 c.restore.ensures.len c.restore.ensures.back

pub returns : goal.returns
returns c = λ kept undone split before since.
    let told = c.in_default.ensures.none refl in
    let end = undoing_end c.args.lists.now c.loop-step.lists c.args.self.now.steps.items c.loop-step.self.steps.items c.args.count c.loop-step.len c.loop-step.invariant told.1 kept undone split before since in
    (told.0 ∙ end.0, end.1, end.2)
