use Rattle.std.proofs.Common.{sym, subst, ◌∙◌}
use Rattle.script.specs.Blocks.{AreBlocks}
use Rattle.script.specs.Building.{AreBuilt}
use Rattle.script.proofs.BuildLaws.{all_done, cut_off}
use Rattle.script.proofs.building.Builder.finish.Goals as goal
use Rattle.script.proofs.building.Builder.finish.Goals.{in-Some+in_ok-push, in_default}

pub returns : goal.returns
returns c statements has =
    let done = c.args.self.done in
    elim c.match-open.branch as (λ _. AreBlocks c.match-open.done statements) [
      | in-Some+in_ok-push w ↦ subst (λ l. AreBlocks l statements) (sym (w.done-is ∙ w.in_ok-push.ensures.ok)) (cut_off done statements _ (subst (AreBuilt statements done) w.in-Some.is has))
      | in_default w ↦ subst (λ l. AreBlocks l statements) (sym w.done-is) (all_done done statements (subst (AreBuilt statements done) w.in_default.is has))
    ]
