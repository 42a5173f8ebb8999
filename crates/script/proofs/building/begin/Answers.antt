use Rattle.std.proofs.Common.{[], ◌∷◌, ◌++◌, None, sym, subst}
use Rattle.script.specs.Building.{AreBuilt}
use Rattle.script.proofs.BuildLaws.{stood_alone}
use Rattle.script.proofs.building.begin.Goals as goal

pub returns : goal.returns
returns c statements built = subst (λ l. AreBuilt (statements ++ c.args.statement ∷ []) l None) (sym c.in_ok-push.ensures.ok) (stood_alone c.args.done statements c.args.statement c.args.role c.in_default.not-Begin c.requires built)
