use Rattle.std.proofs.Common.{[], ◌∷◌, ◌++◌, None, Some, sym, subst}
use Rattle.script.specs.Building.{AreBuilt, HasRole}
use Rattle.script.proofs.BuildLaws.{closed, held}
use Rattle.script.proofs.building.go_on.Goals as goal

pub returns-in-End : goal.returns-in-End
returns-in-End c before built = subst (λ l. AreBuilt (before ++ c.args.statement ∷ []) l None) (sym c.in_ok-push.ensures.ok) (closed c.args.done before c.args.statements c.args.statement c.in-End.end (subst (HasRole c.args.statement) c.in-End.is c.requires) built)

pub returns : goal.returns
returns c before built = subst (λ l. AreBuilt (before ++ c.args.statement ∷ []) c.args.done (Some l)) (sym c.in_ok-push-2.ensures.ok) (held c.args.done before c.args.statements c.args.statement c.args.role c.in_default.not-End c.requires built)
