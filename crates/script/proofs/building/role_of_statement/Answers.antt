use Rattle.std.proofs.Common.{sym, subst, ◌∙◌}
use Rattle.script.specs.Building.{HasRole}
use Rattle.script.proofs.BuildLaws.{role_at}
use Rattle.script.proofs.building.role_of_statement.Goals as goal

pub returns : goal.returns
returns c =
    let s = c.args.statement.now in
    subst (HasRole s) (sym c.role_of.ensures) (role_at c.one_token_list.ensures s _ _ (c.as_str.ensures.value ∙ c.text.ensures) c.sole_token.ensures.some c.sole_token.ensures.none)
