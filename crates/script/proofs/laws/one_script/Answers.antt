use Rattle.script.proofs.UniqueLaws.{one_script}
use Rattle.script.proofs.laws.one_script.Goals as goal

pub returns : goal.returns
returns c = one_script c.one_token_list.ensures
