use Rattle.replay_core.proofs.RestartLaws.{absent}
use Rattle.replay_core.proofs.laws.a_page_that_is_not_there_is_zeros.Goals as goal

pub returns : goal.returns
returns c = absent
