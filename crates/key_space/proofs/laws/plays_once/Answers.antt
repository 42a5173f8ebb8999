use Rattle.key_space.proofs.PlaysLaws.{plays_once as once}
use Rattle.key_space.proofs.laws.plays_once.Goals as goal

pub returns : goal.returns
returns c = once
