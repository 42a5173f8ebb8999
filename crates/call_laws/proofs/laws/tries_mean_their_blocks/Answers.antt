use Rattle.call_laws.proofs.Comings.{try_comes}
use Rattle.call_laws.proofs.laws.tries_mean_their_blocks.Goals as goal

pub returns : goal.returns
returns c = try_comes
