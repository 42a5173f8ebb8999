use Rattle.key_space.proofs.LockLaws.{dies_for_the_least, waits_for_the_least}
use Rattle.key_space.proofs.laws.verdict_names_the_least.Goals as goal

pub returns-clause-die : goal.returns-clause-die
returns-clause-die c = dies_for_the_least

pub returns-clause-wait : goal.returns-clause-wait
returns-clause-wait c = waits_for_the_least
