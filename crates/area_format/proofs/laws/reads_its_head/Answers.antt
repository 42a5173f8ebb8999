use Rattle.area_format.proofs.Readings.{reads_damaged, reads_not_open}
use Rattle.area_format.proofs.laws.reads_its_head.Goals as goal

pub returns-clause-not_open : goal.returns-clause-not_open
returns-clause-not_open c = reads_not_open

pub returns-clause-damaged : goal.returns-clause-damaged
returns-clause-damaged c = reads_damaged
