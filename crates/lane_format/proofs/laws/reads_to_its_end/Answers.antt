use Rattle.lane_format.proofs.Readings.{reads_broken, reads_whole}
use Rattle.lane_format.proofs.laws.reads_to_its_end.Goals as goal

pub returns-clause-end : goal.returns-clause-end
returns-clause-end c = reads_whole

pub returns-clause-broken : goal.returns-clause-broken
returns-clause-broken c = reads_broken
