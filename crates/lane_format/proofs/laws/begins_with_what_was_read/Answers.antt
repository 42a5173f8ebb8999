use Rattle.lane_format.proofs.Readings.{before_damage, begins}
use Rattle.lane_format.proofs.laws.begins_with_what_was_read.Goals as goal

pub returns-clause-whole : goal.returns-clause-whole
returns-clause-whole c = begins

pub returns-clause-damaged : goal.returns-clause-damaged
returns-clause-damaged c = before_damage
