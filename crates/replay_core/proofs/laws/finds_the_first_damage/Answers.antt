use Rattle.lane_format.proofs.Readings.{reads_broken}
use Rattle.replay_core.proofs.ReadingLaws.{ends_before_damage}
use Rattle.replay_core.proofs.laws.finds_the_first_damage.Goals as goal

pub returns-clause-gate : goal.returns-clause-gate
returns-clause-gate c = λ odd lane bytes generation items at head before broken.
    reads_broken odd lane bytes generation before.batches at head before.whole broken

pub returns-clause-body : goal.returns-clause-body
returns-clause-body c = ends_before_damage
