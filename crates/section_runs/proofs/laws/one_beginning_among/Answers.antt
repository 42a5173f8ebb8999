use Rattle.section_runs.proofs.TrailLaws.{begins_one}
use Rattle.section_runs.proofs.laws.one_beginning_among.Goals as goal

pub returns : goal.returns
returns c = begins_one c.one_beginning.ensures
