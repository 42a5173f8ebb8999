use Rattle.xor_records.proofs.ReplayLaws.{compensated}
use Rattle.xor_records.proofs.laws.a_change_is_undone_by_its_compensation.Goals as goal

pub returns : goal.returns
returns c = compensated
