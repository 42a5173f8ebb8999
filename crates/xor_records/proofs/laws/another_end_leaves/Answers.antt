use Rattle.xor_records.proofs.ReplayLaws.{another_end_leaves}
use Rattle.xor_records.proofs.laws.another_end_leaves.Goals as goal

pub returns : goal.returns
returns c = another_end_leaves
