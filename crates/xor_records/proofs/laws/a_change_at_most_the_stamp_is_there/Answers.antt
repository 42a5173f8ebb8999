use Rattle.xor_records.proofs.ReplayLaws.{at_most_the_stamp}
use Rattle.xor_records.proofs.laws.a_change_at_most_the_stamp_is_there.Goals as goal

pub returns : goal.returns
returns c = at_most_the_stamp
