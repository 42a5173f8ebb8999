use Rattle.xor_records.proofs.ReplayLaws.{each_bit}
use Rattle.xor_records.proofs.laws.each_bit_has_its_parity.Goals as goal

pub returns : goal.returns
returns c = each_bit
