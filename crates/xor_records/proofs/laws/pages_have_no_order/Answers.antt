use Rattle.xor_records.proofs.ReplayLaws.{no_order}
use Rattle.xor_records.proofs.laws.pages_have_no_order.Goals as goal

pub returns : goal.returns
returns c = no_order
