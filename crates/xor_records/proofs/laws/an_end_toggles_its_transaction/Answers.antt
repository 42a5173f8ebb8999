use Rattle.xor_records.proofs.ReplayLaws.{end_toggles}
use Rattle.xor_records.proofs.laws.an_end_toggles_its_transaction.Goals as goal

pub returns : goal.returns
returns c = end_toggles
