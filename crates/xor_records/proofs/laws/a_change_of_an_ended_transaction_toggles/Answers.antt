use Rattle.xor_records.proofs.ReplayLaws.{ended_toggles}
use Rattle.xor_records.proofs.laws.a_change_of_an_ended_transaction_toggles.Goals as goal

pub returns : goal.returns
returns c = ended_toggles
