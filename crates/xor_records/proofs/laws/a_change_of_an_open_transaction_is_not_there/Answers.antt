use Rattle.xor_records.proofs.ReplayLaws.{open_is_not_there}
use Rattle.xor_records.proofs.laws.a_change_of_an_open_transaction_is_not_there.Goals as goal

pub returns : goal.returns
returns c = open_is_not_there
