use Rattle.list_store.proofs.OneReading.{one_start_alone}
use Rattle.list_store.proofs.laws.one_beginning.Goals as goal

pub returns : goal.returns
returns c = one_start_alone
