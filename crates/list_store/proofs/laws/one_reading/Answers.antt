use Rattle.list_store.proofs.OneReading.{at_most_one_log}
use Rattle.list_store.proofs.laws.one_reading.Goals as goal

pub returns : goal.returns
returns c = at_most_one_log
