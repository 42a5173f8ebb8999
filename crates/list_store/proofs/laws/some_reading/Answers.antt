use Rattle.list_store.proofs.SomeReading.{has_log_reading}
use Rattle.list_store.proofs.laws.some_reading.Goals as goal

pub returns : goal.returns
returns c = has_log_reading
