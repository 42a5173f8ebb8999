use Rattle.std.proofs.Common.{refl}
use Rattle.call_log.proofs.Histories.{loaded_batches, loaded_is_history, loaded_settled}
use Rattle.call_log.proofs.laws.loads_add_a_batch.Goals as goal

pub returns-clause-history : goal.returns-clause-history
returns-clause-history c = loaded_is_history

pub returns-clause-batches : goal.returns-clause-batches
returns-clause-batches c = loaded_batches

pub returns-clause-tables : goal.returns-clause-tables
returns-clause-tables c = loaded_settled

pub returns-clause-forced : goal.returns-clause-forced
returns-clause-forced c = λ calls batch. refl

pub returns-clause-idle : goal.returns-clause-idle
returns-clause-idle c = λ calls batch. refl
