use Rattle.replay_core.proofs.BatchLaws.{open_batch}
use Rattle.replay_core.proofs.laws.a_batch_of_open_changes_leaves_all_pages.Goals as goal

pub returns : goal.returns
returns c = open_batch
