use Rattle.xor_records.specs.Replay.{zeros}
use Rattle.replay_core.proofs.page_bytes.zeros.Goals as goal

pub returns : goal.returns
unfolding zeros
returns c = c.in_ok-bytes.ensures
