use Rattle.std.proofs.Common.{take}
use Rattle.replay_core.specs.Ended.{is_in}
use Rattle.replay_core.specs.Deltas.{AreDeltas}
use Rattle.replay_core.proofs.page_deltas.deltas.Given as goal

abbrev pub invariant-loop-rec : goal.invariant-loop-rec
invariant-loop-rec l = AreDeltas l.images (is_in l.ended) (take l.rec-index l.records) l.deltas
