use Rattle.std.proofs.Common.{[], sym, subst}
use Rattle.replay_core.specs.Ended.{is_in}
use Rattle.replay_core.specs.Deltas.{AreDeltas}
use Rattle.replay_core.proofs.DeltaLaws.{no_deltas}
use Rattle.replay_core.proofs.page_deltas.deltas.Goals as goal

pub loop-rec-init : goal.loop-rec-init
loop-rec-init c =
    subst (AreDeltas c.args.images.now (is_in c.args.ended.now) []) (sym c.empty-deltas.ensures)
    (no_deltas c.args.images.now (is_in c.args.ended.now))
