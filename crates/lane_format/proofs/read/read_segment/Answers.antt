use Rattle.std.proofs.Common.{Err, refl, subst}
use Rattle.std.specs.Option.{IfSome}
use Rattle.disk_core.specs.declared.store.FileName.TheVariants.{Lane}
use Rattle.lane_format.specs.LaneRead.{lane_reads}
use Rattle.lane_format.specs.ReadingSteps.{found_as}
use Rattle.lane_format.proofs.read.read_segment.Goals as goal

pub returns-in-Err-Disk-clause-still : goal.returns-in-Err-Disk-clause-still
returns-in-Err-Disk-clause-still g c = λ none. absurd (none (Lane c.args.lane c.args.odd) refl)

pub returns-in-Err-Damaged-clause-segment : goal.returns-in-Err-Damaged-clause-segment
returns-in-Err-Damaged-clause-segment g c = λ bytes known.
    subst (λ e. IfSome (found_as (Err e)) (lane_reads c.args.odd c.args.lane bytes)) c.in-Err-Damaged.field-0-is (c.in-Err-Damaged.ensures.segment bytes known)
