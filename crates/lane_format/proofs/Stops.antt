-- How a reading that stopped early is a reading of the whole file.
use Rattle.std.proofs.Common.{◌≡◌, ℕ, Bool, List, Option, Result, Ok, Err, IsErrAnd, sym}
use Rattle.std.specs.Option.{IfSome}
use Rattle.lane_format.specs.LaneRead.{DamagedAt, lane_reads}
use Rattle.lane_format.specs.ReadingSteps.{found_as}
use Rattle.lane_format.specs.declared.segment.Segment.{Segment}
use Rattle.lane_format.specs.declared.stop.ReadStop.{ReadStop}
use Rattle.lane_format.specs.declared.stop.ReadStop.TheVariants.{Damaged, Disk, OutOfMemory}

pub stopped_reading : (odd : Bool) (lane : ℕ) (bytes : List ℕ) (r : Result (Option Segment) ReadStop) (why : ReadStop) → IsErrAnd r (λ x. x ≡ why) → ((at : ℕ) → why ≡ Damaged at → lane_reads odd lane bytes (DamagedAt at))
    → IfSome (found_as r) (lane_reads odd lane bytes)
stopped_reading odd lane bytes (Ok x) why is damaged = absurd is
stopped_reading odd lane bytes (Err (Damaged at)) why is damaged = damaged at (sym is)
stopped_reading odd lane bytes (Err Disk) why is damaged = tt
stopped_reading odd lane bytes (Err OutOfMemory) why is damaged = tt
