-- How a reading of a whole file goes on from batch to batch, and how it ends.
use Rattle.std.specs.Prelude.{◌≡◌, ℕ, List, length, drop, Option, None, Some, Result, Ok, Err}
use Rattle.std.specs.Option.{ForSome}
use Rattle.base_types.specs.Causes.{one_more}
use Rattle.lane_format.specs.Batches.{batch_at, stands}
use Rattle.lane_format.specs.LaneRead.{DamagedAt, Holding, LaneRead, NotOpen}
use Rattle.lane_format.specs.declared.gate.AtGate.TheVariants.{Body, Broken, End}
use Rattle.lane_format.specs.declared.segment.Batch.{Batch}
use Rattle.lane_format.specs.declared.segment.Segment.{Segment}
use Rattle.lane_format.specs.declared.stop.ReadStop.{ReadStop}
use Rattle.lane_format.specs.declared.stop.ReadStop.TheVariants.{Disk, Damaged, OutOfMemory}

-- at the gate stands this batch, or none: the gate isn't open
abbrev pub NextIs : List ℕ → ℕ → Option Batch → Type 0
NextIs bytes gate None = stands (drop gate bytes) End
NextIs bytes gate (Some batch) =
    stands (drop gate bytes) (Body (length batch.body)) × (batch ≡ batch_at bytes gate (length batch.body))

-- an open gate without a batch stops the reading at its place
abbrev pub StopsAt : Option (List ℕ) → ℕ → ReadStop → Type 0
StopsAt content gate stop =
    (at : ℕ) → stop ≡ Damaged at → (at ≡ gate) × ForSome content (λ bytes. stands (drop gate bytes) Broken)

-- with a stop for the disk exactly one call of it has failed, and with any other result none
abbrev pub StopHasCause : {T : Type 0} → ℕ → ℕ → Result T ReadStop → Type 0
StopHasCause old new (Ok _) = new ≡ old
StopHasCause old new (Err Disk) = new ≡ one_more old
StopHasCause old new (Err (Damaged at)) = new ≡ old
StopHasCause old new (Err OutOfMemory) = new ≡ old

-- what a reading says of the file, wherever it lies
abbrev pub found_as : Result (Option Segment) ReadStop → Option LaneRead
found_as (Ok None) = Some NotOpen
found_as (Ok (Some segment)) = Some (Holding segment.generation segment.batches)
found_as (Err (Damaged at)) = Some (DamagedAt at)
found_as (Err Disk) = None
found_as (Err OutOfMemory) = None
