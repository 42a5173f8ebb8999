-- What a lane writer knows of its two files, and how its calls fail.
use Rattle.std.specs.Prelude.{◌≡◌, ◌↔◌, ℕ, ◌<◌, ◌≤◌, ◌^◌, Bool, true, false, not, List, length}
use Rattle.std.specs.Prelude.{IsSome, Result, Err, OnOk}
use Rattle.std.specs.Option.{ForSome}
use Rattle.base_types.specs.Causes.{one_more}
use Rattle.disk_core.specs.declared.disk.Disk.{Ghosts}
use Rattle.disk_core.specs.declared.store.FileName.{FileName}
use Rattle.disk_core.specs.declared.store.FileName.TheVariants.{Lane}
use Rattle.disk_core.specs.declared.store.LaneDisks.{LaneDisks}
use Rattle.disk_core.specs.Moments.{LeavesNow}
use Rattle.lane_format.specs.Lane.{IsLane, IsNotOpen, lane_text}
use Rattle.lane_writer.specs.Parity.{is_odd}
use Rattle.lane_writer.specs.declared.fault.LaneFault.{LaneFault}
use Rattle.lane_writer.specs.declared.fault.LaneFault.TheVariants.{Disk, Closed}
use Rattle.lane_writer.specs.declared.writer.LaneWriter.{LaneWriter}
use Rattle.lane_writer.specs.declared.writer.Stage.{Stage}
use Rattle.lane_writer.specs.declared.writer.Stage.TheVariants.{Adopted, Shut, Open, Failed}

-- the one of a lane's two files that has odd generations, or the one that has even ones
abbrev pub file_of : {D : Type 0} → Bool → LaneDisks D → D
file_of true disks = disks.odd
file_of false disks = disks.even

-- the disks of both files of the writer
abbrev pub disks_of : {D : Type 0} → LaneWriter D → LaneDisks D
disks_of w = w.disks

-- the disk of one of them
abbrev pub disk_of : {D : Type 0} → Bool → LaneWriter D → D
disk_of odd w = file_of odd w.disks

-- the number of its lane
abbrev pub lane_of : {D : Type 0} → LaneWriter D → ℕ
lane_of w = w.lane

-- how far it has come
abbrev pub stage_of : {D : Type 0} → LaneWriter D → Stage
stage_of w = w.stage

-- the parity of the file that is closed or open at a stage
abbrev pub parity_of : Stage → Bool
parity_of Adopted = false
parity_of (Shut generation) = is_odd generation
parity_of (Open generation gate) = is_odd generation
parity_of (Failed file) = false

-- a disk of it failed in an earlier call
abbrev pub IsFailed : {D : Type 0} → LaneWriter D → Type 0
IsFailed w = (file : FileName) × (stage_of w ≡ Failed file)

-- Its last call closed the file for this generation:
-- there is a gate, and no crash now leaves an open file.
pub record IsShut {D : Type 0} (d : Ghosts D) (w : LaneWriter D) (generation : ℕ) : Type 0 where
  pub stage : stage_of w ≡ Shut generation
  pub gate : ForSome (d.content (disk_of (is_odd generation) w)) (λ bytes. 0 < length bytes)
  pub crash : IsSome (d.content (disk_of (is_odd generation) w))
      → LeavesNow d (disk_of (is_odd generation) w) IsNotOpen

-- The file for this generation is an open lane with these
-- batches, and the writer stands at the gate behind them.
pub record Holds {D : Type 0} (d : Ghosts D) (w : LaneWriter D) (generation : ℕ)
    (bodies : List (List ℕ)) : Type 0 where
  pub gate : ℕ
  pub stage : stage_of w ≡ Open generation gate
  pub place : ForSome (d.content (disk_of (is_odd generation) w))
      (λ bytes. gate ≡ length (lane_text generation (lane_of w) bodies))
  pub file : ForSome (d.content (disk_of (is_odd generation) w)) (IsLane generation (lane_of w) bodies)

-- So is every file that a crash now leaves.
pub record IsSettled {D : Type 0} (d : Ghosts D) (w : LaneWriter D) (generation : ℕ)
    (bodies : List (List ℕ)) : Type 0 where
  pub holds : Holds d w generation bodies
  pub crash : LeavesNow d (disk_of (is_odd generation) w) (IsLane generation (lane_of w) bodies)

-- the place of its gate, where a file is open, can still be added to
abbrev pub IsNear : {D : Type 0} → LaneWriter D → Type 0
IsNear w = (generation gate : ℕ) → stage_of w ≡ Open generation gate → gate ≤ 2 ^ 62

-- How a call ends that met no fault but on the file of this parity. No count of faults falls, and an Ok leaves
-- both. `Disk` names the file, whose count rose by exactly one, and is kept; `Closed` comes exactly after such a
-- fault, names the kept file and changes nothing.
pub record KeepsFault {D T : Type 0} (d : Ghosts D) (odd : Bool) (old new : LaneWriter D)
    (result : Result T LaneFault) : Type 0 where
  pub lane : lane_of new ≡ lane_of old
  pub later : (parity : Bool) → d.faults (disk_of parity old) ≤ d.faults (disk_of parity new)
  pub still : OnOk result ((parity : Bool) → d.faults (disk_of parity new) ≡ d.faults (disk_of parity old))
  pub disk : (file : FileName) → result ≡ Err (Disk file) → (file ≡ Lane (lane_of old) odd)
      × (d.faults (disk_of odd new) ≡ one_more (d.faults (disk_of odd old)))
      × (d.faults (disk_of (not odd) new) ≡ d.faults (disk_of (not odd) old))
      × (stage_of new ≡ Failed file)
  pub closed : (file : FileName) → (result ≡ Err (Closed file)) ↔ (stage_of old ≡ Failed file)
  pub unchanged : IsFailed old → new ≡ old
