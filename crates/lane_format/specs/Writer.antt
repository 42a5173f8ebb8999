-- What a lane writer knows of its file, and how its calls fail.
use Rattle.std.specs.Prelude.{◌≡◌, ◌↔◌, ℕ, ◌%◌, ◌<◌, ◌≤◌, ◌^◌, false, List, length, Result, Err, OnOk}
use Rattle.std.specs.Option.{ForSome}
use Rattle.base_types.specs.Causes.{one_more}
use Rattle.disk_core.specs.declared.disk.Disk.{Ghosts}
use Rattle.disk_core.specs.declared.store.FileName.{FileName}
use Rattle.disk_core.specs.declared.store.FileName.TheVariants.{Lane}
use Rattle.disk_core.specs.Moments.{LeavesNow}
use Rattle.lane_format.specs.Lane.{lane_text, IsLane}
use Rattle.lane_format.specs.declared.writer.LaneFault.{LaneFault}
use Rattle.lane_format.specs.declared.writer.LaneFault.TheVariants.{Disk, Closed}
use Rattle.lane_format.specs.declared.writer.LaneWriter.{LaneWriter}
use Rattle.lane_format.specs.declared.writer.Stage.{Stage}
use Rattle.lane_format.specs.declared.writer.Stage.TheVariants.{Shut, Open, Failed}

-- the writer's disk
abbrev pub disk_of : {D : Type 0} → LaneWriter D → D
disk_of w = w.disk

-- the number of its lane
abbrev pub lane_of : {D : Type 0} → LaneWriter D → ℕ
lane_of w = w.lane

-- how far it has come with its file
abbrev pub stage_of : {D : Type 0} → LaneWriter D → Stage
stage_of w = w.stage

-- the lane's file of even generations
abbrev pub even_file : ℕ → FileName
even_file lane = Lane lane false

-- its disk failed in an earlier call
abbrev pub IsFailed : {D : Type 0} → LaneWriter D → Type 0
IsFailed w = (file : FileName) × (stage_of w ≡ Failed file)

-- it has closed its file, where there now is a gate, for a lane of this generation
pub record IsShut {D : Type 0} (d : Ghosts D) (w : LaneWriter D) (generation : ℕ) : Type 0 where
  pub stage : stage_of w ≡ Shut generation
  pub gate : ForSome (d.content (disk_of w)) (λ bytes. 0 < length bytes)

-- its file, that of even generations, is an open lane of this
-- generation with these batches, and it stands at the gate behind them
pub record Holds {D : Type 0} (d : Ghosts D) (w : LaneWriter D) (generation : ℕ)
    (bodies : List (List ℕ)) : Type 0 where
  pub even : generation % 2 ≡ 0
  pub gate : ℕ
  pub stage : stage_of w ≡ Open generation gate
  pub place : ForSome (d.content (disk_of w))
      (λ bytes. gate ≡ length (lane_text generation (lane_of w) bodies))
  pub file : ForSome (d.content (disk_of w)) (IsLane generation (lane_of w) bodies)

-- Its file is an open lane of this generation with these
-- batches, and so is every file that a crash now leaves.
pub record IsSettled {D : Type 0} (d : Ghosts D) (w : LaneWriter D) (generation : ℕ)
    (bodies : List (List ℕ)) : Type 0 where
  pub holds : Holds d w generation bodies
  pub crash : LeavesNow d (disk_of w) (IsLane generation (lane_of w) bodies)

-- the place of its gate, where its file is open, can still be added to
abbrev pub IsNear : {D : Type 0} → LaneWriter D → Type 0
IsNear w = (generation gate : ℕ) → stage_of w ≡ Open generation gate → gate ≤ 2 ^ 62

-- How a call ends: an Ok leaves the count of faults; `Disk` names its file, whose count rose by exactly
-- one, and is kept; `Closed` comes exactly after such a fault, names the kept file and changes nothing.
pub record KeepsFault {D T : Type 0} (d : Ghosts D) (old new : LaneWriter D)
    (result : Result T LaneFault) : Type 0 where
  pub lane : lane_of new ≡ lane_of old
  pub later : d.faults (disk_of old) ≤ d.faults (disk_of new)
  pub still : OnOk result (d.faults (disk_of new) ≡ d.faults (disk_of old))
  pub disk : (file : FileName) → result ≡ Err (Disk file) → (file ≡ even_file (lane_of old))
      × (d.faults (disk_of new) ≡ one_more (d.faults (disk_of old))) × (stage_of new ≡ Failed file)
  pub closed : (file : FileName) → (result ≡ Err (Closed file)) ↔ (stage_of old ≡ Failed file)
  pub unchanged : IsFailed old → new ≡ old
