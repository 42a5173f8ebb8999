-- How a batch is forced.
use Rattle.std.specs.Prelude.{◌≡◌, ℕ, ◌+◌, List, [], ◌∷◌, ◌++◌, length, Result, OnOk}
use Rattle.disk_core.specs.declared.disk.Disk.{Ghosts}
use Rattle.disk_core.specs.Moments.{LeavesNow, LeavesOnly}
use Rattle.lane_format.specs.Crash.{WithOrWithout}
use Rattle.lane_format.specs.Lane.{frame_text}
use Rattle.lane_format.specs.Plans.{Carries, append_calls}
use Rattle.lane_format.specs.Writer.{Holds, IsSettled, KeepsFault, disk_of, lane_of, stage_of}
use Rattle.lane_format.specs.declared.writer.LaneFault.{LaneFault}
use Rattle.lane_format.specs.declared.writer.LaneWriter.{LaneWriter}
use Rattle.lane_format.specs.declared.writer.Stage.TheVariants.{Open}

-- a call of the writer appended a batch with this body, with this result
pub record Forces {D : Type 0} (d : Ghosts D) (body : List ℕ) (old new : LaneWriter D)
    (result : Result (Unit {0}) LaneFault) : Type 0 where
  -- what the file holds after it
  pub appended : OnOk result ((generation : ℕ) (bodies : List (List ℕ)) → Holds d old generation bodies
      → Holds d new generation (bodies ++ body ∷ []))
  pub stage : OnOk result ((generation gate : ℕ) → stage_of old ≡ Open generation gate
      → stage_of new ≡ Open generation (gate + (5 + length body)))
  -- what was called, and how it ended
  pub calls : (generation gate : ℕ) → stage_of old ≡ Open generation gate
      → Carries d old new (append_calls gate (frame_text body)) result
  pub fault : KeepsFault d old new result
  -- a crash at any moment of the call, or after it, leaves the batches from before, with this one or without
  pub moments : (generation : ℕ) (bodies : List (List ℕ)) → IsSettled d old generation bodies
      → LeavesOnly d (disk_of old) (disk_of new) (WithOrWithout generation (lane_of old) bodies body)
  pub crash : (generation : ℕ) (bodies : List (List ℕ)) → IsSettled d old generation bodies
      → LeavesNow d (disk_of new) (WithOrWithout generation (lane_of old) bodies body)
  pub durable : OnOk result ((generation : ℕ) (bodies : List (List ℕ)) → IsSettled d old generation bodies
      → IsSettled d new generation (bodies ++ body ∷ []))
