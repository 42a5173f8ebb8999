-- The change calls by which a lane's file is closed, reset and extended.
use Rattle.std.specs.Prelude.{ℕ, ◌+◌, List, [], ◌∷◌, ◌++◌, Result}
use Rattle.std.specs.Int.{w16, w64, to_le_bytes}
use Rattle.disk_core.specs.ChangeCalls.{ChangeCall, Made, SyncCall, WriteCall}
use Rattle.disk_core.specs.declared.disk.Disk.{Ghosts}
use Rattle.lane_format.specs.Writer.{IsFailed, disk_of}
use Rattle.lane_format.specs.declared.writer.LaneFault.{LaneFault}
use Rattle.lane_format.specs.declared.writer.LaneWriter.{LaneWriter}

-- the gate is closed
abbrev pub close_calls : List ChangeCall
close_calls = WriteCall 0 (0 ∷ []) ∷ SyncCall ∷ []

-- generation, lane and a closed first gate are written, and then the file's gate is opened
abbrev pub reset_calls : ℕ → ℕ → List ChangeCall
reset_calls generation lane =
    WriteCall 1 (to_le_bytes w64 generation ++ to_le_bytes w16 lane ++ 0 ∷ []) ∷ SyncCall
    ∷ WriteCall 0 (1 ∷ []) ∷ SyncCall ∷ []

-- a frame is written behind the gate, and then the gate is opened
abbrev pub append_calls : ℕ → List ℕ → List ChangeCall
append_calls gate frame = WriteCall (gate + 1) frame ∷ SyncCall ∷ WriteCall gate (1 ∷ []) ∷ SyncCall ∷ []

-- where the writer's disk hadn't failed before, a call of the writer made the calls of this plan, or those up
-- to the one that failed
abbrev pub Carries : {D T : Type 0} → Ghosts D → LaneWriter D → LaneWriter D → List ChangeCall
    → Result T LaneFault → Type 0
Carries d old new plan result =
    ¬ (IsFailed old) → Made plan result (d.calls (disk_of old)) (d.calls (disk_of new))
