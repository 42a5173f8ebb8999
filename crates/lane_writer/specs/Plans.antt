-- The change calls by which a lane's file is closed, reset and extended.
use Rattle.std.specs.Prelude.{◌≡◌, ◌⊎◌, ℕ, ◌+◌, Bool, true, false, List, [], ◌∷◌, ◌++◌, Result, Ok, Err, IsOk}
use Rattle.std.specs.Int.{w16, w64, to_le_bytes}
use Rattle.disk_core.specs.ChangeCalls.{ChangeCall, Made, SyncCall, WriteCall}
use Rattle.disk_core.specs.declared.disk.Disk.{Ghosts}
use Rattle.disk_core.specs.declared.store.FileName.TheVariants.{Lane}
use Rattle.lane_writer.specs.Writer.{IsFailed, disk_of, lane_of}
use Rattle.lane_writer.specs.declared.fault.LaneFault.{LaneFault}
use Rattle.lane_writer.specs.declared.fault.LaneFault.TheVariants.{Disk}
use Rattle.lane_writer.specs.declared.writer.LaneWriter.{LaneWriter}

-- the gate is closed
abbrev pub close_calls : List ChangeCall
close_calls = WriteCall 0 (0 ∷ []) ∷ SyncCall ∷ []

-- generation, lane and a closed first gate are written, and then the file's gate is opened
abbrev pub reset_calls : ℕ → ℕ → List ChangeCall
reset_calls generation lane =
    WriteCall 1 (to_le_bytes w64 generation ++ to_le_bytes w16 lane ++ 0 ∷ []) ∷ SyncCall
    ∷ WriteCall 0 (1 ∷ []) ∷ SyncCall ∷ []

-- a frame is written behind the gate, and then the gate is opened
abbrev pub append_calls : ℕ → List ℕ → List ChangeCall
append_calls gate frame = WriteCall (gate + 1) frame ∷ SyncCall ∷ WriteCall gate (1 ∷ []) ∷ SyncCall ∷ []

-- where no disk had failed before, a call of the writer made the calls of this plan on the file of that
-- parity, or those up to the one that failed
abbrev pub Carries : {D T : Type 0} → Ghosts D → Bool → LaneWriter D → LaneWriter D → List ChangeCall
    → Result T LaneFault → Type 0
Carries d odd old new plan result =
    ¬ (IsFailed old) → Made plan result (d.calls (disk_of odd old)) (d.calls (disk_of odd new))

-- the call is done with the file of that parity: the file of odd generations comes last
abbrev pub IsBlanked : {D T : Type 0} → Bool → LaneWriter D → Result T LaneFault → Type 0
IsBlanked true old result = IsOk result
IsBlanked false old result = IsOk result ⊎ (result ≡ Err (Disk (Lane (lane_of old) true)))

-- The even file was closed, and then the odd one. Where the even one failed the odd one wasn't called.
pub data BlanksInOrder {D T : Type 0} (d : Ghosts D) (old new : LaneWriter D)
    (result : Result T LaneFault) : Type 0 where
  EvenFailed : result ≡ Err (Disk (Lane (lane_of old) false)) → disk_of true new ≡ disk_of true old
      → Made close_calls result (d.calls (disk_of false old)) (d.calls (disk_of false new))
      → BlanksInOrder d old new result
  EvenClosed : IsBlanked false old result
      → ((done : T) → Made {E = LaneFault} close_calls (Ok done) (d.calls (disk_of false old)) (d.calls (disk_of false new)))
      → Made close_calls result (d.calls (disk_of true old)) (d.calls (disk_of true new))
      → BlanksInOrder d old new result
