-- What a crash leaves of an area's file, at a moment of a call and after it.
use Rattle.std.specs.Prelude.{◌⊎◌, ℕ, List, IsSome}
use Rattle.disk_core.specs.declared.disk.Disk.{Ghosts}
use Rattle.disk_core.specs.Crash.{NothingPending, Tears}
use Rattle.disk_core.specs.Moments.{LeavesNow, LeavesOnly}
use Rattle.area_format.specs.Area.{Area, Holds, IsNotOpen}

-- what a crash might have left of the disk, or a file that isn't open
abbrev pub OldOrNotOpen : {D : Type 0} → Ghosts D → D → List ℕ → Type 0
OldOrNotOpen d disk bytes = d.may_leave disk bytes ⊎ IsNotOpen bytes

-- a file that isn't open, or one that holds this area
abbrev pub NotOpenOrHolds : Area → List ℕ → Type 0
NotOpenOrHolds area bytes = IsNotOpen bytes ⊎ Holds area bytes

-- what a crash leaves of a write to a disk of which it might have left these images
abbrev pub TornFrom : (List ℕ → Type 0) → ℕ → List ℕ → List ℕ → Type 0
TornFrom may_leave at written image = (before : List ℕ) × may_leave before × Tears at written before image

-- What a call leaves of a file. A crash at any moment of the call, or right after it, leaves a file that has P.
-- Once the call is done nothing is pending on it, and each crash leaves a file that has Q.
pub record Leaves {D : Type 0} (d : Ghosts D) (old new : D) (is_done : Type 0) (P Q : List ℕ → Type 0) : Type 0 where
  pub moments : LeavesOnly d old new P
  pub crash : IsSome (d.content old) → LeavesNow d new P
  pub pending : is_done → NothingPending (d.content new) (d.may_leave new)
  pub durable : is_done → IsSome (d.content old) → LeavesNow d new Q

-- A call opens no file, whatever its result: where no crash left an open file
-- before it, none leaves one at any moment of the call, or right after it.
pub record StaysShut {D : Type 0} (d : Ghosts D) (old new : D) : Type 0 where
  pub moments : LeavesNow d old IsNotOpen → LeavesOnly d old new IsNotOpen
  pub crash : LeavesNow d old IsNotOpen → LeavesNow d new IsNotOpen
