-- What a run of calls on a disk leaves at its moments. A disk is told by the record of its ghost members.
use Rattle.std.specs.Prelude.{◌≡◌, ◌⊎◌, ℕ, ◌≤◌, List, IsSome}
use Rattle.disk_core.specs.declared.disk.Disk.{Ghosts}
use Rattle.disk_core.specs.Crash.{NoneNew}

-- A crash at any moment since old leaves an image that has P.
pub record LeavesOnly {D : Type 0} (d : Ghosts D) (old new : D) (P : List ℕ → Type 0) : Type 0 where
  pub later : d.moment old ≤ d.moment new
  pub each : (image : List ℕ) → d.left_since new (d.moment old) image → P image
  -- for a run that began earlier
  pub before : (t : ℕ) (image : List ℕ) → t ≤ d.moment old → d.left_since new t image
      → d.left_since old t image ⊎ P image

-- The disk was only read: its bytes are the same, no change was called for, a crash at any
-- moment leaves what it might have left before, and the count of faults has not fallen.
pub record OnlyReads {D : Type 0} (d : Ghosts D) (old new : D) : Type 0 where
  pub same : d.content new ≡ d.content old
  pub calls : d.calls new ≡ d.calls old
  pub none_new : NoneNew (d.may_leave old) (d.may_leave new)
  pub moments : LeavesOnly d old new (d.may_leave old)
  pub later : d.faults old ≤ d.faults new

-- The content is known, and every crash now leaves a file that has P.
pub record LeavesNow {D : Type 0} (d : Ghosts D) (disk : D) (P : List ℕ → Type 0) : Type 0 where
  pub told : IsSome (d.content disk)
  pub each : (image : List ℕ) → d.may_leave disk image → P image
