-- What a crash at one moment leaves of several disks together.
use Rattle.std.specs.Prelude.{ℕ, List, [], ◌∷◌, IsSome, ⊤}
use Rattle.std.specs.List.{AllByRecursion}
use Rattle.disk_core.specs.declared.disk.Disk.{Ghosts}
use Rattle.disk_core.specs.Moments.{LeavesOnly}

module _ {D : Type 0} (d : Ghosts D) where
  -- there is an image for each disk, one that a crash now may leave of it
  abbrev pub MayLeaveEach : List D → List (List ℕ) → Type 0
  MayLeaveEach [] [] = ⊤
  MayLeaveEach [] (image ∷ images) = ⊥
  MayLeaveEach (disk ∷ disks) [] = ⊥
  MayLeaveEach (disk ∷ disks) (image ∷ images) = d.may_leave disk image × MayLeaveEach disks images

  -- The contents are known, and the files that a crash now leaves have P together.
  pub record LeaveTogether (disks : List D) (P : List (List ℕ) → Type 0) : Type 0 where
    pub told : AllByRecursion (λ disk. IsSome (d.content disk)) disks
    pub each : (images : List (List ℕ)) → MayLeaveEach disks images → P images

  -- A crash at any moment since old of one disk, while others aren't called, leaves files that have P together.
  abbrev pub LeavesBeside : D → D → List D → (List (List ℕ) → Type 0) → Type 0
  LeavesBeside old new others P =
      LeavesOnly d old new (λ image. (images : List (List ℕ)) → MayLeaveEach others images → P (image ∷ images))
