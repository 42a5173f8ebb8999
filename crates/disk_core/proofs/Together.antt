-- What a crash leaves of several disks together, from what it leaves of each.
use Rattle.std.specs.Prelude.{◌≡◌, ◌≤◌, ℕ, List, [], ◌∷◌, IsSome, ⊤}
use Rattle.std.specs.List.{AllByRecursion}
use Rattle.disk_core.specs.declared.disk.Disk.{Ghosts}
use Rattle.disk_core.specs.Moments.{LeavesNow}
use Rattle.disk_core.specs.Together.{LeavesBeside, LeaveTogether, MayLeaveEach}

module _ {D : Type 0} (d : Ghosts D) where
  -- of no disk
  pub together_none : (P : List (List ℕ) → Type 0) → P [] → LeaveTogether d [] P
  together_none P nothing = record { told = tt; each = each }
    where
      each : (images : List (List ℕ)) → MayLeaveEach d [] images → P images
      each [] left = nothing
      each (image ∷ images) left = absurd left

  -- of one disk more
  pub together_more : (disk : D) (disks : List D) (P : List (List ℕ) → Type 0) → AllByRecursion (λ other. IsSome (d.content other)) disks
      → LeavesNow d disk (λ image. (images : List (List ℕ)) → MayLeaveEach d disks images → P (image ∷ images)) → LeaveTogether d (disk ∷ disks) P
  together_more disk disks P told now = record { told = (now.told, told); each = each }
    where
      each : (images : List (List ℕ)) → MayLeaveEach d (disk ∷ disks) images → P images
      each [] left = absurd left
      each (image ∷ images) left = now.each image left.0 images left.1

  -- the images of the first, whatever is left of the others
  pub first_of : (disk : D) (disks : List D) (P : List (List ℕ) → Type 0) → LeaveTogether d (disk ∷ disks) P
      → LeavesNow d disk (λ image. (images : List (List ℕ)) → MayLeaveEach d disks images → P (image ∷ images))
  first_of disk disks P leave = record { told = leave.told.0; each = λ image left images others. leave.each (image ∷ images) (left, others) }

  -- with less said of the files
  pub together_weaker : (disks : List D) (P Q : List (List ℕ) → Type 0) → ((images : List (List ℕ)) → P images → Q images)
      → LeaveTogether d disks P → LeaveTogether d disks Q
  together_weaker disks P Q follows leave = record { told = leave.told; each = λ images left. follows images (leave.each images left) }

  -- what is left at each moment of a run is left at its end
  pub at_end : ((disk : D) (t : ℕ) (image : List ℕ) → t ≤ d.moment disk → d.may_leave disk image → d.left_since disk t image)
      → (old new : D) (others : List D) (P : List (List ℕ) → Type 0) → AllByRecursion (λ disk. IsSome (d.content disk)) (new ∷ others)
      → LeavesBeside d old new others P → LeaveTogether d (new ∷ others) P
  at_end counts_now old new others P told run = together_more new others P told.1 record {
    told = told.0;
    each = λ image left. run.each image (counts_now new (d.moment old) image run.later left);
  }
