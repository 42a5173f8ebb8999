-- What holds of every history.
use Rattle.std.specs.Prelude.{◌≡◌, ℕ, List, [], ◌∷◌, length, Some, refl}
use Rattle.std.specs.Option.{ForSome}
use Rattle.std.proofs.Common.{inl, inr, subst, arith}
use Rattle.disk_core.specs.Crash.{Tears}
use Rattle.disk_core.specs.History.{Change, Wrote, Tried, Synced, TriedSync, content_after, MayLeave}
use Rattle.disk_core.specs.History.{LeftSince}

-- a crash may leave nothing of a write
pub nothing_torn : (at : ℕ) (bytes image : List ℕ) → Tears at bytes image image
nothing_torn at bytes image = record {
  torn = record { before = refl; after = refl; no_shorter = omega arith; no_longer = omega arith };
  alone = λ byte one. inr refl;
}

-- a crash may leave the bytes as they read
pub reads_left : (initial : List ℕ) (calls : List Change)
    → MayLeave initial calls (content_after initial calls)
reads_left initial [] = refl
reads_left initial (Wrote at bytes ∷ earlier) = inl refl
reads_left initial (Tried at bytes size ∷ earlier) = (
  content_after initial earlier,
  reads_left initial earlier,
  nothing_torn at bytes
      (content_after initial earlier),
  omega arith,
)
reads_left initial (Synced ∷ earlier) = refl
reads_left initial (TriedSync ∷ earlier) = reads_left initial earlier

-- the same of an option
pub as_read : (initial : List ℕ) (calls : List Change)
    → ForSome (Some (content_after initial calls)) (MayLeave initial calls)
as_read initial calls image is =
    let same : content_after initial calls ≡ image = cc in
    subst (λ bytes. MayLeave initial calls bytes) same (reads_left initial calls)

-- a crash now is one of those since an earlier moment
pub now_since : (initial : List ℕ) (t : ℕ) (calls : List Change) (image : List ℕ)
    → MayLeave initial calls image → LeftSince initial t calls image
now_since initial t [] image left = left
now_since initial t (change ∷ earlier) image left = inl left

-- since the last call there is no moment but now
pub since_now : (initial : List ℕ) (calls : List Change) (image : List ℕ)
    → LeftSince initial (length calls) calls image → MayLeave initial calls image
since_now initial [] image left = left
since_now initial (change ∷ earlier) image (inl left) = left
since_now initial (change ∷ earlier) image (inr before) = absurd (omega (arith, before.0))
