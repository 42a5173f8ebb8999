-- What the change calls of a disk in memory have made of the bytes that it began with.
use Rattle.std.specs.Prelude.{◌≡◌, ◌⊎◌, ℕ, ◌≤◌, List, [], ◌∷◌, length}
use Rattle.disk_core.specs.Device.{written}
use Rattle.disk_core.specs.Crash.{Tears}

-- a change call: a write that succeeded, one that failed after it had
-- begun on a disk of that size, a sync that succeeded, or one that failed
pub data Change : Type 0 where
  Wrote : (at : ℕ) (bytes : List ℕ) → Change
  Tried : (at : ℕ) (bytes : List ℕ) (size : ℕ) → Change
  Synced : Change
  TriedSync : Change

-- what a read gives after these calls, the latest of which comes first
abbrev pub content_after : List ℕ → List Change → List ℕ
content_after initial [] = initial
content_after initial (Wrote at bytes ∷ earlier) = written at bytes (content_after initial earlier)
content_after initial (Tried at bytes size ∷ earlier) = content_after initial earlier
content_after initial (Synced ∷ earlier) = content_after initial earlier
content_after initial (TriedSync ∷ earlier) = content_after initial earlier

-- what a crash after these calls may leave; a write that failed makes no image longer than the disk reads
abbrev pub MayLeave : List ℕ → List Change → List ℕ → Type 0
MayLeave initial [] image = image ≡ initial
MayLeave initial (Wrote at bytes ∷ earlier) image =
    (image ≡ written at bytes (content_after initial earlier))
    ⊎ ((before : List ℕ) × MayLeave initial earlier before × Tears at bytes before image)
MayLeave initial (Tried at bytes size ∷ earlier) image =
    (before : List ℕ) × MayLeave initial earlier before × Tears at bytes before image
    × (length image ≤ length (content_after initial earlier))
MayLeave initial (Synced ∷ earlier) image = image ≡ content_after initial earlier
MayLeave initial (TriedSync ∷ earlier) image = MayLeave initial earlier image

-- what a crash may have left now, or at an earlier moment since the first t calls were made
abbrev pub LeftSince : List ℕ → ℕ → List Change → List ℕ → Type 0
LeftSince initial t [] image = MayLeave initial [] image
LeftSince initial t (change ∷ earlier) image =
    MayLeave initial (change ∷ earlier) image ⊎ ((t ≤ length earlier) × LeftSince initial t earlier image)
