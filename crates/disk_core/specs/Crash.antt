-- What a crash may leave of a disk, and how that changes from call to call.
use Rattle.std.specs.Prelude.{◌≡◌, ◌⊎◌, ℕ, ◌≤◌, List, [], ◌∷◌, length, slice_index, Option}
use Rattle.std.specs.Option.{ForSome}
use Rattle.disk_core.specs.Device.{Torn}

-- a byte that is written alone is that byte or what stood there, 0 past the end
abbrev pub AloneWrite : ℕ → ℕ → List ℕ → List ℕ → Type 0
AloneWrite at byte old new = (slice_index new at ≡ byte) ⊎ (slice_index new at ≡ slice_index old at)

-- What a crash leaves of a write: any bytes in its range, but of a single byte
-- that one or what stood there. An image that ends before the range stays.
pub record Tears (at : ℕ) (bytes old new : List ℕ) : Type 0 where
  pub torn : Torn at (length bytes) old new
  pub alone : (byte : ℕ) → bytes ≡ byte ∷ [] → AloneWrite at byte old new

-- each new image comes from an old one by a step
abbrev pub Follows : (List ℕ → List ℕ → Type 0) → (List ℕ → Type 0) → (List ℕ → Type 0) → Type 0
Follows step old new = (image : List ℕ) → new image → (before : List ℕ) × old before × step before image

-- each new image is an old one
abbrev pub NoneNew : (List ℕ → Type 0) → (List ℕ → Type 0) → Type 0
NoneNew old new = (image : List ℕ) → new image → old image

-- a crash leaves these bytes and nothing else
abbrev pub Only : List ℕ → (List ℕ → Type 0) → Type 0
Only bytes may_leave = (image : List ℕ) → may_leave image → image ≡ bytes

-- nothing is pending: where the content is known, a crash leaves what a read gives
abbrev pub NothingPending : Option (List ℕ) → (List ℕ → Type 0) → Type 0
NothingPending content may_leave = ForSome content (λ bytes. Only bytes may_leave)

-- Time passes: a crash since a moment might have left what it might have left before, or what it may leave
-- now.
pub record Elapses (old new : ℕ) (left_old left_new : ℕ → List ℕ → Type 0)
    (may_leave : List ℕ → Type 0) : Type 0 where
  pub later : old ≤ new
  pub nothing_else : (t : ℕ) (image : List ℕ) → t ≤ old → left_new t image → left_old t image
      ⊎ may_leave image
  pub keeps : (t : ℕ) (image : List ℕ) → t ≤ old → left_old t image → left_new t image
