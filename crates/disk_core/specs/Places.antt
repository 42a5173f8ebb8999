-- What a crash may leave after the change calls of a disk in memory, place by place: what a byte may hold.
use Rattle.std.specs.Prelude.{◌≡◌, ◌⊎◌, ℕ, zero, suc, ◌+◌, ◌%◌, ◌≤◌, Bool, true, false, not, ◌&&◌, ◌||◌, ◌==◌}
use Rattle.std.specs.Prelude.{nat_le, nat_lt, if◌then◌else◌, List, [], ◌∷◌, length, slice_index, IsTrue, ⊤}
use Rattle.disk_core.specs.History.{Change, Wrote, Tried, Synced, TriedSync, content_after}

-- what a read gave at the last sync
abbrev pub at_sync : List ℕ → List Change → List ℕ
at_sync initial [] = initial
at_sync initial (Wrote at bytes ∷ earlier) = at_sync initial earlier
at_sync initial (Tried at bytes size ∷ earlier) = at_sync initial earlier
at_sync initial (Synced ∷ earlier) = content_after initial earlier
at_sync initial (TriedSync ∷ earlier) = at_sync initial earlier

-- whether a place is one of the n from another on
abbrev pub is_in_range : ℕ → ℕ → ℕ → Bool
is_in_range at n place = nat_le at place && nat_lt place (at + n)

-- whether a write of these bytes may leave that one in its range: of a single byte only this, else any
abbrev pub is_left_of : List ℕ → ℕ → Bool
is_left_of (byte ∷ []) left = byte == left
is_left_of bytes left = true

-- whether a write since the last sync wrote this place
abbrev pub is_written : List Change → ℕ → Bool
is_written [] place = false
is_written (Wrote at bytes ∷ earlier) place = is_in_range at (length bytes) place || is_written earlier place
is_written (Tried at bytes size ∷ earlier) place =
    is_in_range at (length bytes) place && nat_lt place size || is_written earlier place
is_written (Synced ∷ earlier) place = false
is_written (TriedSync ∷ earlier) place = is_written earlier place

-- whether such a write may have left this byte there
abbrev pub is_left : List Change → ℕ → ℕ → Bool
is_left [] place byte = false
is_left (Wrote at bytes ∷ earlier) place byte =
    is_in_range at (length bytes) place && is_left_of bytes byte || is_left earlier place byte
is_left (Tried at bytes size ∷ earlier) place byte =
    is_in_range at (length bytes) place && nat_lt place size && is_left_of bytes byte
    || is_left earlier place byte
is_left (Synced ∷ earlier) place byte = false
is_left (TriedSync ∷ earlier) place byte = is_left earlier place byte

-- a place may hold what it held at the last sync, 0 past the end then, or what a write since may have left
abbrev pub MayHold : List ℕ → List Change → ℕ → ℕ → Type 0
MayHold initial calls place byte =
    (byte ≡ slice_index (at_sync initial calls) place) ⊎ IsTrue (is_left calls place byte)

-- an image is as long as the disk was at the last sync, or
-- now, or between, and holds at each place what it may hold
pub record IsImage (initial : List ℕ) (calls : List Change) (image : List ℕ) : Type 0 where
  pub no_shorter : length (at_sync initial calls) ≤ length image
  pub no_longer : length image ≤ length (content_after initial calls)
  pub each : (place : ℕ) → MayHold initial calls place (slice_index image place)

-- each write begins within the disk of that moment
abbrev pub BeginInside : List ℕ → List Change → Type 0
BeginInside initial [] = ⊤
BeginInside initial (Wrote at bytes ∷ earlier) =
    (at ≤ length (content_after initial earlier)) × BeginInside initial earlier
BeginInside initial (Tried at bytes size ∷ earlier) =
    (at ≤ length (content_after initial earlier)) × (size ≡ length (content_after initial earlier))
    × BeginInside initial earlier
BeginInside initial (Synced ∷ earlier) = BeginInside initial earlier
BeginInside initial (TriedSync ∷ earlier) = BeginInside initial earlier

-- how many of the places below this one a write since the last sync wrote
abbrev pub written_below : List Change → ℕ → ℕ
written_below calls zero = 0
written_below calls (suc place) = written_below calls place + (if is_written calls place then 1 else 0)

-- the byte that a written place takes of a choice, which repeats
abbrev pub chosen_at : List Change → List ℕ → ℕ → ℕ
chosen_at calls choice place = slice_index choice (written_below calls place % length choice)

-- that byte where the place may hold it, else what it held at the last sync
abbrev pub chosen_or_synced : List ℕ → List Change → ℕ → ℕ → ℕ
chosen_or_synced synced calls place chosen =
    if chosen == slice_index synced place || is_left calls place chosen then chosen
    else slice_index synced place

-- what a place holds after a crash with a choice: what a read gave, if it wasn't written or nothing is chosen
abbrev pub crashed_byte : List ℕ → List ℕ → List Change → List ℕ → ℕ → ℕ
crashed_byte synced content calls choice place =
    if is_written calls place && not (length choice == 0)
    then chosen_or_synced synced calls place (chosen_at calls choice place) else slice_index content place

-- the bytes of an image at the places that were written, from this place on
abbrev pub choice_for : List Change → ℕ → List ℕ → List ℕ
choice_for calls place [] = []
choice_for calls place (byte ∷ rest) =
    if is_written calls place then byte ∷ choice_for calls (place + 1) rest
    else choice_for calls (place + 1) rest
