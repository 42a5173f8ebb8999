-- The text of a lane file: a head, batches one after the other, and behind them a gate that isn't open; and
-- when a file is open at all.
use Rattle.std.specs.Prelude.{◌≡◌, ◌≢◌, ℕ, ◌+◌, ◌-◌, ◌<◌, ◌≤◌, ◌^◌, List, [], ◌∷◌, ◌++◌, length, slice_index}
use Rattle.std.specs.Prelude.{take, drop}
use Rattle.std.specs.List.{AllByRecursion, flat_map}
use Rattle.std.specs.Int.{w16, w32, w64, to_le_bytes}

-- the file is open: its first byte is 1
abbrev pub IsOpen : List ℕ → Type 0
IsOpen bytes = slice_index bytes 0 ≡ 1

-- the file isn't open: its first byte is another, or it has none
abbrev pub IsNotOpen : List ℕ → Type 0
IsNotOpen bytes = ¬ (IsOpen bytes)

-- what a head may say: a generation of 64 bits that isn't 0, and a lane's number of 16 bits
pub record IsHead (generation lane : ℕ) : Type 0 where
  pub some : 1 ≤ generation
  pub fits : generation < 2 ^ 64
  pub lane_fits : lane < 2 ^ 16

-- a body has a byte or more, and its length fits 32 bits
abbrev pub IsBody : List ℕ → Type 0
IsBody body = (1 ≤ length body) × (length body < 2 ^ 32)

-- the head of an open file: an open gate, the generation and the lane's number
unfoldable pub header_text : ℕ → ℕ → List ℕ
header_text generation lane = 1 ∷ to_le_bytes w64 generation ++ to_le_bytes w16 lane

-- a batch: an open gate, the body's length and the body
unfoldable pub batch_text : List ℕ → List ℕ
batch_text body = 1 ∷ to_le_bytes w32 (length body) ++ body

-- an open lane file up to the end of its last batch
abbrev pub lane_text : ℕ → ℕ → List (List ℕ) → List ℕ
lane_text generation lane bodies = header_text generation lane ++ flat_map batch_text bodies

-- The file holds an open lane with these batches: the next gate is
-- there and isn't open, and what stands behind it doesn't count.
pub record IsLane (generation lane : ℕ) (bodies : List (List ℕ)) (bytes : List ℕ) : Type 0 where
  pub head : IsHead generation lane
  pub bodies_fit : AllByRecursion IsBody bodies
  pub gate : ℕ
  pub rest : List ℕ
  pub closed : gate ≢ 1
  pub text : bytes ≡ lane_text generation lane bodies ++ gate ∷ rest

-- the file with its gate closed
abbrev pub shut : List ℕ → List ℕ
shut bytes = 0 ∷ drop 1 bytes

-- the file as an open lane with no batch, over what stood in it
abbrev pub emptied : ℕ → ℕ → List ℕ → List ℕ
emptied generation lane bytes = header_text generation lane ++ 0 ∷ drop 12 bytes

-- the file with the gate at that place opened and a frame behind it
abbrev pub extended : ℕ → List ℕ → List ℕ → List ℕ
extended gate frame bytes = take gate bytes ++ 1 ∷ frame ++ drop (gate + 1 + length frame) bytes

-- the body in a frame: all but its first four bytes and its last one
abbrev pub body_of : List ℕ → List ℕ
body_of frame = take (length frame - 5) (drop 4 frame)

-- a frame whose first four bytes say how long its body is and whose last one is a closed gate
unfoldable pub frame_text : List ℕ → List ℕ
frame_text body = to_le_bytes w32 (length body) ++ body ++ 0 ∷ []
