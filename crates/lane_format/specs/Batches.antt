-- A lane file, batch by batch: what stands at a gate, and how far the file was read.
use Rattle.std.specs.Prelude.{◌≡◌, ℕ, ◌+◌, List, ◌++◌, length, take, drop}
use Rattle.std.specs.List.{flat_map}
use Rattle.lane_format.specs.Lane.{IsBody, IsNotOpen, batch_text}
use Rattle.lane_format.specs.LaneRead.{HasBatches, LacksBatch, placed}
use Rattle.lane_format.specs.declared.gate.AtGate.{AtGate}
use Rattle.lane_format.specs.declared.gate.AtGate.TheVariants.{Body, Broken, End}
use Rattle.lane_format.specs.declared.segment.Batch.{Batch}

-- a batch with a body of so many bytes stands there, and then the rest of the file
pub record HasBatch (len : ℕ) (rest : List ℕ) : Type 0 where
  pub body : List ℕ
  pub behind : List ℕ
  pub fits : IsBody body
  pub len_is : len ≡ length body
  pub text : rest ≡ batch_text body ++ behind

-- what the rest of a file has at the gate with which it begins
abbrev pub stands : List ℕ → AtGate → Type 0
stands rest End = IsNotOpen rest
stands rest (Body len) = HasBatch len rest
stands rest Broken = LacksBatch rest

-- the batch of the file behind that gate, with a body of so many bytes
abbrev pub batch_at : List ℕ → ℕ → ℕ → Batch
batch_at bytes gate len = record { at = gate + 5; body = take len (drop (gate + 5) bytes) }

-- these batches stand behind the head, up to the gate
pub record ReadTo (bytes : List ℕ) (batches : List Batch) (gate : ℕ) : Type 0 where
  pub bodies : List (List ℕ)
  pub text : HasBatches bodies (drop gate bytes) bytes
  pub place : gate ≡ 11 + length (flat_map batch_text bodies)
  pub batches_are : batches ≡ placed 11 bodies
