-- What a lane file reads as, as a whole.
use Rattle.std.specs.Prelude.{◌≡◌, ◌≢◌, ◌⊎◌, ℕ, ◌+◌, ◌%◌, ◌<◌, ◌≤◌, Bool, if◌then◌else◌, List, [], ◌∷◌, ◌++◌}
use Rattle.std.specs.Prelude.{length, take, drop, Option, None, Some, Result, Ok, Err}
use Rattle.std.specs.List.{AllByRecursion, flat_map}
use Rattle.std.specs.Int.{w16, w64, from_le_bytes}
use Rattle.lane_format.specs.Lane.{IsBody, IsNotOpen, IsOpen, batch_text}
use Rattle.lane_format.specs.declared.head.Head.{Head}
use Rattle.lane_format.specs.declared.head.Head.TheVariants as head
use Rattle.lane_format.specs.declared.segment.Batch.{Batch}
use Rattle.lane_format.specs.declared.segment.Segment.{Segment}
use Rattle.lane_format.specs.declared.segment.LaneReadFault.{LaneReadFault}
use Rattle.lane_format.specs.declared.segment.LaneReadFault.TheVariants.{Disk, Damaged, OutOfMemory}

-- the generation that the head of a file says
abbrev pub generation_in : List ℕ → ℕ
generation_in bytes = from_le_bytes w64 (take 8 (drop 1 bytes))

-- the number of the lane that the head of a file says
abbrev pub lane_in : List ℕ → ℕ
lane_in bytes = from_le_bytes w16 (take 2 (drop 9 bytes))

-- a generation of the file of odd ones, or of even ones; 0 is none
abbrev pub IsOfFile : Bool → ℕ → Type 0
IsOfFile odd generation = (1 ≤ generation) × (generation % 2 ≡ (if odd then 1 else 0))

-- the file begins with the head of this lane
pub record HasHead (odd : Bool) (lane : ℕ) (bytes : List ℕ) : Type 0 where
  pub long : 11 ≤ length bytes
  pub generation : IsOfFile odd (generation_in bytes)
  pub lane_is : lane_in bytes ≡ lane

-- behind the head stand these batches, and then the rest
pub record HasBatches (bodies : List (List ℕ)) (rest bytes : List ℕ) : Type 0 where
  pub fit : AllByRecursion IsBody bodies
  pub text : drop 11 bytes ≡ flat_map batch_text bodies ++ rest

-- at an open gate no batch stands: its length is 0, or it goes past the end
pub record LacksBatch (rest : List ℕ) : Type 0 where
  pub gate : IsOpen rest
  pub none : (body behind : List ℕ) → IsBody body → rest ≢ batch_text body ++ behind

-- bodies with their places in the file, from a gate on
abbrev pub placed : ℕ → List (List ℕ) → List Batch
placed gate [] = []
placed gate (body ∷ bodies) = record { at = gate + 5; body = body } ∷ placed (gate + 5 + length body) bodies

-- the head of an open file isn't that of this lane's file, and this is the first place at which it isn't
pub data LacksHead (odd : Bool) (lane : ℕ) (bytes : List ℕ) (at : ℕ) : Type 0 where
  Short : length bytes < 11 → at ≡ 0 → LacksHead odd lane bytes at
  OtherGeneration : 11 ≤ length bytes → ¬ (IsOfFile odd (generation_in bytes)) → at ≡ 1
      → LacksHead odd lane bytes at
  OtherLane : 11 ≤ length bytes → IsOfFile odd (generation_in bytes) → lane_in bytes ≢ lane → at ≡ 9
      → LacksHead odd lane bytes at

-- the first place at which an open file isn't what a lane file holds
pub data IsDamaged (odd : Bool) (lane : ℕ) (bytes : List ℕ) (at : ℕ) : Type 0 where
  InHead : LacksHead odd lane bytes at → IsDamaged odd lane bytes at
  NoBatch : (bodies : List (List ℕ)) (rest : List ℕ) → HasHead odd lane bytes → HasBatches bodies rest bytes
      → LacksBatch rest → at ≡ 11 + length (flat_map batch_text bodies) → IsDamaged odd lane bytes at

-- what the head of a file reads as: damage in it, or that of this lane's file with its generation
abbrev pub head_reads : Bool → ℕ → List ℕ → Head → Type 0
head_reads odd lane bytes head.NotOpen = IsNotOpen bytes
head_reads odd lane bytes (head.Damaged at) = IsOpen bytes × LacksHead odd lane bytes at
head_reads odd lane bytes (head.Open generation) =
    IsOpen bytes × HasHead odd lane bytes × (generation ≡ generation_in bytes)

-- the file is whole: behind these batches stands a gate that isn't open, or the file ends
pub record IsWhole (odd : Bool) (lane : ℕ) (bytes : List ℕ) (generation : ℕ)
    (batches : List Batch) : Type 0 where
  pub bodies : List (List ℕ)
  pub rest : List ℕ
  pub head : HasHead odd lane bytes
  pub generation_is : generation ≡ generation_in bytes
  pub text : HasBatches bodies rest bytes
  pub end : IsNotOpen rest
  pub batches_are : batches ≡ placed 11 bodies

-- what a lane file reads as
pub data LaneRead : Type 0 where
  NotOpen : LaneRead
  DamagedAt : (at : ℕ) → LaneRead
  Holding : (generation : ℕ) (batches : List Batch) → LaneRead

-- the file of a lane, that of odd generations or that of even ones, reads as that
abbrev pub lane_reads : Bool → ℕ → List ℕ → LaneRead → Type 0
lane_reads odd lane bytes NotOpen = IsNotOpen bytes
lane_reads odd lane bytes (DamagedAt at) = IsOpen bytes × IsDamaged odd lane bytes at
lane_reads odd lane bytes (Holding generation batches) =
    IsOpen bytes × IsWhole odd lane bytes generation batches

-- what the result of a reading says that the file reads as: none where the disk failed or memory ran out
abbrev pub read_as : Result (Option Segment) LaneReadFault → Option LaneRead
read_as (Ok None) = Some NotOpen
read_as (Ok (Some segment)) = Some (Holding segment.generation segment.batches)
read_as (Err (Damaged file at)) = Some (DamagedAt at)
read_as (Err (Disk file)) = None
read_as (Err OutOfMemory) = None

-- A file whose head reads so is read whole as something that agrees with it: it isn't open or is damaged in its
-- head likewise, or it has that generation, whole or damaged behind its head.
abbrev pub AgreesWith : Head → LaneRead → Type 0
AgreesWith head.NotOpen read = read ≡ NotOpen
AgreesWith (head.Damaged at) read = (at < 11) × (read ≡ DamagedAt at)
AgreesWith (head.Open generation) read = ((batches : List Batch) × (read ≡ Holding generation batches))
    ⊎ ((at : ℕ) × (11 ≤ at) × (read ≡ DamagedAt at))
