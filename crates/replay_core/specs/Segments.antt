-- The records of a lane's file: those that its batches hold, and how far they were read.
use Rattle.std.specs.Prelude.{◌≡◌, ◌≢◌, ◌⊎◌, ℕ, ◌+◌, ◌-◌, ◌<◌, ◌≤◌, Bool, List, [], ◌∷◌, ◌++◌, length, take, drop}
use Rattle.std.specs.List.{AllByRecursion, flat_map}
use Rattle.xor_records.specs.Record.{Record, IsRecord, record_text}
use Rattle.lane_format.specs.Batches.{ReadTo, stands}
use Rattle.lane_format.specs.LaneRead.{Holding, lane_reads}
use Rattle.lane_format.specs.declared.gate.AtGate.TheVariants.{Body, Broken, End}
use Rattle.lane_format.specs.declared.segment.Batch.{Batch}

-- a record of a file, and the place at which it begins
pub record Placed : Type 0 where
  pub at : ℕ
  pub rec : Record

-- these records one after the other, with their places from that one on
abbrev pub items_from : ℕ → List Record → List Placed
items_from at [] = []
items_from at (rec ∷ records) =
    record { at = at; rec = rec } ∷ items_from (at + length (record_text rec)) records

-- the bytes, which begin at that place, are these items one behind the other, and nothing else
pub record AreItems (at : ℕ) (bytes : List ℕ) (items : List Placed) : Type 0 where
  pub records : List Record
  pub each : AllByRecursion IsRecord records
  pub text : bytes ≡ flat_map record_text records
  pub items_are : items ≡ items_from at records

-- the batches' bodies hold these items, in their order
abbrev pub Hold : List Batch → List Placed → Type 0
Hold [] items = items ≡ []
Hold (batch ∷ batches) items =
    (first : List Placed) × (rest : List Placed) × AreItems batch.at batch.body first × Hold batches rest
    × (items ≡ first ++ rest)

-- no record stands at the front of the bytes
abbrev pub LacksRecord : List ℕ → Type 0
LacksRecord bytes = (rec : Record) (rest : List ℕ) → IsRecord rec → bytes ≢ record_text rec ++ rest

-- ---- How far a file was read

-- the items are those of all batches before that gate
pub record AreBefore (bytes : List ℕ) (items : List Placed) (gate : ℕ) : Type 0 where
  pub batches : List Batch
  pub whole : ReadTo bytes batches gate
  pub held : Hold batches items

-- the items are those of all batches before a gate, and in the body of the batch at that
-- gate, which ends at `end`, those up to a place inside it
pub record AreInBody (bytes : List ℕ) (items : List Placed) (place end : ℕ) : Type 0 where
  pub gate : ℕ
  pub len : ℕ
  pub before : List Placed
  pub part : List Placed
  pub whole : AreBefore bytes before gate
  pub batch : stands (drop gate bytes) (Body len)
  pub end_is : end ≡ gate + 5 + len
  pub inside : (gate + 5 ≤ place) × (place < end)
  pub read : AreItems (gate + 5) (take (place - (gate + 5)) (drop (gate + 5) bytes)) part
  pub items_are : items ≡ before ++ part

-- the items are all that stand before that place: a gate, or a place inside a body
abbrev pub ReadUpTo : List ℕ → List Placed → ℕ → ℕ → Type 0
ReadUpTo bytes items place end = (AreBefore bytes items place × (place ≡ end)) ⊎ AreInBody bytes items place end

-- behind the items stands a gate that isn't open, or the file ends
pub record EndsBehind (bytes : List ℕ) (items : List Placed) : Type 0 where
  pub gate : ℕ
  pub all : AreBefore bytes items gate
  pub end : stands (drop gate bytes) End

-- behind the items the file is damaged, at that place: an open gate without a batch, or
-- no record where one has to stand
pub data IsDamagedBehind (bytes : List ℕ) (items : List Placed) (at : ℕ) : Type 0 where
  NoBatch : AreBefore bytes items at → stands (drop at bytes) Broken → IsDamagedBehind bytes items at
  NoRecord : (end : ℕ) → AreInBody bytes items at end → LacksRecord (take (end - at) (drop at bytes))
      → IsDamagedBehind bytes items at

-- ---- The whole file

-- the file of a lane is a whole one of that generation, and these are the records of its batches
pub record HoldsAll (odd : Bool) (lane : ℕ) (bytes : List ℕ) (generation : ℕ) (items : List Placed) : Type 0 where
  pub batches : List Batch
  pub reads : lane_reads odd lane bytes (Holding generation batches)
  pub held : Hold batches items
