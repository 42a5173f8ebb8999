-- What a reader of a lane's file has read of it.
use Rattle.std.specs.Prelude.{◌≡◌, ℕ, ◌-◌, ◌<◌, ◌≤◌, List, [], ◌∷◌, ◌++◌, length, Option, None, Some, Result, Ok, Err}
use Rattle.std.specs.Option.{ForSome}
use Rattle.std.specs.Borrow.{MutBor, Fml}
use Rattle.std.specs.Io.BufRead.{Rests}
use Rattle.base_types.specs.Causes.{one_more}
use Rattle.disk_core.specs.declared.store.FileName.{FileName}
use Rattle.lane_format.specs.declared.head.Head.{Head}
use Rattle.lane_format.specs.declared.head.Head.TheVariants as head
use Rattle.lane_format.specs.declared.segment.LaneReadFault.{LaneReadFault}
use Rattle.lane_format.specs.declared.segment.LaneReadFault.TheVariants.{Disk, Damaged, OutOfMemory}
use Rattle.xor_records.specs.Record.{Record, IsRecord, record_text}
use Rattle.replay_core.specs.Items.{Shows, place_of}
use Rattle.replay_core.specs.Segments.{Placed, ReadUpTo}
use Rattle.replay_core.specs.Windows.{Covers, IsWindow, piece_of}
use Rattle.replay_core.specs.declared.item.Found.{Found}
use Rattle.replay_core.specs.declared.item.Item.{Item}
use Rattle.replay_core.specs.declared.segment_reader.SegmentReader.{SegmentReader}
use Rattle.replay_core.specs.contracts.segment_reader.SegmentReader.{the_row}

-- the file that it reads
abbrev pub file_of : SegmentReader → FileName
file_of reader = reader.file

-- the generation of its file
abbrev pub generation_of : SegmentReader → ℕ
generation_of reader = reader.generation

-- how much of its file is left at most
abbrev pub left_of : SegmentReader → ℕ
left_of reader = reader.size - reader.place

-- the reader is one over a disk with this content, where it is known
pub record IsOver (content : Option (List ℕ)) (reader : SegmentReader) : Type 0 where
  pub size : ForSome content (λ bytes. reader.size ≡ length bytes)
  pub window : IsWindow content reader.size reader.window
  pub place : reader.place ≤ reader.end
  pub end : reader.end ≤ reader.size

-- the items are all that it has read: all that stand before its place in the file
abbrev pub HasRead : Option (List ℕ) → SegmentReader → List Placed → Type 0
HasRead content reader items = ForSome content (λ bytes. ReadUpTo bytes items reader.place reader.end)

-- both have read the same, if anything is known of the file
abbrev pub KeepsRead : Option (List ℕ) → SegmentReader → SegmentReader → Type 0
KeepsRead content old new = (items : List Placed) → HasRead content old items → HasRead content new items

-- it is a reader of the same file
abbrev pub IsSameFile : SegmentReader → SegmentReader → Type 0
IsSameFile old new = (file_of new ≡ file_of old) × (generation_of new ≡ generation_of old)

-- what the opening of a file says that its head reads as: none where the disk failed or memory ran out
abbrev pub head_as : Result (Option SegmentReader) LaneReadFault → Option Head
head_as (Ok None) = Some head.NotOpen
head_as (Ok (Some reader)) = Some (head.Open (generation_of reader))
head_as (Err (Damaged file at)) = Some (head.Damaged at)
head_as (Err (Disk file)) = None
head_as (Err OutOfMemory) = None

-- A fault names the file. With one of the disk exactly one call of it has failed, and with any other
-- result none.
abbrev pub Causes : {T : Type 0} → FileName → ℕ → ℕ → Result T LaneReadFault → Type 0
Causes file old new (Ok _) = new ≡ old
Causes file old new (Err (Disk f)) = (f ≡ file) × (new ≡ one_more old)
Causes file old new (Err (Damaged f at)) = (f ≡ file) × (new ≡ old)
Causes file old new (Err OutOfMemory) = new ≡ old

-- what a call gave: one record, with its place, where it gave an item
abbrev pub Gives : Result (Option Item) LaneReadFault → List Placed → Type 0
Gives (Ok None) given = given ≡ []
Gives (Ok (Some item)) given = (rec : Record) × Shows item rec × (given ≡ record { at = place_of item; rec = rec } ∷ [])
Gives (Err e) given = given ≡ []

-- a call that gave an item leaves less of the file
abbrev pub LeavesLess : SegmentReader → Result (Option Item) LaneReadFault → SegmentReader → Type 0
LeavesLess old (Ok None) new = Unit {0}
LeavesLess old (Ok (Some item)) new = left_of new < left_of old
LeavesLess old (Err e) new = Unit {0}

-- After a call the reader has read the record that the call gave, where it gave one, and else what it had.
pub record Steps (content : Option (List ℕ)) (old : SegmentReader) (result : Result (Option Item) LaneReadFault)
    (new : SegmentReader) : Type 0 where
  pub over : IsOver content new
  pub same : IsSameFile old new
  pub less : LeavesLess old result new
  pub given : List Placed
  pub gives : Gives result given
  pub read : (items : List Placed) → HasRead content old items → HasRead content new (items ++ given)

-- what holds of a reader of which a call lends a part
abbrev pub Stepping : MutBor SegmentReader → (SegmentReader → Type 0) → Fml
Stepping reader P = Rests the_row reader P

-- It went over a record, of which its window has the bytes.
pub record StepsOver (content : Option (List ℕ)) (old : SegmentReader) (found : Found) (new : SegmentReader) : Type 0 where
  pub covers : Covers found.at found.len new.window
  pub less : left_of new < left_of old
  pub rec : Record
  pub is : IsRecord rec
  pub text : piece_of new.window found.at found.len ≡ record_text rec
  pub read : (items : List Placed) → HasRead content old items
      → HasRead content new (items ++ record { at = found.at; rec = rec } ∷ [])
