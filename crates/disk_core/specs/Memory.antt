-- A disk in memory, whose calls fail where they are named or find too little room.
use Rattle.std.specs.Prelude.{ℕ, ◌+◌, ◌-◌, ◌*◌, Bool, true, false, ◌&&◌, List, [], ◌∷◌, length, Option, None}
use Rattle.std.specs.Prelude.{Some, Result, Ok, Err, is_err, nat_le, if◌then◌else◌}
use Rattle.base_types.specs.Causes.{one_more}
use Rattle.disk_core.specs.ChangeCalls.{CallMade, WriteCall, SyncCall}
use Rattle.disk_core.specs.History.{Change, Wrote, Tried, Synced, TriedSync, content_after, MayLeave}
use Rattle.disk_core.specs.History.{LeftSince}
use Rattle.disk_core.specs.Places.{at_sync}

-- the bytes at first and the change calls since, of which the latest comes first,
-- whether these are all, the room that is left, how many change calls and read calls
-- there were since their names were given, those names, and how many calls failed
pub record MemoryView : Type 0 where
  pub initial : List ℕ
  pub calls : List Change
  pub whole : Bool
  pub room : ℕ
  pub changes : ℕ
  pub reads : ℕ
  pub failing_changes : List ℕ
  pub failing_reads : List ℕ
  pub faults : ℕ

-- what a read gives
abbrev pub content_of : MemoryView → List ℕ
content_of d = content_after d.initial d.calls

-- the change calls, with the success of each
abbrev pub calls_made : List Change → List CallMade
calls_made [] = []
calls_made (Wrote at bytes ∷ earlier) = record { call = WriteCall at bytes; done = true } ∷ calls_made earlier
calls_made (Tried at bytes size ∷ earlier) =
    record { call = WriteCall at bytes; done = false } ∷ calls_made earlier
calls_made (Synced ∷ earlier) = record { call = SyncCall; done = true } ∷ calls_made earlier
calls_made (TriedSync ∷ earlier) = record { call = SyncCall; done = false } ∷ calls_made earlier

-- the same, where these are all
abbrev pub known_calls : MemoryView → Option (List CallMade)
known_calls d = if d.whole then Some (calls_made d.calls) else None

-- what a read gave at the last sync
abbrev pub synced_of : MemoryView → List ℕ
synced_of d = at_sync d.initial d.calls

-- what a crash now may leave
abbrev pub CrashLeaves : MemoryView → List ℕ → Type 0
CrashLeaves d = MayLeave d.initial d.calls

-- what a crash since a moment may have left
abbrev pub CrashLeftSince : MemoryView → ℕ → List ℕ → Type 0
CrashLeftSince d t = LeftSince d.initial t d.calls

-- a disk of these bytes with so much room, of which no call is named
abbrev pub new_disk : List ℕ → ℕ → MemoryView
new_disk bytes room =
    record {
      initial = bytes;
      calls = [];
      whole = true;
      room = room;
      changes = 0;
      reads = 0;
      failing_changes = [];
      failing_reads = [];
      faults = 0;
    }

-- the room that a change call of n bytes uses
abbrev pub room_of : ℕ → ℕ
room_of n = 2 * n + 64

-- the room that is left after a change call of n bytes: where there is too little it uses none
abbrev pub room_after : ℕ → ℕ → ℕ
room_after n room = if nat_le (room_of n) room then room - room_of n else room

-- how many calls have failed after one that ended so
abbrev pub faults_after : {T E : Type 0} → Result T E → ℕ → ℕ
faults_after result faults = if is_err result then one_more faults else faults

-- a read call is counted, and its fault if it failed; all else stays
abbrev pub after_read : {T E : Type 0} → Result T E → MemoryView → MemoryView
after_read result d = record d { reads = one_more d.reads; faults = faults_after result d.faults }

-- A change call of n bytes is counted, and its fault if it failed, and uses room.
-- Where it found too little, the calls since aren't all from then on. All else stays.
abbrev pub after_change : {T E : Type 0} → ℕ → Result T E → MemoryView → MemoryView
after_change n result d =
    record d {
      whole = d.whole && nat_le (room_of n) d.room;
      room = room_after n d.room;
      changes = one_more d.changes;
      faults = faults_after result d.faults;
    }

-- a write is one of the calls since, also where it failed, but not if it found too little room
abbrev pub calls_after_write : {T E : Type 0} → ℕ → List ℕ → Result T E → MemoryView → List Change
calls_after_write at bytes (Ok _) d = Wrote at bytes ∷ d.calls
calls_after_write at bytes (Err _) d =
    if nat_le (room_of (length bytes)) d.room then Tried at bytes (length (content_of d)) ∷ d.calls
    else d.calls

-- so is a sync
abbrev pub calls_after_sync : {T E : Type 0} → Result T E → MemoryView → List Change
calls_after_sync (Ok _) d = Synced ∷ d.calls
calls_after_sync (Err _) d = if nat_le (room_of 0) d.room then TriedSync ∷ d.calls else d.calls

-- the disk after a write
abbrev pub after_write : {T E : Type 0} → ℕ → List ℕ → Result T E → MemoryView → MemoryView
after_write at bytes result d =
    record (after_change (length bytes) result d) { calls = calls_after_write at bytes result d }

-- the disk after a sync
abbrev pub after_sync : {T E : Type 0} → Result T E → MemoryView → MemoryView
after_sync result d = record (after_change 0 result d) { calls = calls_after_sync result d }
