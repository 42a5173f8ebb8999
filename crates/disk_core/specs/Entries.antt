-- The record of the change calls that a disk in memory keeps,
-- in which the bytes of all writes stand one after another.
use Rattle.std.specs.Prelude.{ℕ, ◌+◌, List, [], ◌∷◌, take, drop}
use Rattle.disk_core.specs.declared.history.Entry.{Entry}
use Rattle.disk_core.specs.declared.history.Entry.TheVariants.{Write, Attempt, Sync, SyncAttempt}
use Rattle.disk_core.specs.History.{Change, Wrote, Tried, Synced, TriedSync}

-- the call of an entry, with its bytes
abbrev pub change_of : Entry → List ℕ → Change
change_of (Write at len) bytes = Wrote at bytes
change_of (Attempt at len size) bytes = Tried at bytes size
change_of Sync bytes = Synced
change_of SyncAttempt bytes = TriedSync

-- how many bytes an entry wrote
abbrev pub len_of : Entry → ℕ
len_of (Write at len) = len
len_of (Attempt at len size) = len
len_of Sync = 0
len_of SyncAttempt = 0

-- how many bytes all of them wrote
abbrev pub total_len : List Entry → ℕ
total_len [] = 0
total_len (entry ∷ entries) = len_of entry + total_len entries

-- the calls of the entries on top of earlier ones
abbrev pub calls_of : List Entry → List ℕ → List Change → List Change
calls_of [] bytes earlier = earlier
calls_of (entry ∷ entries) bytes earlier =
    calls_of entries (drop (len_of entry) bytes) (change_of entry (take (len_of entry) bytes) ∷ earlier)
