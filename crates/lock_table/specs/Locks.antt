-- The locks that sessions hold.
use Rattle.std.specs.Prelude.{ℕ, Bool, not, ◌&&◌, List, [], ◌∷◌, ◌++◌, slice_index_or, slice_set, if◌then◌else◌}
use Rattle.std.specs.List.{flat_map, list_any}
use Rattle.key_space.specs.declared.lock.Held.{Held}
use Rattle.key_space.specs.declared.lock.LockName.{LockName}
use Rattle.key_space.specs.declared.lock.Mode.{Mode}
use Rattle.key_space.specs.Locks.{covers_ask, is_granted, verdict_of}

-- an entry for each session: its locks, in the order in which they were granted
abbrev pub Locks : Type 0
Locks = List (List Held)

-- the locks of a session
abbrev pub locks_of : Locks → ℕ → List Held
locks_of locks who = slice_index_or locks who []

-- the locks of all sessions
abbrev pub all_locks : Locks → List Held
all_locks locks = flat_map (λ own. own) locks

-- the lock that a session asks for
abbrev pub asked : ℕ → ℕ → LockName → Mode → Held
asked who age name mode = record { who = who; age = age; name = name; mode = mode }

-- the request is granted, and no own lock covers it
abbrev pub is_added : List Held → Held → Bool
is_added held ask = not (list_any (covers_ask ask) held) && is_granted (verdict_of held ask)

-- the locks after a request: one that is granted, and that no own lock covers, comes behind those of its session
abbrev pub locks_with : Locks → Held → Locks
locks_with locks ask =
    if is_added (all_locks locks) ask then slice_set locks ask.who (locks_of locks ask.who ++ ask ∷ [])
    else locks
