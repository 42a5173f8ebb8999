-- How the locks of some tables stand in order.
use Rattle.std.specs.Prelude.{◌≡◌, ◌<◌, ℕ, suc, ◌+◌, ◌*◌, ◌%◌, ◌^◌, ◌≤◌, Bool, true, ◌&&◌, ◌==◌, List, slice_get}
use Rattle.std.specs.Prelude.{Option, None, Some, length, slice_set, nat_lt, [], ◌∷◌, ◌++◌}
use Rattle.std.specs.List.{count_by, filter_map, All}
use Rattle.std.specs.List.Sorted.{IsNonDecreasingBy}
use Rattle.key_space.specs.declared.lock.Held.{Held}
use Rattle.key_space.specs.declared.lock.LockName.{LockName}
use Rattle.key_space.specs.declared.lock.Verdict.{Verdict}
use Rattle.key_space.specs.Locks.{IsOfKeys, verdict_of}
use Rattle.lock_table.specs.declared.place.Place.{Place}
use Rattle.lock_table.specs.declared.place.Spot.{Spot}
use Rattle.lock_table.specs.Locks.{Locks, locks_of, all_locks, is_added}

-- the lock at a place
abbrev pub lock_at : Locks → Place → Option Held
lock_at locks place = slice_get (locks_of locks place.who) place.nth

-- no range of a lock is empty
abbrev pub AreOfKeys : Locks → Type 0
AreOfKeys locks = (place : Place) (h : Held) → lock_at locks place ≡ Some h → IsOfKeys h

-- the locks at these places
abbrev pub held_at : Locks → List Place → List Held
held_at locks places = filter_map (lock_at locks) places

-- where a lock of this table, with this lower key and of this session, stands in its order
unfoldable pub rank : ℕ → ℕ → ℕ → ℕ
rank table key who = suc ((table * 2 ^ 128 + key) * 2 ^ 16 + who)

-- the rank of the lock at a place
abbrev pub rank_of : Option Held → ℕ
rank_of None = 0
rank_of (Some h) = rank h.name.table h.name.range.lo.number h.who

-- the rank of a spot
abbrev pub spot_rank : Spot → ℕ
spot_rank spot = rank spot.table spot.key spot.who

-- the lock at a place stands in front of a spot
abbrev pub is_before : Locks → Spot → Place → Bool
is_before locks spot place = nat_lt (rank_of (lock_at locks place)) (spot_rank spot)

-- the lock at a place is of a lower table, or of this one with a lower key that is no higher than this
abbrev pub is_up_to : Locks → ℕ → ℕ → Place → Bool
is_up_to locks table key place = nat_lt (rank_of (lock_at locks place)) (rank table key (2 ^ 16))

-- the lock's table is one of those of the order with this number
abbrev pub is_of_order : ℕ → Held → Bool
is_of_order number h = h.name.table % 16 == number

-- a range holds at most so many keys beside its lowest
abbrev pub IsNarrow : ℕ → Option Held → Type 0
IsNarrow widest None = ⊥
IsNarrow widest (Some h) = h.name.range.hi.number ≤ h.name.range.lo.number + widest

-- the places are in the order of their locks, and no range is wider than that
pub record IsSorted (locks : Locks) (widest : ℕ) (places : List Place) : Type 0 where
  pub rising : IsNonDecreasingBy (λ p. rank_of (lock_at locks p)) places
  pub narrow : All (λ p. IsNarrow widest (lock_at locks p)) places

-- the places are those of the locks of the tables with this number, each once and in order
pub record IsOrdered (locks : Locks) (number widest : ℕ) (places : List Place) : Type 0 where
  pub counted : (test : Held → Bool) → count_by test (held_at locks places)
      ≡ count_by (λ h. is_of_order number h && test h) (all_locks locks)
  pub sorted : IsSorted locks widest places

-- the range of the lock shares a key with that of the name, if neither is empty, and the table is the same
pub record IsInReach (name : LockName) (h : Held) : Type 0 where
  pub table : h.name.table ≡ name.table
  pub low : h.name.range.lo.number ≤ name.range.hi.number
  pub high : name.range.lo.number ≤ h.name.range.hi.number

-- the test passes only locks in reach of the name
abbrev pub IsOfReach : LockName → (Held → Bool) → Type 0
IsOfReach name test = (h : Held) → test h ≡ true → IsInReach name h

-- what a request gets, and whether its lock is added
pub record Decides (held : List Held) (ask : Held) (verdict : Verdict) (added : Bool) : Type 0 where
  pub answer : verdict ≡ verdict_of held ask
  pub adds : is_added held ask ≡ added

-- a session's locks are its own, of ranges that aren't empty, and at most 1,024
pub record IsOwn (who : ℕ) (own : List Held) : Type 0 where
  pub mine : All (λ h. h.who ≡ who) own
  pub ranges : All IsOfKeys own
  pub few : length own ≤ 1024

-- each session's locks are its own
abbrev pub AreOwn : Locks → Type 0
AreOwn locks = (who : ℕ) → who < length locks → IsOwn who (locks_of locks who)

-- the locks with one more, the last of its session
abbrev pub pushed : Locks → Held → Locks
pushed locks lock = slice_set locks lock.who (locks_of locks lock.who ++ lock ∷ [])

-- the locks without those of a session
abbrev pub cleared : Locks → ℕ → Locks
cleared locks who = slice_set locks who []
