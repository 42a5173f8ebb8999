-- The answer to a request for a lock.
use Rattle.std.specs.Prelude.{◌≡◌, ℕ, ◌≤◌, min, Bool, true, false, not, ◌&&◌, ◌||◌, if◌then◌else◌, ◌==◌}
use Rattle.std.specs.Prelude.{nat_lt, nat_le, List, [], ◌∷◌, ◌++◌, length, map, Option, None, Some}
use Rattle.std.specs.List.{list_any, filter, fold, Any, AllByRecursion}
use Rattle.key_space.specs.declared.lock.Held.{Held}
use Rattle.key_space.specs.declared.lock.Mode.{Mode}
use Rattle.key_space.specs.declared.lock.Mode.TheVariants.{Shared, Exclusive}
use Rattle.key_space.specs.declared.lock.Verdict.{Verdict}
use Rattle.key_space.specs.declared.lock.Verdict.TheVariants.{Granted, Wait, Die, Full}
use Rattle.key_space.specs.Ranges.{IsNotEmpty, shares, covers}

-- its range isn't empty
abbrev pub IsOfKeys : Held → Type 0
IsOfKeys h = IsNotEmpty h.name.range

-- the mode is Exclusive
abbrev pub is_exclusive : Mode → Bool
is_exclusive Shared = false
is_exclusive Exclusive = true

-- one session holds or asks for both
abbrev pub has_same_owner : Held → Held → Bool
has_same_owner a b = a.who == b.who

-- both are locks of one table
abbrev pub has_same_table : Held → Held → Bool
has_same_table a b = a.name.table == b.name.table

-- a lock of the asker covers the request: a range that contains it, Exclusive or in the same mode
abbrev pub covers_ask : Held → Held → Bool
covers_ask ask h =
    has_same_owner h ask && has_same_table h ask && covers h.name.range ask.name.range
    && (is_exclusive h.mode || not (is_exclusive ask.mode))

-- a lock of another is in the way: the ranges share a key, and one of the two is Exclusive
abbrev pub conflicts : Held → Held → Bool
conflicts ask h =
    not (has_same_owner h ask) && has_same_table h ask && shares h.name.range ask.name.range
    && (is_exclusive h.mode || is_exclusive ask.mode)

-- a lock in the way of an older transaction
abbrev pub conflicts_older : Held → Held → Bool
conflicts_older ask h = conflicts ask h && nat_lt h.age ask.age

-- a lock in the way, of older transactions alone or of all
abbrev pub in_the_way : Bool → Held → Held → Bool
in_the_way true ask h = conflicts_older ask h
in_the_way false ask h = conflicts ask h

-- the least session number of the locks that pass a test
abbrev pub least : List ℕ → Option ℕ
least [] = None
least (n ∷ numbers) = Some (fold min n numbers)

-- the least session number of those whose lock passes a test
abbrev pub least_owner : (Held → Bool) → List Held → Option ℕ
least_owner test held = least (map (λ h. h.who) (filter test held))

-- how many locks the asker holds
abbrev pub own_count : Held → List Held → ℕ
own_count ask held = length (filter (λ h. has_same_owner h ask) held)

-- the verdict because of that session, where there is one, else the other
abbrev pub or_else : Option ℕ → (ℕ → Verdict) → Verdict → Verdict
or_else None because other = other
or_else (Some holder) because other = because holder

-- The answer, by the first that applies: an own lock covers the request; an older
-- transaction is in the way; another is; the asker holds 1,024 locks; else it is granted.
abbrev pub verdict_of : List Held → Held → Verdict
verdict_of held ask =
    if list_any (covers_ask ask) held then Granted
    else (or_else (least_owner (in_the_way true ask) held) Die
    (or_else (least_owner (in_the_way false ask) held) Wait
    (if nat_le 1024 (own_count ask held) then Full (own_count ask held) 1024 else Granted)))

-- the request is granted
abbrev pub is_granted : Verdict → Bool
is_granted Granted = true
is_granted (Wait holder) = false
is_granted (Die holder) = false
is_granted (Full own limit) = false

-- the locks that are held after the answer: a granted one that no own lock covers is added
abbrev pub locks_after : List Held → Held → List Held
locks_after held ask =
    if list_any (covers_ask ask) held then held
    else (if is_granted (verdict_of held ask) then held ++ ask ∷ [] else held)

-- a lock that passes the test is of this session, and none is of a lower one
pub record IsLeastOwner (test : Held → Bool) (held : List Held) (who : ℕ) : Type 0 where
  pub there : Any (λ h. (test h ≡ true) × (h.who ≡ who)) held
  pub least : AllByRecursion (λ h. test h ≡ true → who ≤ h.who) held
