-- Locks out of reach don't count.
use Rattle.std.proofs.Common.{◌≡◌, ℕ, ◌+◌, ◌-◌, ◌<◌, ◌≤◌, ◌^◌, ◌%◌, Bool, true, false, not, ◌&&◌, cond, List, length, get_or, take, drop, refl, sym, ◌∙◌, ap, subst, arith}
use Rattle.std.proofs.lemmas.Bool.{eqb-true, ltb-true, ltb-false, leb-true, eq-eqb, and_parts, false_from_ne_true, true≢false}
use Rattle.std.proofs.lemmas.List.{get_or-take, get_or-drop, length-take-le, length-drop}
use Rattle.std.proofs.lemmas.List.Sums.{sum_by-take-drop, length-filter}
use Rattle.std.proofs.lemmas.Option.{same_Some, slice_get_within, get_or_from_slice_get}
use Rattle.std.specs.Prelude.{◌||◌, nat_le, nat_lt, Option, None, Some, ◌==◌}
use Rattle.std.specs.List.{count_by, list_any}
use Rattle.std.specs.List.Sorted.{IsPartitionPoint}
use Rattle.key_space.specs.declared.lock.Held.{Held}
use Rattle.key_space.specs.declared.lock.LockName.{LockName}
use Rattle.key_space.specs.Ranges.{covers, shares}
use Rattle.key_space.specs.Locks.{IsOfKeys, covers_ask, conflicts, in_the_way, is_exclusive, least_owner, own_count}
use Rattle.lock_table.specs.declared.place.Place.{Place}
use Rattle.lock_table.specs.declared.place.Spot.{Spot}
use Rattle.lock_table.specs.Locks.{Locks, locks_of, all_locks}
use Rattle.lock_table.specs.Orders.{rank, rank_of, lock_at, held_at, is_before, is_up_to, is_of_order, IsSorted, IsOrdered, IsInReach, IsOfReach, AreOwn}
use Rattle.lock_table.proofs.Counts.{count_agree, count_nothing, count_held, owner_there, own_counted, passes}
use Rattle.lock_table.proofs.OrderKept.{HasLock, narrow_there}
use Rattle.lock_table.proofs.Ranks.{below_next}
use Rattle.lock_table.proofs.Verdicts.{same_any, same_least}

rank_from : (t k k' w : ℕ) → k ≤ k' → rank t k 0 ≤ rank t k' w
unfolding rank
rank_from t k k' w le = omega arith

and_false : (b : Bool) → (b && false) ≡ false
and_false true = refl
and_false false = refl

same_some : (a b : Held) → Some a ≡ Some b → a ≡ b
same_some a b e = same_Some a b e

module _ (locks : Locks) (name : LockName) (test : Held → Bool) (of : IsOfReach name test) where
  -- what fails wherever there is a lock, fails
  fails : (lock : Option Held) → ((h : Held) → lock ≡ Some h → IsInReach name h → ⊥) → passes test lock ≡ false
  fails None out = refl
  fails (Some h) out = false_from_ne_true (test h) (λ e. out h refl (of h e))

  in_front : (widest key : ℕ) (lock : Option Held) → HasLock widest lock → key ≡ name.range.lo.number - widest
      → rank_of lock < rank name.table key 0 → passes test lock ≡ false
  in_front widest key lock there e low = fails lock (λ h is reach.
      let same : there.0 ≡ h = same_some there.0 h (sym there.1 ∙ is) in
      let narrow : h.name.range.hi.number ≤ h.name.range.lo.number + widest = subst (λ (x : Held). x.name.range.hi.number ≤ x.name.range.lo.number + widest) same there.2 in
      let up : rank name.table key 0 ≤ rank name.table h.name.range.lo.number h.who = rank_from name.table key h.name.range.lo.number h.who (omega (arith, reach.high)) in
      let here : rank_of lock ≡ rank name.table h.name.range.lo.number h.who = ap rank_of is ∙ ap (λ (t : ℕ). rank t h.name.range.lo.number h.who) reach.table in
      omega arith)

  too_far : (key : ℕ) (lock : Option Held) → ((h : Held) → lock ≡ Some h → h.who < 2 ^ 16) → key ≡ name.range.hi.number
      → rank name.table key (2 ^ 16) ≤ rank_of lock → passes test lock ≡ false
  too_far key lock who e high = fails lock (λ h is reach.
      let up : rank name.table h.name.range.lo.number h.who < rank name.table key (2 ^ 16) = below_next name.table h.name.range.lo.number h.who key (who h is) (omega (arith, reach.low)) in
      let here : rank_of lock ≡ rank name.table h.name.range.lo.number h.who = ap rank_of is ∙ ap (λ (t : ℕ). rank t h.name.range.lo.number h.who) reach.table in
      omega arith)

  abbrev pass : Place → Bool
  pass p = passes test (lock_at locks p)

  pub window : (widest from len : ℕ) (spot : Spot) (places : List Place) → AreOwn locks → length locks ≤ 2 ^ 16 → IsSorted locks widest places
      → spot ≡ record { table = name.table; key = name.range.lo.number - widest; who = 0 }
      → from ≤ length places → IsPartitionPoint (λ p. is_before locks spot p ≡ true) (λ p. is_before locks spot p ≡ false) places from
      → len ≤ length (drop from places)
      → IsPartitionPoint (λ p. is_up_to locks name.table name.range.hi.number p ≡ true) (λ p. is_up_to locks name.table name.range.hi.number p ≡ false) (drop from places) len
      → count_by test (held_at locks (take len (drop from places))) ≡ count_by test (held_at locks places)
  window widest from len spot places own few sorted is inside first inside' last =
      let rest = drop from places in
      let front : count_by pass (take from places) ≡ 0 = count_nothing pass (take from places) (λ k d within.
      let below : k < from = omega (arith, length-take-le from places inside) in
      let at = get_or-take from places k d below in
      let there = narrow_there widest (lock_at locks (get_or places k d)) (sorted.narrow k d (omega arith)) in
      let before = ltb-true (rank_of (lock_at locks (get_or places k d))) (rank name.table (name.range.lo.number - widest) 0)
      (subst (λ (s : Spot). is_before locks s (get_or places k d) ≡ true) is (first.0 k d (omega arith) below)) in
      ap pass at ∙ in_front widest (name.range.lo.number - widest) (lock_at locks (get_or places k d)) there refl before) in
      let back : count_by pass (drop len rest) ≡ 0 = count_nothing pass (drop len rest) (λ k d within.
      let at = get_or-drop len rest k d in
      let inside_rest : len + k < length rest = omega (arith, length-drop len rest) in
      let behind = ltb-false (rank_of (lock_at locks (get_or rest (len + k) d))) (rank name.table name.range.hi.number (2 ^ 16)) (last.1 (len + k) d (omega arith) inside_rest) in
      ap pass at ∙ too_far name.range.hi.number (lock_at locks (get_or rest (len + k) d)) (λ h is_h. let o = owner_there locks (get_or rest (len + k) d) h own is_h in omega (arith, o.0, o.1)) refl behind) in
      let a = sum_by-take-drop (λ p. cond {A = ℕ} (pass p) 1 0) places from in
      let b = sum_by-take-drop (λ p. cond {A = ℕ} (pass p) 1 0) rest len in
      let c = count_held test locks places in
      let d = count_held test locks (take len rest) in
      omega arith

  in_order : (number : ℕ) (h : Held) (b : Bool) → number ≡ name.table % 16 → test h ≡ b → (is_of_order number h && b) ≡ b
  in_order number h true e t = ap (λ (x : Bool). x && true) (eq-eqb (h.name.table % 16) number (ap (λ (n : ℕ). n % 16) (of h t).table ∙ sym e))
  in_order number h false e t = and_false (is_of_order number h)

  -- the tests of a table see the locks of its order alone
  pub of_order : (number : ℕ) (held : List Held) → number ≡ name.table % 16 → count_by (λ h. is_of_order number h && test h) held ≡ count_by test held
  of_order number held e = count_agree (λ h. is_of_order number h && test h) test held (λ k d _. in_order number (get_or held k d) (test (get_or held k d)) e refl)

-- ---- which tests see locks in reach alone

four : (a b c d : Bool) → (a && b && c && d) ≡ true → (b ≡ true) × (c ≡ true)
four true true true d e = (refl, refl)
four true true false d e = absurd (true≢false (sym e))
four true false c d e = absurd (true≢false (sym e))
four false b c d e = absurd (true≢false (sym e))

cover_in_reach : (ask : Held) → IsOfKeys ask → IsOfReach ask.name (covers_ask ask)
cover_in_reach ask keys h e =
    let parts = four (h.who == ask.who) (h.name.table == ask.name.table) (covers h.name.range ask.name.range) (is_exclusive h.mode || not (is_exclusive ask.mode)) e in
    let ends = and_parts (nat_le h.name.range.lo.number ask.name.range.lo.number) (nat_le ask.name.range.hi.number h.name.range.hi.number) parts.1 in
    let low = leb-true h.name.range.lo.number ask.name.range.lo.number ends.0 in
    let high = leb-true ask.name.range.hi.number h.name.range.hi.number ends.1 in
    record { table = eqb-true h.name.table ask.name.table parts.0; low = omega arith; high = omega arith }

conflict_in_reach : (ask : Held) → IsOfReach ask.name (conflicts ask)
conflict_in_reach ask h e =
    let parts = four (not (h.who == ask.who)) (h.name.table == ask.name.table) (shares h.name.range ask.name.range) (is_exclusive h.mode || is_exclusive ask.mode) e in
    let ends = and_parts (nat_le h.name.range.lo.number ask.name.range.hi.number) (nat_le ask.name.range.lo.number h.name.range.hi.number) parts.1 in
    record {
      table = eqb-true h.name.table ask.name.table parts.0;
      low = leb-true h.name.range.lo.number ask.name.range.hi.number ends.0;
      high = leb-true ask.name.range.lo.number h.name.range.hi.number ends.1;
    }

way_in_reach : (older : Bool) (ask : Held) → IsOfReach ask.name (in_the_way older ask)
way_in_reach true ask h e = conflict_in_reach ask h (and_parts (conflicts ask h) (nat_lt h.age ask.age) e).0
way_in_reach false ask h e = conflict_in_reach ask h e

-- as many locks pass, whatever test sees those in reach alone
abbrev pub SameNear : LockName → List Held → List Held → Type 0
SameNear name near all = (test : Held → Bool) → IsOfReach name test → count_by test near ≡ count_by test all

pub near_cover : (ask : Held) (near all : List Held) → IsOfKeys ask → SameNear ask.name near all → list_any (covers_ask ask) near ≡ list_any (covers_ask ask) all
near_cover ask near all keys same = same_any (covers_ask ask) near all (same (covers_ask ask) (cover_in_reach ask keys))

pub near_least : (older : Bool) (ask : Held) (near all : List Held) → SameNear ask.name near all → least_owner (in_the_way older ask) near ≡ least_owner (in_the_way older ask) all
near_least older ask near all same = same_least (in_the_way older ask) near all
    (same (in_the_way older ask) (way_in_reach older ask))
    (λ who. same (λ h. in_the_way older ask h && h.who == who) (λ h e. way_in_reach older ask h (and_parts (in_the_way older ask h) (h.who == who) e).0))

-- what an order's window sees of all locks
pub near_all : (locks : Locks) (name : LockName) (widest : ℕ) (places near : List Place) → IsOrdered locks (name.table % 16) widest places
    → ((test : Held → Bool) → IsOfReach name test → count_by test (held_at locks near) ≡ count_by test (held_at locks places))
    → SameNear name (held_at locks near) (all_locks locks)
near_all locks name widest places near ordered window test of =
    window test of ∙ ordered.counted test ∙ of_order locks name test of (name.table % 16) (all_locks locks) refl

pub keys_there : (locks : Locks) (place : Place) (h : Held) → AreOwn locks → lock_at locks place ≡ Some h → IsOfKeys h
keys_there locks place h own there =
    let inside = (owner_there locks place h own there).0 in
    let within = slice_get_within (locks_of locks place.who) place.nth h there in
    subst IsOfKeys (get_or_from_slice_get (locks_of locks place.who) place.nth h h there) ((own place.who inside).ranges place.nth h within)

pub own_number : (locks : Locks) (ask : Held) → AreOwn locks → ask.who < length locks → own_count ask (all_locks locks) ≡ length (locks_of locks ask.who)
own_number locks ask own within = length-filter (λ h. h.who == ask.who) (all_locks locks) ∙ own_counted locks ask.who own within
