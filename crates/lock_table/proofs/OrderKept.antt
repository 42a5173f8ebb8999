-- An order of locks after a change.
use Rattle.std.proofs.Common.{◌≡◌, ℕ, ◌+◌, ◌<◌, ◌≤◌, Bool, true, false, not, ◌&&◌, cond, List, [], ◌∷◌, length, get_or, take, drop, refl, sym, ◌∙◌, ap, subst, arith}
use Rattle.std.proofs.lemmas.Bool.{eqb-false, true≢false, ltb-true, ltb-false}
use Rattle.std.proofs.lemmas.List.Elements.{All-head, All-tail, All-append, All-cons, All-take, All-drop, All-filter, filter_passes}
use Rattle.std.proofs.lemmas.List.Sums.{sum_by-cons, sum_by-insert}
use Rattle.std.proofs.lemmas.List.Sorted.{IsNonDecreasingBy-insert}
use Rattle.std.proofs.lemmas.List.Kept.{IsNonDecreasingBy-filter}
use Rattle.std.specs.Prelude.{Option, None, Some, Result, Ok, Err, IsOk, is_ok, ◌==◌}
use Rattle.std.specs.List.{filter_map, cons_option, count_by, insert, filter, All}
use Rattle.std.specs.List.Sorted.{IsPartitionPoint}
use Rattle.key_space.specs.declared.lock.Held.{Held}
use Rattle.lock_table.specs.declared.place.Place.{Place}
use Rattle.lock_table.specs.declared.place.Spot.{Spot}
use Rattle.lock_table.specs.Locks.{Locks, locks_of, all_locks}
use Rattle.lock_table.specs.Orders.{lock_at, held_at, rank_of, spot_rank, is_before, is_of_order, IsNarrow, IsSorted, IsOrdered, AreOwn, pushed, cleared}
use Rattle.lock_table.proofs.Counts.{count_agree, count_held, count_pushed, count_cleared, still_there, last_there, others_stay, owner_there, passes, is_of_other}

-- a place of a sorted order has a lock
abbrev pub HasLock : ℕ → Option Held → Type 0
HasLock widest lock = (h : Held) × (lock ≡ Some h) × (h.name.range.hi.number ≤ h.name.range.lo.number + widest)

pub narrow_there : (widest : ℕ) (lock : Option Held) → IsNarrow widest lock → HasLock widest lock
narrow_there widest None narrow = absurd narrow
narrow_there widest (Some h) narrow = (h, refl, narrow)

wider : (widest more : ℕ) (lock : Option Held) → widest ≤ more → IsNarrow widest lock → IsNarrow more lock
wider widest more None le narrow = narrow
wider widest more (Some h) le narrow = omega (arith, narrow)

filter_map_agree : (f g : Place → Option Held) (places : List Place) → All (λ p. f p ≡ g p) places → filter_map f places ≡ filter_map g places
filter_map_agree f g [] same = refl
filter_map_agree f g (p ∷ places) same =
    ap (λ (x : Option Held). cons_option x (filter_map f places)) (All-head (λ q. f q ≡ g q) p places same)
    ∙ ap (cons_option (g p)) (filter_map_agree f g places (All-tail (λ q. f q ≡ g q) p places same))

-- the locks at the places are what they were
abbrev pub SameThere : Locks → Locks → List Place → Type 0
SameThere old new places = All (λ p. lock_at new p ≡ lock_at old p) places

pub sorted_still : (old new : Locks) (widest : ℕ) (places : List Place) → SameThere old new places → IsSorted old widest places → IsSorted new widest places
sorted_still old new widest places same sorted = record {
  rising = λ i j d le within.
      let a = ap rank_of (same i d (omega arith)) in
      let b = ap rank_of (same j d within) in
      let up = sorted.rising i j d le within in
      omega arith;
  narrow = λ k d within. subst (IsNarrow widest) (sym (same k d within)) (sorted.narrow k d within);
}

-- ---- a lock is added

pushed_same : (locks : Locks) (lock : Held) (widest : ℕ) (places : List Place) → lock.who < length locks → IsSorted locks widest places → SameThere locks (pushed locks lock) places
pushed_same locks lock widest places within sorted k d at =
    let there = narrow_there widest (lock_at locks (get_or places k d)) (sorted.narrow k d at) in
    still_there locks lock there.0 (get_or places k d) within there.1 ∙ sym there.1

weight : (a b : Bool) → a ≡ true → cond {A = ℕ} (a && b) 1 0 ≡ cond {A = ℕ} b 1 0
weight a b e = ap (λ (x : Bool). cond {A = ℕ} (x && b) 1 0) e

no_weight : (a b : Bool) → a ≡ false → cond {A = ℕ} (a && b) 1 0 ≡ 0
no_weight a b e = ap (λ (x : Bool). cond {A = ℕ} (x && b) 1 0) e

-- an order of other tables
pub others_kept : (locks : Locks) (lock : Held) (number widest : ℕ) (places : List Place) → lock.who < length locks
    → is_of_order number lock ≡ false → IsOrdered locks number widest places → IsOrdered (pushed locks lock) number widest places
others_kept locks lock number widest places within other ordered =
    let same = pushed_same locks lock widest places within ordered.sorted in
    record {
      counted = λ test.
          let more = count_pushed (λ h. is_of_order number h && test h) locks lock within in
          let none = no_weight (is_of_order number lock) (test lock) other in
          let before = ordered.counted test in
          let here = ap (λ (x : List Held). count_by test x) (filter_map_agree (lock_at (pushed locks lock)) (lock_at locks) places same) in
          omega arith;
      sorted = sorted_still locks (pushed locks lock) widest places same ordered.sorted;
    }

-- the place of a lock that is added
abbrev pub next_place : Locks → Held → Place
next_place locks lock = record { who = lock.who; nth = length (locks_of locks lock.who) }

abbrev pub spot_of : Held → Spot
spot_of lock = record { table = lock.name.table; key = lock.name.range.lo.number; who = lock.who }

module _ (locks : Locks) (lock : Held) (within : lock.who < length locks) (widest more : ℕ) (places : List Place) (i : ℕ) where
  abbrev new : Locks
  new = pushed locks lock

  abbrev place : Place
  place = next_place locks lock

  pub sorted_with : IsSorted locks widest places → widest ≤ more → lock.name.range.hi.number ≤ lock.name.range.lo.number + more
      → i ≤ length places → IsPartitionPoint (λ p. is_before locks (spot_of lock) p ≡ true) (λ p. is_before locks (spot_of lock) p ≡ false) places i
      → IsSorted new more (insert places i place)
  sorted_with sorted le fits inside point =
      let same = pushed_same locks lock widest places within sorted in
      let still = sorted_still locks new widest places same sorted in
      let there = last_there locks lock within in
      let here : rank_of (lock_at new place) ≡ spot_rank (spot_of lock) = ap rank_of there in
      record {
        rising = IsNonDecreasingBy-insert (λ p. rank_of (lock_at new p)) places i place still.rising inside
            (λ k d below.
            let lt = ltb-true (rank_of (lock_at locks (get_or places k d))) (spot_rank (spot_of lock)) (point.0 k d (omega arith) below) in
            let now = ap rank_of (same k d (omega arith)) in omega arith)
            (λ k d from at.
            let le' = ltb-false (rank_of (lock_at locks (get_or places k d))) (spot_rank (spot_of lock)) (point.1 k d from at) in
            let now = ap rank_of (same k d at) in omega arith);
        narrow =
            let all : All (λ p. IsNarrow more (lock_at new p)) places = λ k d at. wider widest more (lock_at new (get_or places k d)) le (still.narrow k d at) in
            All-append (λ p. IsNarrow more (lock_at new p)) (take i places) (place ∷ drop i places)
            (All-take (λ p. IsNarrow more (lock_at new p)) i places all)
            (All-cons (λ p. IsNarrow more (lock_at new p)) place (drop i places)
            (subst (IsNarrow more) (sym there) fits)
            (All-drop (λ p. IsNarrow more (lock_at new p)) i places all));
      }

  pub counted_with : (number : ℕ) → IsOrdered locks number widest places → is_of_order number lock ≡ true
      → (test : Held → Bool) → count_by test (held_at new (insert places i place)) ≡ count_by (λ h. is_of_order number h && test h) (all_locks new)
  counted_with number ordered is test =
      let same = pushed_same locks lock widest places within ordered.sorted in
      let pass : Place → Bool = λ p. passes test (lock_at new p) in
      let inserted = sum_by-insert (λ p. cond {A = ℕ} (pass p) 1 0) places i place in
      let one : cond {A = ℕ} (pass place) 1 0 ≡ cond {A = ℕ} (test lock) 1 0 = ap (λ (o : Option Held). cond {A = ℕ} (passes test o) 1 0) (last_there locks lock within) in
      let all = count_held test new (insert places i place) in
      let old = count_held test new places in
      let here = ap (λ (x : List Held). count_by test x) (filter_map_agree (lock_at new) (lock_at locks) places same) in
      let before = ordered.counted test in
      let more_all = count_pushed (λ h. is_of_order number h && test h) locks lock within in
      let each = weight (is_of_order number lock) (test lock) is in
      omega arith

-- the list after an insert that had room
pub after_insert : {E : Type 0} (r : Result (Unit {0}) E) (items places : List Place) (i : ℕ) (place : Place)
    → items ≡ cond (is_ok r) (insert places i place) places → IsOk r → items ≡ insert places i place
after_insert (Ok x) items places i place e ok = e
after_insert (Err x) items places i place e ok = absurd (true≢false (sym ok))

pub added : (locks : Locks) (lock : Held) (number widest more i nth : ℕ) (places items : List Place) → lock.who < length locks
    → IsOrdered locks number widest places → is_of_order number lock ≡ true
    → widest ≤ more → lock.name.range.hi.number ≤ lock.name.range.lo.number + more
    → i ≤ length places → IsPartitionPoint (λ p. is_before locks (spot_of lock) p ≡ true) (λ p. is_before locks (spot_of lock) p ≡ false) places i
    → nth ≡ length (locks_of locks lock.who) → items ≡ insert places i (record { who = lock.who; nth = nth })
    → IsOrdered (pushed locks lock) number more items
added locks lock number widest more i nth places items within ordered is le fits inside point last e =
    let same : items ≡ insert places i (next_place locks lock) = e ∙ ap (λ (n : ℕ). insert places i (record { who = lock.who; nth = n })) last in
    subst (IsOrdered (pushed locks lock) number more) (sym same) (record {
      counted = counted_with locks lock within widest more places i number ordered is;
      sorted = sorted_with locks lock within widest more places i ordered.sorted le fits inside point;
    })

-- ---- a session's locks go

-- the place is of another session
abbrev pub is_other_place : ℕ → Place → Bool
is_other_place who p = not (p.who == who)

not_true : (b : Bool) → not b ≡ true → b ≡ false
not_true true e = sym e
not_true false e = refl

count_filter_step : {X : Type 0} (p q : X → Bool) (x : X) (xs : List X) (b : Bool) → count_by p (filter q xs) ≡ count_by (λ y. q y && p y) xs
    → count_by p (cond b (x ∷ filter q xs) (filter q xs)) ≡ cond (b && p x) 1 0 + count_by (λ y. q y && p y) xs
count_filter_step p q x xs true rest = sum_by-cons (λ y. cond (p y) 1 0) x (filter q xs) ∙ ap (λ (n : ℕ). cond (p x) 1 0 + n) rest
count_filter_step p q x xs false rest = omega (arith, rest)

count_filter : {X : Type 0} (p q : X → Bool) (xs : List X) → count_by p (filter q xs) ≡ count_by (λ x. q x && p x) xs
count_filter p q [] = refl
count_filter p q (x ∷ xs) = count_filter_step p q x xs (q x) (count_filter p q xs) ∙ sym (sum_by-cons (λ y. cond (q y && p y) 1 0) x xs)

cleared_same : (locks : Locks) (who : ℕ) (places : List Place) → SameThere locks (cleared locks who) (filter (is_other_place who) places)
cleared_same locks who places k d at =
    others_stay locks who (get_or (filter (is_other_place who) places) k d)
    (eqb-false _ who (not_true _ (filter_passes (is_other_place who) places k d at)))

sorted_filter : (locks : Locks) (widest : ℕ) (places : List Place) (q : Place → Bool) → IsSorted locks widest places → IsSorted locks widest (filter q places)
sorted_filter locks widest places q sorted = record {
  rising = IsNonDecreasingBy-filter (λ p. rank_of (lock_at locks p)) q places sorted.rising;
  narrow = All-filter q (λ p. IsNarrow widest (lock_at locks p)) places sorted.narrow;
}

-- a place is of another session where its lock is
same_owner : (locks : Locks) (who : ℕ) (test : Held → Bool) (place : Place) (widest : ℕ) → AreOwn locks → HasLock widest (lock_at locks place)
    → (is_other_place who place && passes test (lock_at locks place)) ≡ passes (λ h. is_of_other who h && test h) (lock_at locks place)
same_owner locks who test place widest own there =
    let h = there.0 in
    let same = (owner_there locks place h own there.1).1 in
    ap (λ (o : Option Held). is_other_place who place && passes test o) there.1
    ∙ ap (λ (w : ℕ). not (w == who) && test h) (sym same)
    ∙ sym (ap (λ (o : Option Held). passes (λ x. is_of_other who x && test x) o) there.1)

swapped : (a b c : Bool) → (a && (b && c)) ≡ (b && (a && c))
swapped true b c = refl
swapped false true c = refl
swapped false false c = refl

pub ordered_without : (locks : Locks) (who number widest : ℕ) (places : List Place) → AreOwn locks → who < length locks
    → IsOrdered locks number widest places → IsOrdered (cleared locks who) number widest (filter (is_other_place who) places)
ordered_without locks who number widest places own within ordered =
    let kept = filter (is_other_place who) places in
    let gone = cleared locks who in
    let same = cleared_same locks who places in
    record {
      counted = λ test.
          let there = ap (λ (x : List Held). count_by test x) (filter_map_agree (lock_at gone) (lock_at locks) kept same) in
          let at = count_held test locks kept in
          let filtered = count_filter (λ p. passes test (lock_at locks p)) (is_other_place who) places in
          let owners = count_agree (λ p. is_other_place who p && passes test (lock_at locks p)) (λ p. passes (λ h. is_of_other who h && test h) (lock_at locks p)) places
          (λ k d inside. same_owner locks who test (get_or places k d) widest own (narrow_there widest (lock_at locks (get_or places k d)) (ordered.sorted.narrow k d inside))) in
          let back = count_held (λ h. is_of_other who h && test h) locks places in
          let before = ordered.counted (λ h. is_of_other who h && test h) in
          let turned = count_agree (λ h. is_of_order number h && (is_of_other who h && test h)) (λ h. is_of_other who h && (is_of_order number h && test h)) (all_locks locks)
          (λ k d _. swapped (is_of_order number (get_or (all_locks locks) k d)) (is_of_other who (get_or (all_locks locks) k d)) (test (get_or (all_locks locks) k d))) in
          let after = count_cleared (λ h. is_of_order number h && test h) locks who own within in
          omega arith;
      sorted = sorted_still locks gone widest kept same (sorted_filter locks widest places (is_other_place who) ordered.sorted);
    }

-- an empty order is as narrow as one likes
pub sorted_none : (locks : Locks) (widest : ℕ) (places : List Place) → places ≡ [] → IsSorted locks widest places
sorted_none locks widest places none = subst (IsSorted locks widest) (sym none) (record { rising = λ i j d le within. absurd (omega arith); narrow = λ k d within. absurd (omega arith) })
