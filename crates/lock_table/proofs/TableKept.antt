-- A table of locks after a change.
use Rattle.std.proofs.Common.{◌≡◌, ℕ, zero, suc, ◌+◌, ◌<◌, ◌≤◌, ◌%◌, Bool, true, ◌&&◌, List, [], ◌∷◌, ◌++◌, length, get_or, take, drop, refl, sym, ◌∙◌, ap, subst, arith, inl, inr, set, length-set, replicate}
use Rattle.std.proofs.lemmas.Bool.{cases_eq, cases_lt, ne_eqb}
use Rattle.std.proofs.lemmas.List.{get_or-set_same, get_or-set_other, get_or-replicate, length_push, get_or_default, get_or_past, drop_all, take_all, append-nil, length-replicate}
use Rattle.std.proofs.lemmas.List.Elements.{All-push, All-set, All-from_get_or, All-nil}
use Rattle.std.proofs.lemmas.List.Sums.{sum_by-cons, sum_by-set, sum_by-le, sum_by-le-sum_by, count_by-le-length}
use Rattle.std.specs.Prelude.{vec_capacity}
use Rattle.std.specs.List.{count_by, sum_by, All}
use Rattle.key_space.specs.declared.lock.Held.{Held}
use Rattle.key_space.specs.Locks.{IsOfKeys}
use Rattle.lock_table.specs.declared.order.Order.{Order}
use Rattle.lock_table.specs.declared.place.Place.{Place}
use Rattle.lock_table.specs.Locks.{Locks, locks_of, all_locks}
use Rattle.lock_table.specs.Orders.{lock_at, held_at, is_of_order, IsOwn, AreOwn, IsSorted, IsOrdered, pushed, cleared}
use Rattle.lock_table.specs.Tables.{IsNew, IsKept, AreKept, IsTable}
use Rattle.lock_table.proofs.Counts.{count_agree, count_held, count_all, passes}
use Rattle.lock_table.proofs.OrderKept.{narrow_there, others_kept, sorted_none}

-- ---- there is room for one more

every : {X : Type 0} (xs : List X) → count_by (λ _. true) xs ≡ length xs
every [] = refl
every (x ∷ xs) = omega (arith, sum_by-cons (λ _. 1) x xs, every xs)

all_pass : {X : Type 0} (p : X → Bool) (xs : List X) → All (λ x. p x ≡ true) xs → count_by p xs ≡ length xs
all_pass p xs all = count_agree p (λ _. true) xs all ∙ every xs

length_places : (locks : Locks) (widest : ℕ) (places : List Place) → IsSorted locks widest places → length places ≡ count_by (λ _. true) (held_at locks places)
length_places locks widest places sorted =
    sym (count_held (λ _. true) locks places
    ∙ all_pass (λ p. passes (λ _. true) (lock_at locks p)) places (λ k d within.
    ap (passes (λ _. true)) (narrow_there widest (lock_at locks (get_or places k d)) (sorted.narrow k d within)).1))

all_few : (locks : Locks) → length locks ≡ 17 → AreOwn locks → (lock : Held) → lock.who < length locks → length (locks_of locks lock.who) < 1024
    → sum_by (λ own. length own) locks < 17408
all_few locks seventeen own lock within room =
    let few : All (λ x. length x ≤ 1024) locks = All-from_get_or (λ x. length x ≤ 1024) locks [] (λ k inside. (own k inside).few) in
    let more : All (λ x. length x ≤ 1024) (pushed locks lock) = All-set (λ x. length x ≤ 1024) locks lock.who (locks_of locks lock.who ++ lock ∷ []) (omega (arith, length_push (locks_of locks lock.who) lock)) few in
    let bound = sum_by-le (λ (x : List Held). length x) 1024 (pushed locks lock) more in
    let long = length-set locks lock.who (locks_of locks lock.who ++ lock ∷ []) in
    let parts = sum_by-set (λ (x : List Held). length x) locks lock.who (locks_of locks lock.who ++ lock ∷ []) [] within in
    omega (arith, length_push (locks_of locks lock.who) lock)

lower : (test : Held → Bool) (locks : Locks) → sum_by (λ own. count_by test own) locks ≤ sum_by (λ own. length own) locks
lower test locks = sum_by-le-sum_by (λ own. count_by test own) (λ own. length own) locks (λ own. count_by-le-length test own)

count_all_length : (test : Held → Bool) (locks : Locks) → count_by test (all_locks locks) ≤ sum_by (λ own. length own) locks
count_all_length test locks = omega (arith, count_all test locks, lower test locks)

pub has_room : (locks : Locks) (orders : List Order) (number : ℕ) (order : Order) (lock : Held) → IsTable locks orders → IsKept locks number order
    → lock.who < length locks → length (locks_of locks lock.who) < 1024 → length order.places.items < vec_capacity order.places
has_room locks orders number order lock table kept within few =
    let long = length_places locks order.widest order.places.items kept.ordered.sorted in
    let counted = kept.ordered.counted (λ _. true) in
    let bound = count_all_length (λ h. is_of_order number h && true) locks in
    let sum = all_few locks table.sessions table.own lock within few in
    let room = kept.room in
    omega arith

-- ---- a lock is added

own_pushed : (locks : Locks) (lock : Held) → AreOwn locks → lock.who < length locks → IsOfKeys lock → length (locks_of locks lock.who) < 1024 → AreOwn (pushed locks lock)
own_pushed locks lock own within keys few k inside = elim (cases_eq k lock.who) [
  | inl same ↦
      let before = own lock.who within in
      let now : locks_of (pushed locks lock) k ≡ locks_of locks lock.who ++ lock ∷ [] =
      ap (λ (i : ℕ). locks_of (pushed locks lock) i) same ∙ get_or-set_same locks lock.who (locks_of locks lock.who ++ lock ∷ []) [] within in
      subst (IsOwn k) (sym now) (subst (λ (i : ℕ). IsOwn i (locks_of locks lock.who ++ lock ∷ [])) (sym same) (record {
        mine = All-push (λ h. h.who ≡ lock.who) (locks_of locks lock.who) lock before.mine refl;
        ranges = All-push IsOfKeys (locks_of locks lock.who) lock before.ranges keys;
        few = omega (arith, length_push (locks_of locks lock.who) lock);
      }))
  | inr other ↦
      let now : locks_of (pushed locks lock) k ≡ locks_of locks k = get_or-set_other locks lock.who k (locks_of locks lock.who ++ lock ∷ []) [] other in
      subst (IsOwn k) (sym now) (own k (omega (arith, length-set locks lock.who (locks_of locks lock.who ++ lock ∷ []))))
]

pub table_pushed : (locks : Locks) (orders : List Order) (lock : Held) (order : Order) → IsTable locks orders → lock.who < length locks
    → IsOfKeys lock → length (locks_of locks lock.who) < 1024 → IsKept (pushed locks lock) (lock.name.table % 16) order
    → IsTable (pushed locks lock) (set orders (lock.name.table % 16) order)
table_pushed locks orders lock order table within keys few kept =
    let number = lock.name.table % 16 in
    record {
      sessions = length-set locks lock.who (locks_of locks lock.who ++ lock ∷ []) ∙ table.sessions;
      own = own_pushed locks lock table.own within keys few;
      kept = record {
        all = length-set orders number order ∙ table.kept.all;
        each = λ k d below. elim (cases_eq k number) [
          | inl same ↦
              let now : get_or (set orders number order) k d ≡ order = ap (λ (i : ℕ). get_or (set orders number order) i d) same ∙ get_or-set_same orders number order d (omega (arith, table.kept.all, same)) in
              subst (IsKept (pushed locks lock) k) (sym now) (subst (λ (i : ℕ). IsKept (pushed locks lock) i order) (sym same) kept)
          | inr other ↦
              let now : get_or (set orders number order) k d ≡ get_or orders k d = get_or-set_other orders number k order d other in
              let old = table.kept.each k d below in
              subst (IsKept (pushed locks lock) k) (sym now) (record {
                ordered = others_kept locks lock k (get_or orders k d).widest (get_or orders k d).places.items within (ne_eqb number k (λ e. other (sym e))) old.ordered;
                room = old.room;
              })
        ];
      };
    }

-- ---- a session's locks go

own_cleared : (locks : Locks) (who : ℕ) → AreOwn locks → who < length locks → AreOwn (cleared locks who)
own_cleared locks who own within k inside = elim (cases_eq k who) [
  | inl same ↦
      let now : locks_of (cleared locks who) k ≡ [] = ap (λ (i : ℕ). locks_of (cleared locks who) i) same ∙ get_or-set_same locks who [] [] within in
      subst (IsOwn k) (sym now) (record { mine = All-nil (λ h. h.who ≡ k); ranges = All-nil IsOfKeys; few = omega arith })
  | inr other ↦
      let now : locks_of (cleared locks who) k ≡ locks_of locks k = get_or-set_other locks who k [] [] other in
      subst (IsOwn k) (sym now) (own k (omega (arith, length-set locks who [])))
]

pub table_cleared : (locks : Locks) (orders now : List Order) (who : ℕ) → IsTable locks orders → who < length locks → AreKept (cleared locks who) now → IsTable (cleared locks who) now
table_cleared locks orders now who table within kept = record {
  sessions = length-set locks who [] ∙ table.sessions;
  own = own_cleared locks who table.own within;
  kept = kept;
}

-- what is written through a slice of a whole list
pub written_whole : (n : ℕ) (now orders : List Order) → length now ≡ length orders → n ≡ length orders → take n (now ++ drop (length now) orders) ≡ now
written_whole n now orders same whole =
    ap (λ (x : List Order). take n (now ++ x)) (drop_all (length now) orders (omega arith))
    ∙ ap (λ (x : List Order). take n x) (append-nil now)
    ∙ take_all n now (omega arith)

-- one more order is without the session's places
pub release_more : (before done : List Order) (who i : ℕ) (was order : Order) → i < length done → was ≡ get_or done i was
    → ((locks : Locks) (number : ℕ) → AreOwn locks → who < length locks → IsOrdered locks number was.widest was.places.items
    → IsOrdered (cleared locks who) number order.widest order.places.items)
    → vec_capacity order.places ≡ vec_capacity was.places
    → ((k : ℕ) (d : Order) → i ≤ k → get_or done k d ≡ get_or before k d)
    → ((locks : Locks) (k : ℕ) (d : Order) → AreOwn locks → who < length locks → k < i → IsKept locks k (get_or before k d) → IsKept (cleared locks who) k (get_or done k d))
    → (locks : Locks) (k : ℕ) (d : Order) → AreOwn locks → who < length locks → k < i + 1 → IsKept locks k (get_or before k d) → IsKept (cleared locks who) k (get_or (set done i order) k d)
release_more before done who i was order within read released same rest sofar locks k d own inside below kept = elim (cases_eq k i) [
  | inl at ↦
      let now : get_or (set done i order) k d ≡ order = ap (λ (j : ℕ). get_or (set done i order) j d) at ∙ get_or-set_same done i order d within in
      let first : get_or before k d ≡ was = sym (rest k d (omega arith)) ∙ ap (λ (j : ℕ). get_or done j d) at ∙ get_or_default done i d was within ∙ sym read in
      let old : IsKept locks k was = subst (IsKept locks k) first kept in
      let room : 17408 ≤ vec_capacity order.places = omega (arith, old.room) in
      subst (IsKept (cleared locks who) k) (sym now) (record { ordered = released locks k own inside old.ordered; room = room })
  | inr other ↦
      subst (IsKept (cleared locks who) k) (sym (get_or-set_other done i k order d other)) (sofar locks k d own inside (omega arith) kept)
]

-- ---- none at first

no_locks_at : (n k : ℕ) → locks_of (replicate n []) k ≡ []
no_locks_at n k = elim (cases_lt k n) [
  | inl lt ↦ get_or-replicate n k [] [] lt
  | inr le ↦ get_or_past (replicate n []) k [] (omega (arith, length-replicate {A = List Held} n []))
]

no_all : (n : ℕ) → all_locks (replicate n []) ≡ []
no_all zero = refl
no_all (suc n) = no_all n

pub new_kept : (number : ℕ) (order : Order) → IsNew order → IsKept (replicate 17 []) number order
new_kept number order is = record {
  ordered = record {
    counted = λ test. ap (λ (x : List Place). count_by test (held_at (replicate 17 []) x)) is.none
        ∙ sym (ap (λ (x : List Held). count_by (λ h. is_of_order number h && test h) x) (no_all 17));
    sorted = sorted_none (replicate 17 []) order.widest order.places.items is.none;
  };
  room = is.room;
}

pub all_new : (orders : List Order) → length orders ≡ 16 → All IsNew orders → AreKept (replicate 17 []) orders
all_new orders sixteen each = record { all = sixteen; each = λ k d below. new_kept k (get_or orders k d) (each k d (omega arith)) }

pub table_new : (locks : Locks) (orders : List Order) → locks ≡ replicate 17 [] → AreKept (replicate 17 []) orders → IsTable locks orders
table_new locks orders none kept = subst (λ (x : Locks). IsTable x orders) (sym none) (record {
  sessions = length-replicate {A = List Held} 17 [];
  own = λ k inside. subst (IsOwn k) (sym (no_locks_at 17 k)) (record { mine = All-nil (λ h. h.who ≡ k); ranges = All-nil IsOfKeys; few = omega arith });
  kept = kept;
})
