-- Counts of locks, by session and by place.
use Rattle.std.proofs.Common.{◌≡◌, ℕ, ◌+◌, ◌<◌, ◌≢◌, Bool, true, false, not, ◌&&◌, cond, List, [], ◌∷◌, ◌++◌, length, get_or, refl, sym, ◌∙◌, ap, arith, inl, inr, length-set}
use Rattle.std.proofs.lemmas.Bool.{cases_eq, cases_lt, eq-eqb, ne_eqb}
use Rattle.std.proofs.lemmas.Option.{none-some, slice_get-get_or, get_or_from_slice_get, slice_get_within}
use Rattle.std.proofs.lemmas.List.{get_or-set_same, get_or-set_other, get_or_past, get_or_append_left, get_or_push, length_push}
use Rattle.std.proofs.lemmas.List.Elements.{All-head, All-tail, All-from_get_or}
use Rattle.std.proofs.lemmas.List.Sums.{sum_by-cons, sum_by-append, sum_by_push, sum_by-set}
use Rattle.std.specs.Prelude.{Option, None, Some, slice_get, ◌==◌}
use Rattle.std.specs.List.{cons_option, count_by, sum_by, All}
use Rattle.key_space.specs.declared.lock.Held.{Held}
use Rattle.lock_table.specs.declared.place.Place.{Place}
use Rattle.lock_table.specs.Locks.{Locks, locks_of, all_locks}
use Rattle.lock_table.specs.Orders.{lock_at, held_at, pushed, cleared, AreOwn}

-- terms that agree add up to the same
pub sum_agree : {X : Type 0} (f g : X → ℕ) (xs : List X) → All (λ x. f x ≡ g x) xs → sum_by f xs ≡ sum_by g xs
sum_agree f g [] same = refl
sum_agree f g (x ∷ xs) same =
    omega (arith, sum_by-cons f x xs, sum_by-cons g x xs, All-head (λ y. f y ≡ g y) x xs same, sum_agree f g xs (All-tail (λ y. f y ≡ g y) x xs same))

pub count_agree : {X : Type 0} (p q : X → Bool) (xs : List X) → All (λ x. p x ≡ q x) xs → count_by p xs ≡ count_by q xs
count_agree p q xs same = sum_agree (λ x. cond (p x) 1 0) (λ x. cond (q x) 1 0) xs (λ k d within. ap (λ (b : Bool). cond b 1 0) (same k d within))

one : (b : Bool) → b ≡ true → cond {A = ℕ} b 1 0 ≡ 1
one b e = rw e

nothing : (b : Bool) → b ≡ false → cond {A = ℕ} b 1 0 ≡ 0
nothing b e = rw e

pub count_nothing : {X : Type 0} (p : X → Bool) (xs : List X) → All (λ x. p x ≡ false) xs → count_by p xs ≡ 0
count_nothing p [] none = refl
count_nothing p (x ∷ xs) none =
    omega (arith, sum_by-cons (λ y. cond (p y) 1 0) x xs, nothing (p x) (All-head (λ y. p y ≡ false) x xs none), count_nothing p xs (All-tail (λ y. p y ≡ false) x xs none))

-- the test passes the lock, where there is one
abbrev pub passes : (Held → Bool) → Option Held → Bool
passes test None = false
passes test (Some h) = test h

count_option : (test : Held → Bool) (o : Option Held) (held : List Held) → count_by test (cons_option o held) ≡ cond (passes test o) 1 0 + count_by test held
count_option test None held = omega arith
count_option test (Some h) held = sum_by-cons (λ x. cond (test x) 1 0) h held

pub count_held : (test : Held → Bool) (locks : Locks) (places : List Place) → count_by test (held_at locks places) ≡ count_by (λ p. passes test (lock_at locks p)) places
count_held test locks [] = refl
count_held test locks (p ∷ places) =
    count_option test (lock_at locks p) (held_at locks places)
    ∙ ap (λ (n : ℕ). cond (passes test (lock_at locks p)) 1 0 + n) (count_held test locks places)
    ∙ sym (sum_by-cons (λ q. cond (passes test (lock_at locks q)) 1 0) p places)

pub count_all : (test : Held → Bool) (locks : Locks) → count_by test (all_locks locks) ≡ sum_by (λ own. count_by test own) locks
count_all test [] = refl
count_all test (own ∷ locks) =
    sum_by-append (λ h. cond (test h) 1 0) own (all_locks locks)
    ∙ ap (λ (n : ℕ). count_by test own + n) (count_all test locks)
    ∙ sym (sum_by-cons (λ x. count_by test x) own locks)

-- ---- a lock is added

pub count_pushed : (test : Held → Bool) (locks : Locks) (lock : Held) → lock.who < length locks
    → count_by test (all_locks (pushed locks lock)) ≡ count_by test (all_locks locks) + cond (test lock) 1 0
count_pushed test locks lock within =
    let count = λ (own : List Held). count_by test own in
    let own = locks_of locks lock.who in
    omega (arith, count_all test locks, count_all test (pushed locks lock), sum_by-set count locks lock.who (own ++ lock ∷ []) [] within, sum_by_push (λ h. cond (test h) 1 0) own lock)

push_at : (own : List Held) (lock h : Held) (nth : ℕ) → slice_get own nth ≡ Some h → slice_get (own ++ lock ∷ []) nth ≡ Some h
push_at own lock h nth there =
    let within = slice_get_within own nth h there in
    slice_get-get_or (own ++ lock ∷ []) nth h (omega (arith, length_push own lock))
    ∙ ap (λ (x : Held). Some x) (get_or_append_left own (lock ∷ []) h nth within ∙ get_or_from_slice_get own nth h h there)

pub still_there : (locks : Locks) (lock h : Held) (place : Place) → lock.who < length locks
    → lock_at locks place ≡ Some h → lock_at (pushed locks lock) place ≡ Some h
still_there locks lock h place within there = let who = lock.who in elim (cases_eq place.who who) [
  | inl same ↦
      ap (λ (own : List Held). slice_get own place.nth) (ap (λ (w : ℕ). locks_of (pushed locks lock) w) same ∙ get_or-set_same locks who (locks_of locks who ++ lock ∷ []) [] within)
      ∙ push_at (locks_of locks who) lock h place.nth (sym (ap (λ (w : ℕ). slice_get (locks_of locks w) place.nth) same) ∙ there)
  | inr other ↦
      ap (λ (own : List Held). slice_get own place.nth) (get_or-set_other locks who place.who (locks_of locks who ++ lock ∷ []) [] other) ∙ there
]

pub last_there : (locks : Locks) (lock : Held) → lock.who < length locks
    → lock_at (pushed locks lock) (record { who = lock.who; nth = length (locks_of locks lock.who) }) ≡ Some lock
last_there locks lock within =
    let who = lock.who in
    let own = locks_of locks who in
    ap (λ (x : List Held). slice_get x (length own)) (get_or-set_same locks who (own ++ lock ∷ []) [] within)
    ∙ slice_get-get_or (own ++ lock ∷ []) (length own) lock (omega (arith, length_push own lock))
    ∙ ap (λ (x : Held). Some x) (get_or_push own lock lock (length own) refl)

-- ---- a session's locks go

pub others_stay : (locks : Locks) (who : ℕ) (place : Place) → place.who ≢ who → lock_at (cleared locks who) place ≡ lock_at locks place
others_stay locks who place other = ap (λ (own : List Held). slice_get own place.nth) (get_or-set_other locks who place.who [] [] other)

-- the lock at a place is of the place's session
pub owner_there : (locks : Locks) (place : Place) (h : Held) → AreOwn locks → lock_at locks place ≡ Some h → (place.who < length locks) × (h.who ≡ place.who)
owner_there locks place h own there =
    let inside : place.who < length locks = elim (cases_lt place.who (length locks)) [
      | inl lt ↦ lt
      | inr le ↦ absurd (none-some h (sym (ap (λ (x : List Held). slice_get x place.nth) (get_or_past locks place.who [] le)) ∙ there))
    ] in
    let within = slice_get_within (locks_of locks place.who) place.nth h there in
    (inside, sym (ap (λ (x : Held). x.who) (get_or_from_slice_get (locks_of locks place.who) place.nth h h there)) ∙ (own place.who inside).mine place.nth h within)

-- the lock is of another session
abbrev pub is_of_other : ℕ → Held → Bool
is_of_other who h = not (h.who == who)

module _ (test : Held → Bool) (locks : Locks) (who : ℕ) (own : AreOwn locks) (within : who < length locks) where
  abbrev left : Held → Bool
  left h = is_of_other who h && test h

  own_left : All (λ h. left h ≡ false) (locks_of locks who)
  own_left k d inside = ap (λ (b : Bool). not b && test (get_or (locks_of locks who) k d)) (eq-eqb _ who ((own who within).mine k d inside))

  other_left : (other : ℕ) → other < length locks → other ≢ who → All (λ h. left h ≡ test h) (locks_of locks other)
  other_left other inside differs k d at =
      ap (λ (b : Bool). not b && test (get_or (locks_of locks other) k d)) (ne_eqb _ who (λ e. differs (sym ((own other inside).mine k d at) ∙ e)))

  each_left : All (λ x. count_by left x ≡ count_by test x) (cleared locks who)
  each_left = All-from_get_or (λ x. count_by left x ≡ count_by test x) (cleared locks who) [] (λ k inside. elim (cases_eq k who) [
    | inl same ↦
        let none : get_or (cleared locks who) k [] ≡ [] = ap (λ (i : ℕ). get_or (cleared locks who) i []) same ∙ get_or-set_same locks who [] [] within in
        ap (λ (x : List Held). count_by left x) none ∙ sym (ap (λ (x : List Held). count_by test x) none)
    | inr other ↦
        let same : get_or (cleared locks who) k [] ≡ locks_of locks k = get_or-set_other locks who k [] [] other in
        ap (λ (x : List Held). count_by left x) same
        ∙ count_agree left test (locks_of locks k) (other_left k (omega (arith, length-set locks who [])) other)
        ∙ sym (ap (λ (x : List Held). count_by test x) same)
  ])

  pub count_cleared : count_by test (all_locks (cleared locks who)) ≡ count_by (λ h. is_of_other who h && test h) (all_locks locks)
  count_cleared =
      let gone : count_by left (locks_of locks who) ≡ 0 = count_nothing left (locks_of locks who) own_left in
      let same = sum_agree (λ (x : List Held). count_by left x) (λ (x : List Held). count_by test x) (cleared locks who) each_left in
      let parts = sum_by-set (λ (x : List Held). count_by left x) locks who [] [] within in
      omega (arith, count_all test (cleared locks who), count_all left locks)

-- ---- how many a session has

no_sum : {X : Type 0} (xs : List X) → sum_by (λ _. 0) xs ≡ 0
no_sum [] = refl
no_sum (x ∷ xs) = omega (arith, sum_by-cons (λ _. 0) x xs, no_sum xs)

module _ (locks : Locks) (who : ℕ) (own : AreOwn locks) (within : who < length locks) where
  abbrev of_it : Held → Bool
  of_it h = h.who == who

  all_own : (xs : List Held) → All (λ h. h.who ≡ who) xs → count_by of_it xs ≡ length xs
  all_own [] mine = refl
  all_own (h ∷ xs) mine =
      omega (arith, sum_by-cons (λ x. cond (of_it x) 1 0) h xs, one (of_it h) (eq-eqb h.who who (All-head (λ x. x.who ≡ who) h xs mine)), all_own xs (All-tail (λ x. x.who ≡ who) h xs mine))

  none_own : All (λ x. count_by of_it x ≡ 0) (cleared locks who)
  none_own = All-from_get_or (λ x. count_by of_it x ≡ 0) (cleared locks who) [] (λ k inside. elim (cases_eq k who) [
    | inl same ↦ ap (λ (x : List Held). count_by of_it x) (ap (λ (i : ℕ). get_or (cleared locks who) i []) same ∙ get_or-set_same locks who [] [] within)
    | inr other ↦
        let at : k < length locks = omega (arith, length-set locks who []) in
        ap (λ (x : List Held). count_by of_it x) (get_or-set_other locks who k [] [] other)
        ∙ count_nothing of_it (locks_of locks k) (λ j d below. ne_eqb _ who (λ e. other (sym ((own k at).mine j d below) ∙ e)))
  ])

  pub own_counted : count_by (λ h. h.who == who) (all_locks locks) ≡ length (locks_of locks who)
  own_counted =
      let count = λ (x : List Held). count_by of_it x in
      let none : sum_by count (cleared locks who) ≡ sum_by (λ _. 0) (cleared locks who) = sum_agree count (λ _. 0) (cleared locks who) none_own in
      let parts = sum_by-set count locks who [] [] within in
      let here = all_own (locks_of locks who) (own who within).mine in
      omega (arith, count_all of_it locks, no_sum (cleared locks who))
