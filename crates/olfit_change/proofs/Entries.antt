-- What putting an entry into a list of rising entries, taking one out and cutting the list make of it.
use Rattle.std.proofs.Common.{◌≡◌, ◌≢◌, ◌⊎◌, ℕ, zero, suc, ◌+◌, ◌<◌, ◌≤◌, nat_le, Bool, cond, eqb, List, [], ◌∷◌, length, take, drop, get_or, Option, Some, None, sym, refl, ap, ◌∙◌, subst, arith, inl, inr, ⊎_elim, eq-eqb, get_or-take, get_or-drop, length-drop}
use Rattle.std.specs.Prelude.{slice_get, IfSome}
use Rattle.std.specs.List.{All, Contains, count_by, insert, remove}
use Rattle.std.proofs.lemmas.Bool.{cases_lt, cases_eq, ne_eqb, le-leb, lt-leb}
use Rattle.std.proofs.lemmas.List.{length-take-le, get_or_default, take-append-drop}
use Rattle.std.proofs.lemmas.List.Sums.{sum_by-cons, count_by-le-length}
use Rattle.std.proofs.lemmas.List.Elements.{All-append, All-take, All-drop, All-cons, Contains-append_cases, Contains-append_left, Contains-append_right, Contains-get_or}
use Rattle.olfit_nodes.specs.Nodes.{Entry, Rises}
use Rattle.olfit_rule.specs.Maps.{map_of}

-- how many entries have keys of at most this
abbrev pub place : ℕ → List Entry → ℕ
place k xs = count_by (λ (e : Entry). nat_le e.0 k) xs

abbrev Above : ℕ → List Entry → Type 0
Above k xs = All (λ (e : Entry). k < e.0) xs

-- a value at one key, else what a map says
abbrev pub with_key : ℕ → Option ℕ → Option ℕ → ℕ → Option ℕ
with_key k value old q = cond (eqb k q) value old

pub with_other : (k q : ℕ) (value old : Option ℕ) → k ≢ q → with_key k value old q ≡ old
with_other k q value old other = ap (λ (b : Bool). cond b value old) (ne_eqb k q other)

pub with_same : (k q : ℕ) (value old : Option ℕ) → k ≡ q → with_key k value old q ≡ value
with_same k q value old same = ap (λ (b : Bool). cond b value old) (eq-eqb k q same)

-- rising lists

rises_cons : (x : Entry) (xs : List Entry) → Above x.0 xs → Rises xs → Rises (x ∷ xs)
rises_cons x xs a r zero zero d lt inside = absurd (omega arith)
rises_cons x xs a r zero (suc j) d lt inside = a j d (omega arith)
rises_cons x xs a r (suc i) zero d lt inside = absurd (omega arith)
rises_cons x xs a r (suc i) (suc j) d lt inside = r i j d (omega arith) (omega arith)

pub rises_tail : (x : Entry) (xs : List Entry) → Rises (x ∷ xs) → Rises xs
rises_tail x xs r i j d lt inside = r (suc i) (suc j) d (omega arith) (omega arith)

rises_head : (x : Entry) (xs : List Entry) → Rises (x ∷ xs) → Above x.0 xs
rises_head x xs r j d inside = r 0 (suc j) d (omega arith) (omega arith)

pub rises_take : (n : ℕ) (xs : List Entry) → n ≤ length xs → Rises xs → Rises (take n xs)
rises_take n xs most r i j d lt inside =
    let len = length-take-le n xs most in
    subst (λ (e : Entry). e.0 < (get_or (take n xs) j d).0) (sym (get_or-take n xs i d (omega arith)))
    (subst (λ (e : Entry). (get_or xs i d).0 < e.0) (sym (get_or-take n xs j d (omega arith))) (r i j d lt (omega arith)))

pub rises_drop : (n : ℕ) (xs : List Entry) → Rises xs → Rises (drop n xs)
rises_drop n xs r i j d lt inside =
    let len = length-drop n xs in
    subst (λ (e : Entry). e.0 < (get_or (drop n xs) j d).0) (sym (get_or-drop n xs i d))
    (subst (λ (e : Entry). (get_or xs (n + i) d).0 < e.0) (sym (get_or-drop n xs j d)) (r (n + i) (n + j) d (omega arith) (omega arith)))

-- of a key below all entries nothing is said
pub absent_below : (xs : List Entry) (q : ℕ) → ((i : ℕ) (d : Entry) → i < length xs → (get_or xs i d).0 ≢ q) → map_of xs q ≡ None
absent_below [] q other = refl
absent_below (x ∷ xs) q other = ap (λ (b : Bool). cond b (Some x.1) (map_of xs q)) (ne_eqb x.0 q (other 0 (0, 0) (omega arith))) ∙ absent_below xs q (λ i d h. other (suc i) d (omega arith))

absent_above : (xs : List Entry) (k q : ℕ) → Above k xs → q ≤ k → map_of xs q ≡ None
absent_above xs k q above le = absent_below xs q (λ i d h e. let a = above i d h in omega arith)

-- an absent key isn't that of an entry
pub other_key : (x : Entry) (xs : List Entry) (q : ℕ) → map_of (x ∷ xs) q ≡ None → x.0 ≢ q
other_key x xs q none e = some_none x.1 (sym (ap (λ (b : Bool). cond b (Some x.1) (map_of xs q)) (eq-eqb x.0 q e)) ∙ none)
  where
    some_none : (v : ℕ) → Some v ≡ None → ⊥
    some_none v is = cc

pub absent_tail : (x : Entry) (xs : List Entry) (q : ℕ) → map_of (x ∷ xs) q ≡ None → map_of xs q ≡ None
absent_tail x xs q none = sym (ap (λ (b : Bool). cond b (Some x.1) (map_of xs q)) (ne_eqb x.0 q (other_key x xs q none))) ∙ none

-- an entry is put in

pub map_insert : (xs : List Entry) (p k v q : ℕ) → p ≤ length xs → map_of xs k ≡ None → map_of (insert xs p (k, v)) q ≡ with_key k (Some v) (map_of xs q) q
map_insert xs zero k v q most none = refl
map_insert [] (suc p) k v q most none = absurd (omega arith)
map_insert (x ∷ xs) (suc p) k v q most none = by_key (map_insert xs p k v q (omega arith) (absent_tail x xs k none)) (cases_eq x.0 q)
  where
    by_key : map_of (insert xs p (k, v)) q ≡ with_key k (Some v) (map_of xs q) q → (x.0 ≡ q) ⊎ (x.0 ≡ q → ⊥) → map_of (x ∷ insert xs p (k, v)) q ≡ with_key k (Some v) (map_of (x ∷ xs) q) q
    by_key so (inl e) =
        let here = eq-eqb x.0 q e in let apart : k ≢ q = λ f. other_key x xs k none (e ∙ sym f) in
        ap (λ (b : Bool). cond b (Some x.1) (map_of (insert xs p (k, v)) q)) here ∙ (sym (ap (λ (b : Bool). cond b (Some x.1) (map_of xs q)) here) ∙ sym (with_other k q (Some v) (map_of (x ∷ xs) q) apart))
    by_key so (inr n) =
        let away = ne_eqb x.0 q n in
        ap (λ (b : Bool). cond b (Some x.1) (map_of (insert xs p (k, v)) q)) away ∙ (so ∙ ap (λ (o : Option ℕ). with_key k (Some v) o q) (sym (ap (λ (b : Bool). cond b (Some x.1) (map_of xs q)) away)))

-- one entry more
place_yes : (k : ℕ) (x : Entry) (xs : List Entry) → x.0 ≤ k → place k (x ∷ xs) ≡ suc (place k xs)
place_yes k x xs le =
    let more = sum_by-cons (λ (e : Entry). cond {A = ℕ} (nat_le e.0 k) 1 0) x xs in
    let one : cond {A = ℕ} (nat_le x.0 k) 1 0 ≡ 1 = ap (λ (b : Bool). cond {A = ℕ} b 1 0) (le-leb x.0 k le) in omega (arith, more, one)

place_no : (k : ℕ) (x : Entry) (xs : List Entry) → k < x.0 → place k (x ∷ xs) ≡ place k xs
place_no k x xs lt =
    let more = sum_by-cons (λ (e : Entry). cond {A = ℕ} (nat_le e.0 k) 1 0) x xs in
    let nothing : cond {A = ℕ} (nat_le x.0 k) 1 0 ≡ 0 = ap (λ (b : Bool). cond {A = ℕ} b 1 0) (lt-leb x.0 k lt) in omega (arith, more, nothing)

place_none : (k : ℕ) (xs : List Entry) → Above k xs → place k xs ≡ 0
place_none k [] above = refl
place_none k (x ∷ xs) above = place_no k x xs (above 0 (0, 0) (omega arith)) ∙ place_none k xs (λ i d h. above (suc i) d (omega arith))

pub place_most : (k : ℕ) (xs : List Entry) → place k xs ≤ length xs
place_most k xs = count_by-le-length (λ (e : Entry). nat_le e.0 k) xs

All-insert : {X : Type 0} (P : X → Type 0) (xs : List X) (p : ℕ) (e : X) → All P xs → P e → All P (insert xs p e)
All-insert P xs p e all here = All-append P (take p xs) (e ∷ drop p xs) (All-take P p xs all) (All-cons P e (drop p xs) here (All-drop P p xs all))

pub rises_insert : (xs : List Entry) (k v : ℕ) → Rises xs → map_of xs k ≡ None → Rises (insert xs (place k xs) (k, v))
rises_insert [] k v rises none = λ i j d lt inside. absurd (omega arith)
rises_insert (x ∷ xs) k v rises none = by_order (rises_insert xs k v (rises_tail x xs rises) (absent_tail x xs k none)) (cases_lt k x.0)
  where
    by_order : Rises (insert xs (place k xs) (k, v)) → (k < x.0) ⊎ (x.0 ≤ k) → Rises (insert (x ∷ xs) (place k (x ∷ xs)) (k, v))
    by_order so (inl below) =
        let head = rises_head x xs rises in
        let above : Above k (x ∷ xs) = All-cons (λ (e : Entry). k < e.0) x xs below (λ i d h. let a = head i d h in omega arith) in
        subst (λ (p : ℕ). Rises (insert (x ∷ xs) p (k, v))) (sym (place_none k (x ∷ xs) above)) (rises_cons (k, v) (x ∷ xs) above rises)
    by_order so (inr at_most) =
        let apart = other_key x xs k none in
        let at = place_yes k x xs at_most in
        subst (λ (p : ℕ). Rises (insert (x ∷ xs) p (k, v))) (sym at)
        (rises_cons x (insert xs (place k xs) (k, v)) (All-insert (λ (e : Entry). x.0 < e.0) xs (place k xs) (k, v) (rises_head x xs rises) (omega arith)) so)

pub all_insert : (P : Entry → Type 0) (xs : List Entry) (p : ℕ) (e : Entry) → All P xs → P e → All P (insert xs p e)
all_insert P xs p e all here = All-insert P xs p e all here

-- an entry is taken out

pub map_remove : (xs : List Entry) (p k q : ℕ) → Rises xs → p < length xs → ((d : Entry) → (get_or xs p d).0 ≡ k) → map_of (remove xs p) q ≡ with_key k None (map_of xs q) q
map_remove [] p k q rises inside here = absurd (omega arith)
map_remove (x ∷ xs) zero k q rises inside here = by_key (cases_eq k q)
  where
    same : x.0 ≡ k
    same = here (0, 0)

    by_key : (k ≡ q) ⊎ (k ≡ q → ⊥) → map_of xs q ≡ with_key k None (map_of (x ∷ xs) q) q
    by_key (inl e) = let s = same in absent_above xs x.0 q (rises_head x xs rises) (omega (arith, e, s)) ∙ sym (with_same k q None (map_of (x ∷ xs) q) e)
    by_key (inr n) = sym (with_other k q None (map_of (x ∷ xs) q) n ∙ ap (λ (b : Bool). cond b (Some x.1) (map_of xs q)) (ne_eqb x.0 q (λ e. n (sym same ∙ e))))
map_remove (x ∷ xs) (suc p) k q rises inside here = by_key (map_remove xs p k q (rises_tail x xs rises) (omega arith) here) (cases_eq x.0 q)
  where
    by_key : map_of (remove xs p) q ≡ with_key k None (map_of xs q) q → (x.0 ≡ q) ⊎ (x.0 ≡ q → ⊥) → map_of (x ∷ remove xs p) q ≡ with_key k None (map_of (x ∷ xs) q) q
    by_key so (inl e) =
        let here' = eq-eqb x.0 q e in let more = rises_head x xs rises p (0, 0) (omega arith) in let at = here (0, 0) in
        let apart : k ≢ q = λ f. omega (arith, e, f, at, more) in
        ap (λ (b : Bool). cond b (Some x.1) (map_of (remove xs p) q)) here' ∙ (sym (ap (λ (b : Bool). cond b (Some x.1) (map_of xs q)) here') ∙ sym (with_other k q None (map_of (x ∷ xs) q) apart))
    by_key so (inr n) =
        let away = ne_eqb x.0 q n in
        ap (λ (b : Bool). cond b (Some x.1) (map_of (remove xs p) q)) away ∙ (so ∙ ap (λ (o : Option ℕ). with_key k None o q) (sym (ap (λ (b : Bool). cond b (Some x.1) (map_of xs q)) away)))

pub all_remove : (P : Entry → Type 0) (xs : List Entry) (p : ℕ) → All P xs → All P (remove xs p)
all_remove P xs p all = All-append P (take p xs) (drop (suc p) xs) (All-take P p xs all) (All-drop P (suc p) xs all)

-- the list is cut

pub map_lower : (xs : List Entry) (n q : ℕ) → Rises xs → n < length xs → q < (get_or xs n (0, 0)).0 → map_of (take n xs) q ≡ map_of xs q
map_lower [] n q rises inside below = absurd (omega arith)
map_lower (x ∷ xs) zero q rises inside below = sym (absent_below (x ∷ xs) q (above_all rises))
  where
    above_all : Rises (x ∷ xs) → (i : ℕ) (d : Entry) → i < length (x ∷ xs) → (get_or (x ∷ xs) i d).0 ≢ q
    above_all r zero d h e = omega (arith, below, e)
    above_all r (suc i) d h e = let more = rises_head x xs r i d (omega arith) in omega (arith, below, e, more)
map_lower (x ∷ xs) (suc n) q rises inside below = ap (λ (o : Option ℕ). cond (eqb x.0 q) (Some x.1) o) (map_lower xs n q (rises_tail x xs rises) (omega arith) below)

pub map_upper : (xs : List Entry) (n q : ℕ) → Rises xs → n < length xs → (get_or xs n (0, 0)).0 ≤ q → map_of (drop n xs) q ≡ map_of xs q
map_upper [] n q rises inside above = absurd (omega arith)
map_upper (x ∷ xs) zero q rises inside above = refl
map_upper (x ∷ xs) (suc n) q rises inside above =
    let more = rises_head x xs rises n (0, 0) (omega arith) in
    map_upper xs n q (rises_tail x xs rises) (omega arith) above ∙ sym (ap (λ (b : Bool). cond b (Some x.1) (map_of xs q)) (ne_eqb x.0 q (λ e. omega (arith, above, e, more))))

pub below_cut : (xs : List Entry) (n : ℕ) → Rises xs → n < length xs → All (λ (e : Entry). e.0 < (get_or xs n (0, 0)).0) (take n xs)
below_cut xs n rises inside i d h =
    let len = length-take-le n xs (omega arith) in
    subst (λ (e : Entry). e.0 < (get_or xs n (0, 0)).0) (get_or_default xs i (0, 0) d (omega arith) ∙ sym (get_or-take n xs i d (omega arith))) (rises i n (0, 0) (omega arith) inside)

pub above_cut : (xs : List Entry) (n : ℕ) → Rises xs → n < length xs → All (λ (e : Entry). (get_or xs n (0, 0)).0 ≤ e.0) (drop n xs)
above_cut xs n rises inside i d h =
    let len = length-drop n xs in
    subst (λ (e : Entry). (get_or xs n (0, 0)).0 ≤ e.0) (get_or_default xs (n + i) (0, 0) d (omega arith) ∙ sym (get_or-drop n xs i d)) (by_place (cases_eq i 0))
  where
    by_place : (i ≡ 0) ⊎ (i ≡ 0 → ⊥) → (get_or xs n (0, 0)).0 ≤ (get_or xs (n + i) (0, 0)).0
    by_place (inl z) = let is : n + i ≡ n = omega arith in let e = ap (λ (m : ℕ). (get_or xs m (0, 0)).0) is in omega (arith, e)
    by_place (inr more) = let len = length-drop n xs in let r = rises n (n + i) (0, 0) (omega arith) (omega arith) in omega (arith, r)

-- the first entry stays the first

pub first_insert : (xs : List Entry) (p : ℕ) (e : Entry) (P : Entry → Type 0) → 0 < p → 0 < length xs → IfSome (slice_get xs 0) P → IfSome (slice_get (insert xs p e) 0) P
first_insert [] p e P some few first = absurd (omega arith)
first_insert (x ∷ xs) zero e P some few first = absurd (omega arith)
first_insert (x ∷ xs) (suc p) e P some few first = first

pub first_take : (xs : List Entry) (n : ℕ) (P : Entry → Type 0) → 0 < n → IfSome (slice_get xs 0) P → IfSome (slice_get (take n xs) 0) P
first_take [] zero P some first = absurd (omega arith)
first_take [] (suc n) P some first = first
first_take (x ∷ xs) zero P some first = absurd (omega arith)
first_take (x ∷ xs) (suc n) P some first = first

-- an entry whose key is at most this lies before its place
pub place_some : (xs : List Entry) (k : ℕ) → 0 < length xs → IfSome (slice_get xs 0) (λ (e : Entry). e.0 ≤ k) → 0 < place k xs
place_some [] k some first = absurd (omega arith)
place_some (x ∷ xs) k some first = let at = place_yes k x xs first in omega (arith, at)

pub first_weaker : (xs : List Entry) (low k : ℕ) → low ≤ k → IfSome (slice_get xs 0) (λ (e : Entry). e.0 ≡ low) → IfSome (slice_get xs 0) (λ (e : Entry). e.0 ≤ k)
first_weaker [] low k le first = first
first_weaker (x ∷ xs) low k le first = subst (λ (z : ℕ). z ≤ k) (sym first) le

-- the key of an entry is there
pub map_some : (xs : List Entry) (p k : ℕ) → p < length xs → ((d : Entry) → (get_or xs p d).0 ≡ k) → map_of xs k ≢ None
map_some [] p k h is none = absurd (omega arith)
map_some (x ∷ xs) zero k h is none = other_key x xs k none (is (0, 0))
map_some (x ∷ xs) (suc p) k h is none = map_some xs p k (omega arith) is (absent_tail x xs k none)

-- the entries that are there

contains_there : (e : Entry) (ys : List Entry) (x : Entry) → Contains ys x → Contains (e ∷ ys) x
contains_there e ys x c = (suc c.0, let inside = c.1 in omega (arith, inside), c.2)

contains_insert : (xs : List Entry) (p : ℕ) (e x : Entry) → Contains xs x → Contains (insert xs p e) x
contains_insert xs p e x c = ⊎_elim
    (λ (lower : Contains (take p xs) x). Contains-append_left (take p xs) (e ∷ drop p xs) x lower)
    (λ (upper : Contains (drop p xs) x). Contains-append_right (take p xs) (e ∷ drop p xs) x (contains_there e (drop p xs) x upper))
    (Contains-append_cases (take p xs) (drop p xs) x (subst (λ (ys : List Entry). Contains ys x) (sym (take-append-drop p xs)) c))

pub contains_new : (xs : List Entry) (p : ℕ) (e : Entry) → Contains (insert xs p e) e
contains_new xs p e = Contains-append_right (take p xs) (e ∷ drop p xs) e (0, omega arith, refl)

pub kept_insert : (xs : List Entry) (p : ℕ) (e : Entry) → All (Contains (insert xs p e)) xs
kept_insert xs p e k d h = contains_insert xs p e (get_or xs k d) (Contains-get_or xs k d h)
