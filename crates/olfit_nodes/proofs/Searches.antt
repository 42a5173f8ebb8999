-- Look-ups in a list of entries with rising keys.
use Rattle.std.proofs.Common.{◌≡◌, ◌≢◌, ℕ, zero, suc, ◌+◌, ◌-◌, ◌<◌, ◌≤◌, nat_le, eqb, ltb, leb, Bool, true, false, cond, List, [], ◌∷◌, length, get_or, take, Option, Some, None, sym, refl, ap, ◌∙◌, arith, ⊎_elim, get_or-take, eq-eqb, le_refl, subst, add-zero}
use Rattle.std.specs.Prelude.{slice_get}
use Rattle.std.specs.Option.{option_map}
use Rattle.std.specs.List.{count_by, filter, position_or_len}
use Rattle.std.proofs.lemmas.List.{length-take-le}
use Rattle.std.proofs.lemmas.List.Sums.{sum_by-cons, position_or_len_is, count_by-le-length}
use Rattle.std.proofs.lemmas.Option.{slice_get-get_or}
use Rattle.std.proofs.lemmas.Bool.{lt-ltb, ne_eqb, le-ltb, lt-leb, le-leb}
use Rattle.std.proofs.lemmas.Bool.Decides.{leb_tells}
use Rattle.olfit_nodes.specs.Nodes.{Entry, entry_at, entries_of, count_of, place_in, child_in, Rises}
use Rattle.olfit_nodes.proofs.Places.{length-entries, get_or-entries}

abbrev is_at : ℕ → Entry → Bool
is_at key e = eqb e.0 key

abbrev at_most : ℕ → Entry → Bool
at_most key e = leb e.0 key

pub found : (words : List ℕ) (key i : ℕ) → i < count_of words → ((k : ℕ) → k < i → (entry_at words k).0 ≢ key) → (entry_at words i).0 ≡ key → Some i ≡ place_in key (entries_of words)
found words key i h before here =
    let xs : List Entry = entries_of words in let n = length-entries words in
    let e : position_or_len (is_at key) xs ≡ i = position_or_len_is (is_at key) xs i (0, 0) (omega arith)
    (λ k l. ap (is_at key) (get_or-entries words k (0, 0) (omega arith)) ∙ ne_eqb (entry_at words k).0 key (before k l))
    (λ l. ap (is_at key) (get_or-entries words i (0, 0) h) ∙ eq-eqb (entry_at words i).0 key here) in
    sym (ap (λ (z : ℕ). cond (ltb z (length xs)) (Some z) None) e ∙ ap (λ (b : Bool). cond b (Some i) None) (lt-ltb i (length xs) (omega arith)))

pub absent : (words : List ℕ) (key : ℕ) → ((k : ℕ) → k < count_of words → (entry_at words k).0 ≢ key) → None ≡ place_in key (entries_of words)
absent words key before =
    let xs : List Entry = entries_of words in let n = length-entries words in
    let e : position_or_len (is_at key) xs ≡ length xs = position_or_len_is (is_at key) xs (length xs) (0, 0) (le_refl _)
    (λ k l. ap (is_at key) (get_or-entries words k (0, 0) (omega arith)) ∙ ne_eqb (entry_at words k).0 key (before k (omega arith)))
    (λ l. absurd (omega arith)) in
    sym (ap (λ (z : ℕ). cond (ltb z (length xs)) (Some z) None) e ∙ ap (λ (b : Bool). cond b (Some (length xs)) None) (le-ltb (length xs) (length xs) (le_refl _)))

rest_rises : (x : Entry) (xs : List Entry) → Rises (x ∷ xs) → Rises xs
rest_rises x xs r i j d h l = r (suc i) (suc j) d (omega arith) (omega arith)

counted_first : (key : ℕ) (x : Entry) (xs : List Entry) → count_by (at_most key) (x ∷ xs) ≡ cond (leb x.0 key) 1 0 + count_by (at_most key) xs
counted_first key x xs = sum_by-cons (λ (e : Entry). cond (at_most key e) 1 0) x xs

none_counted : (key : ℕ) (xs : List Entry) → ((i : ℕ) (d : Entry) → i < length xs → key < (get_or xs i d).0) → count_by (at_most key) xs ≡ 0
none_counted key [] h = refl
none_counted key (x ∷ xs) h =
    let rest = none_counted key xs (λ i d l. h (suc i) d (omega arith)) in
    let first : key < x.0 = h 0 x (omega arith) in
    counted_first key x xs ∙ ((λ j. cond (lt-leb x.0 key first j) 1 0 + rest j) ∙ add-zero 0)

-- where the first entries have keys of at most this and the next one has not, so many have them
counted_upto : (key p : ℕ) (xs : List Entry) → Rises xs → p ≤ length xs → ((k : ℕ) (d : Entry) → k < p → (get_or xs k d).0 ≤ key) → ((d : Entry) → p < length xs → key < (get_or xs p d).0) → count_by (at_most key) xs ≡ p
counted_upto key zero [] r most below above = refl
counted_upto key (suc p) [] r most below above = absurd (omega arith)
counted_upto key zero (x ∷ xs) r most below above = none_counted key (x ∷ xs) (all r)
  where
    all : Rises (x ∷ xs) → (i : ℕ) (d : Entry) → i < length (x ∷ xs) → key < (get_or (x ∷ xs) i d).0
    all r zero d l = above d l
    all r (suc i) d l = let a = above d (omega arith) in let b = r 0 (suc i) d (omega arith) l in omega (arith, a, b)
counted_upto key (suc p) (x ∷ xs) r most below above =
    let rest = counted_upto key p xs (rest_rises x xs r) (omega arith) (λ k d l. below (suc k) d (omega arith)) (λ d l. above d (omega arith)) in
    counted_first key x xs ∙ ((λ j. cond (le-leb x.0 key (below 0 x (omega arith)) j) 1 0 + rest j) ∙ one_more p)
  where
    one_more : (p : ℕ) → 1 + p ≡ suc p
    one_more p = omega arith

pub upto_is : (words : List ℕ) (key p : ℕ) → Rises (entries_of words) → p ≤ count_of words → ((k : ℕ) → k < p → (entry_at words k).0 ≤ key) → (p < count_of words → key < (entry_at words p).0)
    → p ≡ count_by (λ (e : Entry). nat_le e.0 key) (entries_of words)
upto_is words key p rises most below above =
    let n = length-entries words in
    sym (counted_upto key p (entries_of words) rises (omega arith)
    (λ k d l. subst (λ (e : Entry). e.0 ≤ key) (sym (get_or-entries words k d (omega arith))) (below k l))
    (λ d l. subst (λ (e : Entry). key < e.0) (sym (get_or-entries words p d (omega arith))) (above (omega arith))))

-- of rising entries those up to a key are the first ones
filter_front : (key : ℕ) (xs : List Entry) → Rises xs → filter (at_most key) xs ≡ take (count_by (at_most key) xs) xs
filter_front key [] r = refl
filter_front key (x ∷ xs) r =
    let n : ℕ = count_by (at_most key) xs in
    let rest = filter_front key xs (rest_rises x xs r) in
    let P : Bool → Type 0 = λ b. cond b (x ∷ filter (at_most key) xs) (filter (at_most key) xs) ≡ take (cond b 1 0 + n) (x ∷ xs) in
    let up : suc n ≡ 1 + n = omega arith in
    subst (λ (z : ℕ). filter (at_most key) (x ∷ xs) ≡ take z (x ∷ xs)) (sym (counted_first key x xs)) (⊎_elim
    (λ (t : (leb x.0 key ≡ true) × (x.0 ≤ key)). subst P (sym t.0) (ap (λ ys. x ∷ ys) rest ∙ ap (λ (z : ℕ). take z (x ∷ xs)) up))
    (λ (f : (leb x.0 key ≡ false) × (key < x.0)).
    let zeroes : n ≡ 0 = none_counted key xs (λ i d l. let y = r 0 (suc i) d (omega arith) (omega arith) in let z : x.0 < (get_or xs i d).0 = y in omega arith) in
    let none : 0 ≡ 0 + n = omega arith in
    subst P (sym f.0) (rest ∙ (ap (λ (z : ℕ). take z xs) zeroes ∙ ap (λ (z : ℕ). take z (x ∷ xs)) none)))
    (leb_tells x.0 key))

abbrev last_value : List Entry → Option ℕ
last_value below = option_map (λ (e : Entry). e.1) (slice_get below (length below - 1))

pub child_none : (words : List ℕ) (key : ℕ) → Rises (entries_of words) → count_by (λ (e : Entry). nat_le e.0 key) (entries_of words) ≡ 0 → None ≡ child_in key (entries_of words)
child_none words key rises none = sym (ap last_value (filter_front key (entries_of words) rises ∙ ap (λ (z : ℕ). take z (entries_of words)) none))

pub child_some : (words : List ℕ) (key p : ℕ) → Rises (entries_of words) → p ≡ count_by (λ (e : Entry). nat_le e.0 key) (entries_of words) → 0 < p → Some (entry_at words (p - 1)).1 ≡ child_in key (entries_of words)
child_some words key p rises is some =
    let xs : List Entry = entries_of words in let n = length-entries words in
    let m = count_by-le-length (at_most key) xs in
    let long : length (take p xs) ≡ p = length-take-le p xs (omega arith) in
    let front : filter (at_most key) xs ≡ take p xs = filter_front key xs rises ∙ ap (λ (z : ℕ). take z xs) (sym is) in
    let last : get_or (take p xs) (p - 1) (0, 0) ≡ entry_at words (p - 1) = get_or-take p xs (p - 1) (0, 0) (omega arith) ∙ get_or-entries words (p - 1) (0, 0) (omega arith) in
    sym (ap last_value front ∙ (ap (λ (z : ℕ). option_map (λ (e : Entry). e.1) (slice_get (take p xs) (z - 1))) long
    ∙ (ap (option_map (λ (e : Entry). e.1)) (slice_get-get_or (take p xs) (p - 1) (0, 0) (omega arith)) ∙ ap (λ (e : Entry). Some e.1) last)))
