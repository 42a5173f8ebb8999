-- What the entries of a node say of a key.
use Rattle.std.proofs.Common.{◌≡◌, ◌≢◌, ℕ, zero, suc, ◌-◌, ◌<◌, ◌≤◌, eqb, leb, Bool, true, cond, List, [], ◌∷◌, length, get_or, Option, Some, None, sym, refl, ap, ◌∙◌, subst, arith, ⊎_elim, eq-eqb}
use Rattle.std.specs.Prelude.{slice_get}
use Rattle.std.specs.Option.{option_map}
use Rattle.std.specs.List.{filter, position_or_len, All}
use Rattle.std.proofs.lemmas.Bool.{ne_eqb, eqb-true, eqb-false, leb-true, le-leb, lt-ltb, cases_lt}
use Rattle.std.proofs.lemmas.List.Quantifiers.{position-Some}
use Rattle.std.proofs.lemmas.List.Sums.{fails_before_first}
use Rattle.std.proofs.lemmas.List.Elements.{All-filter, filter_passes}
use Rattle.std.proofs.lemmas.Option.{slice_get-get_or, slice_get_within, get_or_from_slice_get}
use Rattle.olfit_nodes.specs.Nodes.{Entry, place_in, child_in}
use Rattle.olfit_rule.specs.Maps.{map_of}

abbrev has_key : ℕ → Entry → Bool
has_key key e = eqb e.0 key

none_some : (n : ℕ) → None ≡ Some n → ⊥
none_some n e = cc

some_none : (e : Entry) → Some e ≡ None → ⊥
some_none e is = cc

some_same : (a b : ℕ) → Some a ≡ Some b → a ≡ b
some_same a b e = cc

abbrev OptionKey : Option Entry → ℕ
OptionKey None = 0
OptionKey (Some e) = e.0

-- the first entry with a key gives its value
pub map_at : (xs : List Entry) (p key : ℕ) (d : Entry) → p < length xs → (get_or xs p d).0 ≡ key → ((k : ℕ) → k < p → (get_or xs k d).0 ≢ key) → map_of xs key ≡ Some (get_or xs p d).1
map_at [] p key d h here before = absurd (omega arith)
map_at (x ∷ xs) zero key d h here before = ap (λ (b : Bool). cond b (Some x.1) (map_of xs key)) (eq-eqb x.0 key here)
map_at (x ∷ xs) (suc p) key d h here before = ap (λ (b : Bool). cond b (Some x.1) (map_of xs key)) (ne_eqb x.0 key (before 0 (omega arith))) ∙ map_at xs p key d (omega arith) here (λ k l. before (suc k) (omega arith))

pub map_none : (xs : List Entry) (key : ℕ) (d : Entry) → ((k : ℕ) → k < length xs → (get_or xs k d).0 ≢ key) → map_of xs key ≡ None
map_none [] key d h = refl
map_none (x ∷ xs) key d h = ap (λ (b : Bool). cond b (Some x.1) (map_of xs key)) (ne_eqb x.0 key (h 0 (omega arith))) ∙ map_none xs key d (λ k l. h (suc k) (omega arith))

pub found_value : (xs : List Entry) (key p : ℕ) (d : Entry) → place_in key xs ≡ Some p → (p < length xs) × (map_of xs key ≡ Some (get_or xs p d).1)
found_value xs key p d is = let at = position-Some (has_key key) xs p d is in
    (at.0, map_at xs p key d at.0 (eqb-true (get_or xs p d).0 key at.1) (λ k l. eqb-false (get_or xs k d).0 key (at.2 k l)))

far : (xs : List Entry) (key k : ℕ) → place_in key xs ≡ None → k < length xs → k < position_or_len (has_key key) xs
far xs key k is l = ⊎_elim
    (λ (t : position_or_len (has_key key) xs < length xs). absurd (none_some (position_or_len (has_key key) xs)
    (sym is ∙ ap (λ (b : Bool). cond b (Some (position_or_len (has_key key) xs)) None) (lt-ltb (position_or_len (has_key key) xs) (length xs) t))))
    (λ (f : length xs ≤ position_or_len (has_key key) xs). omega arith)
    (cases_lt (position_or_len (has_key key) xs) (length xs))

pub absent_value : (xs : List Entry) (key : ℕ) (d : Entry) → place_in key xs ≡ None → map_of xs key ≡ None
absent_value xs key d is = map_none xs key d (λ k l. eqb-false (get_or xs k d).0 key (fails_before_first (has_key key) xs k d (far xs key k is l)))

abbrev at_most : ℕ → Entry → Bool
at_most key e = leb e.0 key

abbrev last_of : List Entry → Option Entry
last_of below = slice_get below (length below - 1)

at_last : (Q : Entry → Type 0) (below : List Entry) (e : Entry) → All Q below → last_of below ≡ Some e → Q e
at_last Q below e q there = subst Q (get_or_from_slice_get below (length below - 1) e e there) (q (length below - 1) e (slice_get_within below (length below - 1) e there))

-- a child is that of an entry whose key is at most the one that is looked for
pub child_is : (P : Entry → Type 0) (xs : List Entry) (key c : ℕ) → All P xs → child_in key xs ≡ Some c → (e : Entry) × P e × (e.0 ≤ key) × (e.1 ≡ c)
child_is P xs key c all is = by_last (last_of (filter (at_most key) xs)) refl is
  where
    by_last : (o : Option Entry) → last_of (filter (at_most key) xs) ≡ o → option_map (λ (e : Entry). e.1) o ≡ Some c → (e : Entry) × P e × (e.0 ≤ key) × (e.1 ≡ c)
    by_last None there same = absurd (none_some c same)
    by_last (Some e) there same = (
      e,
      at_last P (filter (at_most key) xs) e (All-filter (at_most key) P xs all) there,
      leb-true e.0 key (at_last (λ (x : Entry). at_most key x ≡ true) (filter (at_most key) xs) e (filter_passes (at_most key) xs) there),
      some_same e.1 c same,
    )

-- an entry whose key is at most the one that is looked for gives a child
pub some_child : (xs : List Entry) (key : ℕ) (e : Entry) → slice_get xs 0 ≡ Some e → e.0 ≤ key → child_in key xs ≡ None → ⊥
some_child [] key e first le none = some_none e (sym first)
some_child (x ∷ xs) key e first le none =
    let rest : List Entry = filter (at_most key) xs in
    let low : x.0 ≤ key = subst (λ (o : Option Entry). OptionKey o ≤ key) (sym first) le in
    let all : filter (at_most key) (x ∷ xs) ≡ x ∷ rest = ap (λ (b : Bool). cond b (x ∷ rest) rest) (le-leb x.0 key low) in
    let value = ap (λ (below : List Entry). option_map (λ (y : Entry). y.1) (last_of below)) all ∙ ap (option_map (λ (y : Entry). y.1)) (slice_get-get_or (x ∷ rest) (length (x ∷ rest) - 1) x (omega arith)) in
    none_some _ (sym none ∙ value)
