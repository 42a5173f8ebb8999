-- A range of keys that is cut behind one of its entries.
use Rattle.std.proofs.Common.{◌≡◌, ℕ, ◌≤◌, Bool, true, false, cond, List, [], ◌∷◌, ◌++◌, Option, refl, ◌∙◌, ap, subst, arith}
use Rattle.std.specs.List.{AllByRecursion, filter}
use Rattle.std.specs.List.Sorted.{IsStrictlySortedBy}
use Rattle.std.specs.Map.{keys_of}
use Rattle.std.specs.Ordering.{nat_cmp}
use Rattle.std.specs.declared.cmp.Ordering.TheVariants.{Less}
use Rattle.std.proofs.lemmas.Map.Keys.{sorted_head, sorted_tail}
use Rattle.row_types.specs.declared.row.Value.{Value}
use Rattle.row_lists.specs.Held.{Entries, entries_between}
use Rattle.row_lists.proofs.Keys.{inside_of, is_above, is_in, is_inside, is_out, less_is}

abbrev Entry : Type 0
Entry = ℕ × Option (List Value)

-- a list that has an entry isn't empty
none_there : (front : Entries) (e : Entry) (back : Entries) → [] ≡ front ++ e ∷ back → ⊥
none_there [] e back is = cc
none_there (f ∷ front) e back is = cc

first_is : (a b : Entry) (xs ys : Entries) → a ∷ xs ≡ b ∷ ys → (a ≡ b) × (xs ≡ ys)
first_is a b xs ys e = (cc, cc)

-- the entries whose keys pass a test
abbrev passing : (ℕ → Bool) → Entries → Entries
passing test es = filter (λ e. test e.0) es

-- what all keys are, an entry's key is that passes a test, and it passes
kept_key : (P : ℕ → Type 0) (test : ℕ → Bool) (es front : Entries) (e : Entry) (back : Entries) → AllByRecursion P (keys_of es) → passing test es ≡ front ++ e ∷ back → P e.0 × (test e.0 ≡ true)
kept_key P test [] front e back all is = absurd (none_there front e back is)
kept_key P test ((a, x) ∷ es) front e back all is = one (test a) front refl is (λ front is. kept_key P test es front e back all.1 is)
  where
    one : (b : Bool) (front : Entries) → test a ≡ b → cond b ((a, x) ∷ passing test es) (passing test es) ≡ front ++ e ∷ back → ((front : Entries) → passing test es ≡ front ++ e ∷ back → P e.0 × (test e.0 ≡ true)) → P e.0 × (test e.0 ≡ true)
    one false front passes is later = later front is
    one true [] passes is later = let same = (first_is (a, x) e (passing test es) back is).0 in subst (λ (e : Entry). P e.0 × (test e.0 ≡ true)) same (all.0, passes)
    one true (f ∷ front) passes is later = later front (first_is (a, x) f (passing test es) (front ++ e ∷ back) is).1

-- no key is in a range that ends below all
none_below : (lo end : ℕ) (es : Entries) → AllByRecursion (λ y. nat_cmp end y ≡ Less) (keys_of es) → passing (is_inside lo end) es ≡ []
none_below lo end [] all = refl
none_below lo end ((a, x) ∷ es) all = ap (λ b. cond b ((a, x) ∷ passing (is_inside lo end) es) (passing (is_inside lo end) es)) (is_above lo end a (less_is end a all.0)) ∙ none_below lo end es all.1

trivial : (ks : List ℕ) → AllByRecursion (λ k. k ≡ k) ks
trivial [] = tt
trivial (k ∷ ks) = (refl, trivial ks)

cut : (lo hi : ℕ) (es front : Entries) (e : Entry) (back : Entries) → lo ≤ e.0 → e.0 ≤ hi → IsStrictlySortedBy nat_cmp (keys_of es) → passing (is_inside lo hi) es ≡ front ++ e ∷ back → passing (is_inside lo e.0) es ≡ front ++ e ∷ []
cut lo hi [] front e back low before sorted is = absurd (none_there front e back is)
cut lo hi ((a, x) ∷ es) front e back low before sorted is = one (is_inside lo hi a) front refl is (λ front is. cut lo hi es front e back low before (sorted_tail nat_cmp a (keys_of es) sorted) is)
  where
    above : AllByRecursion (λ y. nat_cmp a y ≡ Less) (keys_of es)
    above = sorted_head nat_cmp a (keys_of es) sorted

    all : Entries
    all = passing (is_inside lo hi) es

    rest : Entries
    rest = passing (is_inside lo e.0) es

    one : (b : Bool) (front : Entries) → is_inside lo hi a ≡ b → cond b ((a, x) ∷ all) all ≡ front ++ e ∷ back → ((front : Entries) → all ≡ front ++ e ∷ back → rest ≡ front ++ e ∷ []) → cond (is_inside lo e.0 a) ((a, x) ∷ rest) rest ≡ front ++ e ∷ []
    one false front test is later = ap (λ b. cond b ((a, x) ∷ rest) rest) (is_out lo hi e.0 a before test) ∙ later front is
    one true [] test is later =
        let same = (first_is (a, x) e all back is).0 in
        let here : a ≡ e.0 = ap (λ (e : Entry). e.0) same in
        let none : rest ≡ [] = none_below lo e.0 es (subst (λ k. AllByRecursion (λ y. nat_cmp k y ≡ Less) (keys_of es)) here above) in
        ap (λ b. cond b ((a, x) ∷ rest) rest) (is_in lo e.0 a (omega (arith, here, low)) (omega (arith, here))) ∙ ap (λ (e : Entry). e ∷ rest) same ∙ ap (λ (es : Entries). e ∷ es) none
    one true (f ∷ front) test is later =
        let parts = first_is (a, x) f all (front ++ e ∷ back) is in
        let below = less_is a e.0 (kept_key (λ y. nat_cmp a y ≡ Less) (is_inside lo hi) es front e back above parts.1).0 in
        let from = (inside_of lo hi a test).0 in
        ap (λ b. cond b ((a, x) ∷ rest) rest) (is_in lo e.0 a from (omega (arith, below))) ∙ ap (λ (e : Entry). e ∷ rest) parts.0 ∙ ap (λ (es : Entries). f ∷ es) (later front parts.1)

-- a range that is cut behind one of its entries has those up to that one
pub cut_behind : (lo hi : ℕ) (es front : Entries) (e : Entry) (back : Entries) → IsStrictlySortedBy nat_cmp (keys_of es) → entries_between es lo hi ≡ front ++ e ∷ back → entries_between es lo e.0 ≡ front ++ e ∷ []
cut_behind lo hi es front e back sorted is =
    let inside = inside_of lo hi e.0 (kept_key (λ k. k ≡ k) (is_inside lo hi) es front e back (trivial (keys_of es)) is).1 in
    cut lo hi es front e back inside.0 inside.1 sorted is
