-- The keys of a range are those that meet the conditions on the key.
use Rattle.std.proofs.Common.{◌≡◌, ◌↔◌, ℕ, ◌+◌, ◌-◌, ◌^◌, ◌<◌, ◌≤◌, min, max, Bool, true, false, cond, List, [], ◌∷◌, map, Option, Some, None, refl, arith}
use Rattle.std.specs.Prelude.{nat_lt, fold}
use Rattle.std.specs.List.{AllByRecursion}
use Rattle.std.proofs.lemmas.Bool.{ltb-true, ltb-false}
use Rattle.key_space.specs.declared.range.Range.{Range}
use Rattle.row_types.specs.declared.definition.TableDef.{TableDef}
use Rattle.row_types.specs.declared.row.Value.{Value}
use Rattle.row_types.specs.Keys.{row_key}
use Rattle.sql_parse.specs.declared.statement.Comparison.{Comparison}
use Rattle.sql_parse.specs.declared.statement.Comparison.TheVariants.{Equal, NotEqual, Less, LessEqual, Greater, GreaterEqual}
use Rattle.sql_parse.specs.declared.statement.Condition.{Condition}
use Rattle.sql_check.specs.KeyRange.{IsInRange, MeetsKey, low_end, high_end, key_in, keys_below, from_of, end_of, on_key, range_of, range_of_rows}

-- a key compares so with another exactly where it lies between the ends
meets_ends : (comparison : Comparison) (key other : ℕ) → key < 2 ^ 64 → MeetsKey comparison key other ↔ ((low_end comparison other ≤ key) × (key < high_end comparison other))
meets_ends Equal key other small = ((λ m. (omega arith, omega arith)), (λ e. omega arith))
meets_ends NotEqual key other small = ((λ m. (omega arith, small)), (λ e. tt))
meets_ends Less key other small = ((λ m. (omega arith, m)), (λ e. e.1))
meets_ends LessEqual key other small = ((λ m. (omega arith, omega arith)), (λ e. omega arith))
meets_ends Greater key other small = ((λ m. (omega arith, small)), (λ e. omega arith))
meets_ends GreaterEqual key other small = ((λ m. (m, small)), (λ e. e.0))

-- the greatest is at most k exactly where each is
max_most : (k a : ℕ) (xs : List ℕ) → fold max a xs ≤ k → (a ≤ k) × AllByRecursion (λ x. x ≤ k) xs
max_most k a [] h = (h, tt)
max_most k a (x ∷ xs) h =
    let rest = max_most k (max a x) xs h in
    let both : max a x ≤ k = rest.0 in
    (omega arith, (omega arith, rest.1))

most_max : (k a : ℕ) (xs : List ℕ) → a ≤ k → AllByRecursion (λ x. x ≤ k) xs → fold max a xs ≤ k
most_max k a [] h all = h
most_max k a (x ∷ xs) h all = let one : x ≤ k = all.0 in most_max k (max a x) xs (omega arith) all.1

-- the least is above k exactly where each is
min_least : (k a : ℕ) (xs : List ℕ) → k < fold min a xs → (k < a) × AllByRecursion (λ x. k < x) xs
min_least k a [] h = (h, tt)
min_least k a (x ∷ xs) h =
    let rest = min_least k (min a x) xs h in
    let both : k < min a x = rest.0 in
    (omega arith, (omega arith, rest.1))

least_min : (k a : ℕ) (xs : List ℕ) → k < a → AllByRecursion (λ x. k < x) xs → k < fold min a xs
least_min k a [] h all = h
least_min k a (x ∷ xs) h all = let one : k < x = all.0 in least_min k (min a x) xs (omega arith) all.1

-- the keys from one up to below another
in_keys : (from end key : ℕ) (b : Bool) → nat_lt from end ≡ b → IsInRange (cond b (Some (record { lo = record { number = from }; hi = record { number = end - 1 } })) None) key ↔ ((from ≤ key) × (key < end))
in_keys from end key true e = let inside : from < end = ltb-true _ _ e in ((λ h. (h.0, omega arith)), (λ h. (h.0, omega arith)))
in_keys from end key false e = let outside : end ≤ from = ltb-false _ _ e in ((λ h. absurd h), (λ h. absurd (omega arith)))

abbrev lows : List Condition → List ℕ
lows cs = map (λ (c : Condition). low_end c.comparison (key_in c)) cs

abbrev highs : List Condition → List ℕ
highs cs = map (λ (c : Condition). high_end c.comparison (key_in c)) cs

abbrev AllMeet : ℕ → List Condition → Type 0
AllMeet key cs = AllByRecursion (λ (c : Condition). MeetsKey c.comparison key (key_in c)) cs

all_meet : (key : ℕ) (cs : List Condition) → key < 2 ^ 64 → AllByRecursion (λ x. x ≤ key) (lows cs) → AllByRecursion (λ x. key < x) (highs cs) → AllMeet key cs
all_meet key [] small low high = tt
all_meet key (c ∷ cs) small low high = ((meets_ends c.comparison key (key_in c) small).1 (low.0, high.0), all_meet key cs small low.1 high.1)

all_low : (key : ℕ) (cs : List Condition) → key < 2 ^ 64 → AllMeet key cs → AllByRecursion (λ x. x ≤ key) (lows cs)
all_low key [] small all = tt
all_low key (c ∷ cs) small all = (((meets_ends c.comparison key (key_in c) small).0 all.0).0, all_low key cs small all.1)

all_high : (key : ℕ) (cs : List Condition) → key < 2 ^ 64 → AllMeet key cs → AllByRecursion (λ x. key < x) (highs cs)
all_high key [] small all = tt
all_high key (c ∷ cs) small all = (((meets_ends c.comparison key (key_in c) small).0 all.0).1, all_high key cs small all.1)

pub range_allows : (def : TableDef) (conditions : List Condition) (key : ℕ) → IsInRange (range_of def conditions) key ↔ ((key < 2 ^ 64) × AllMeet key (on_key def conditions))
range_allows def conditions key =
    let cs = on_key def conditions in
    let inside = in_keys (from_of cs) (end_of cs) key (nat_lt (from_of cs) (end_of cs)) refl in (
      (λ h.
          let ends = inside.0 h in
          let high = min_least key (2 ^ 64) (highs cs) ends.1 in
          (high.0, all_meet key cs high.0 (max_most key 0 (lows cs) ends.0).1 high.1)),
      (λ h. inside.1 (most_max key 0 (lows cs) (omega arith) (all_low key cs h.0 h.1), least_min key (2 ^ 64) (highs cs) h.0 (all_high key cs h.0 h.1))),
    )

-- each of some numbers lies from the least to the greatest
least_of : (a : ℕ) (xs : List ℕ) → (fold min a xs ≤ a) × AllByRecursion (λ x. fold min a xs ≤ x) xs
least_of a [] = (omega arith, tt)
least_of a (x ∷ xs) =
    let rest = least_of (min a x) xs in
    let one : fold min (min a x) xs ≤ min a x = rest.0 in
    (omega arith, (omega arith, rest.1))

greatest_of : (a : ℕ) (xs : List ℕ) → (a ≤ fold max a xs) × AllByRecursion (λ x. x ≤ fold max a xs) xs
greatest_of a [] = (omega arith, tt)
greatest_of a (x ∷ xs) =
    let rest = greatest_of (max a x) xs in
    let one : max a x ≤ fold max (max a x) xs = rest.0 in
    (omega arith, (omega arith, rest.1))

between : (marks : List ℕ) (lo hi : ℕ) (rows : List (List Value)) → AllByRecursion (λ x. lo ≤ x) (map (row_key marks) rows) → AllByRecursion (λ x. x ≤ hi) (map (row_key marks) rows)
    → AllByRecursion (λ row. (lo ≤ row_key marks row) × (row_key marks row ≤ hi)) rows
between marks lo hi [] low high = tt
between marks lo hi (row ∷ rows) low high = ((low.0, high.0), between marks lo hi rows low.1 high.1)

pub rows_lie : (marks : List ℕ) (rows : List (List Value)) → AllByRecursion (λ row. IsInRange (range_of_rows marks rows) (row_key marks row)) rows
rows_lie marks [] = tt
rows_lie marks (row ∷ rows) =
    let keys = map (row_key marks) rows in
    let first = row_key marks row in
    let low = least_of first keys in
    let high = greatest_of first keys in
    ((low.0, high.0), between marks (fold min first keys) (fold max first keys) rows low.1 high.1)
