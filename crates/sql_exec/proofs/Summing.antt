-- The sum of at most 2^64 whole numbers of 64 bits stays within 128 bits.
use Rattle.std.proofs.Common.{◌≡◌, inl, inr, ℕ, zero, suc, ◌+◌, ◌-◌, ◌*◌, ◌^◌, ◌<◌, ◌≤◌, Bool, true, false, cond, ℤ, pos, negsuc, ◌+ℤ◌, List, [], ◌∷◌, ◌++◌, length, map, take, drop, get_or, refl, sym, ap, subst, ◌∙◌, arith}
use Rattle.std.proofs.Math.IntN.{+ℤ_assoc, +ℤ_comm, +ℤ_idl, +ℤ_invl, +ℤ_invr}
use Rattle.std.specs.Prelude.{◌&&◌, nat_le, nat_lt, FitsSigned}
use Rattle.std.specs.Int.{w64}
use Rattle.std.specs.List.{AllByRecursion, filter, fold}
use Rattle.std.proofs.lemmas.Bool.{ltb-true}
use Rattle.std.proofs.lemmas.List.{append-nil, drop_all, length-append, take_all}
use Rattle.row_types.specs.declared.definition.Column.{Column}
use Rattle.row_types.specs.declared.definition.Kind.TheVariants as kinds
use Rattle.row_types.specs.declared.row.Value.{Value}
use Rattle.row_types.specs.declared.row.Value.TheVariants as values
use Rattle.row_types.specs.Keys.{int_at, row_key}
use Rattle.row_types.specs.Slot.{FitsKind, IsRowOf}
use Rattle.row_types.specs.declared.definition.Kind.{Kind}
use Rattle.key_space.specs.Plays.{Rows}
use Rattle.key_space.proofs.PlaysLaws.{all_filter, rise_filter}
use Rattle.sql_check.specs.declared.plan.TotalPlan.{TotalPlan}
use Rattle.sql_check.specs.declared.plan.TotalPlan.TheVariants as sums
use Rattle.sql_check.specs.declared.plan.TotalsPlan.{TotalsPlan}
use Rattle.plain_model.specs.PlanMeaning.{passes_all, planned_total}
use Rattle.sql_exec.specs.Acts.{is_in, rows_in}
use Rattle.sql_exec.specs.Selects.{GoesOver, IsOver}
use Rattle.sql_exec.proofs.InPlaces.{Above, Rise}

-- ---- how many rows a range has

module _ (marks : List ℕ) (bound : ℕ) where
  above_least : (k : ℕ) (rows : Rows) → Above marks k rows → AllByRecursion (λ r. k + 1 ≤ row_key marks r) rows
  above_least k [] all = tt
  above_least k (row ∷ rows) all = (omega (arith, all.0), above_least k rows all.1)

  count_from : (rows : Rows) (k : ℕ) → k ≤ bound → AllByRecursion (λ r. k ≤ row_key marks r) rows → AllByRecursion (λ r. row_key marks r < bound) rows → Rise marks rows → length rows + k ≤ bound
  count_from [] k le least most rise = omega (arith, le)
  count_from (row ∷ rows) k le least most rise =
      let rest = count_from rows (row_key marks row + 1) (omega (arith, most.0)) (above_least (row_key marks row) rows rise.0) most.1 rise.1 in
      omega (arith, rest, least.0)

  any_least : (rows : Rows) → AllByRecursion (λ r. 0 ≤ row_key marks r) rows
  any_least [] = tt
  any_least (row ∷ rows) = (omega arith, any_least rows)

  and_second : (a b : Bool) → (a && b) ≡ true → b ≡ true
  and_second true b e = e
  and_second false b e = absurd cc

  in_below : (lo end : ℕ) (rows : Rows) → end ≤ bound → AllByRecursion (λ r. row_key marks r < bound) (rows_in marks lo end rows)
  in_below lo end [] le = tt
  in_below lo end (row ∷ rows) le = step (is_in marks lo end row) refl (in_below lo end rows le) where
    step : (b : Bool) → is_in marks lo end row ≡ b → AllByRecursion (λ r. row_key marks r < bound) (rows_in marks lo end rows) → AllByRecursion (λ r. row_key marks r < bound) (cond b (row ∷ rows_in marks lo end rows) (rows_in marks lo end rows))
    step true e rest = (let below = ltb-true (row_key marks row) end (and_second (nat_le lo (row_key marks row)) (nat_lt (row_key marks row) end) e) in omega (arith, below, le), rest)
    step false e rest = rest

  pub few_rows : (lo end : ℕ) (rows : Rows) → end ≤ bound → Rise marks rows → length (rows_in marks lo end rows) ≤ bound
  few_rows lo end rows le rise =
      let count = count_from (rows_in marks lo end rows) 0 (omega arith) (any_least (rows_in marks lo end rows)) (in_below lo end rows le) (rise_filter marks (is_in marks lo end) rows rise) in
      omega (arith, count)

-- ---- a value and a sum

natural : ℤ → ℕ
natural (pos n) = n
natural (negsuc n) = 0

-- a number below zero and a sum that isn't
below_zero : (n c m : ℕ) → negsuc n +ℤ pos c ≡ pos m → c ≡ suc n + m
unfolding natural
below_zero n c m e = ap natural (sym (+ℤ_idl (pos c)) ∙ ap (λ x. x +ℤ pos c) (sym (+ℤ_invr (pos (suc n)))) ∙ +ℤ_assoc (pos (suc n)) (negsuc n) (pos c) ∙ ap (λ x. pos (suc n) +ℤ x) e)

back_up : (n k : ℕ) → negsuc n +ℤ pos (suc n + k) ≡ pos k
back_up n k = sym (+ℤ_assoc (negsuc n) (pos (suc n)) (pos k)) ∙ ap (λ x. x +ℤ pos k) (+ℤ_invl (pos (suc n))) ∙ +ℤ_idl (pos k)

record Small (v : ℤ) : Type 0 where
  up : ℕ
  is : v +ℤ pos (2 ^ 63) ≡ pos up
  most : up < 2 ^ 64

small_int : (n : ℤ) → FitsSigned w64 n → Small n
small_int (pos n) fits = record { up = n + 2 ^ 63; is = refl; most = (let less = fits.sfits in omega (arith, less)) }
small_int (negsuc n) fits =
    let less = fits.sfits in
    let split : suc n + (2 ^ 63 - suc n) ≡ 2 ^ 63 = omega (arith, less) in
    record { up = 2 ^ 63 - suc n; is = ap (λ k. negsuc n +ℤ pos k) (sym split) ∙ back_up n (2 ^ 63 - suc n); most = omega arith }

small_zero : Small (pos 0)
small_zero = record { up = 2 ^ 63; is = refl; most = omega arith }

fits_small : (kind : Kind) (v : Value) (rest : List Value) → FitsKind kind v → Small (int_at (v ∷ rest) 0)
fits_small kinds.Int (values.Int n) rest fits = small_int n fits
fits_small (kinds.Text limit) (values.Text text) rest fits = small_zero
fits_small kinds.Int (values.Text text) rest fits = absurd fits
fits_small (kinds.Text limit) (values.Int n) rest fits = absurd fits

small_at : (columns : List Column) (row : List Value) (place : ℕ) → IsRowOf columns row → Small (int_at row place)
small_at [] [] place fits = small_zero
small_at (c ∷ columns) (v ∷ row) zero fits = fits_small c.kind v row fits.0
small_at (c ∷ columns) (v ∷ row) (suc place) fits = small_at columns row place fits.1
small_at [] (v ∷ row) place fits = absurd fits
small_at (c ∷ columns) [] place fits = absurd fits

record Within (count : ℕ) (sum : ℤ) : Type 0 where
  up : ℕ
  is : sum +ℤ pos (2 ^ 63 * count) ≡ pos up
  most : up ≤ (2 ^ 64 - 1) * count

crossed : (a b c d : ℤ) → (a +ℤ b) +ℤ (c +ℤ d) ≡ (a +ℤ c) +ℤ (b +ℤ d)
crossed a b c d =
    +ℤ_assoc a b (c +ℤ d) ∙ ap (λ x. a +ℤ x) (sym (+ℤ_assoc b c d) ∙ ap (λ x. x +ℤ d) (+ℤ_comm b c) ∙ +ℤ_assoc c b d) ∙ sym (+ℤ_assoc a c (b +ℤ d))

add_within : (count : ℕ) (sum v : ℤ) → Within count sum → Small v → Within (count + 1) (sum +ℤ v)
add_within count sum v within small =
    let most = within.most in
    let less = small.most in
    let parts : 2 ^ 63 * (count + 1) ≡ 2 ^ 63 * count + 2 ^ 63 = omega arith in
    record {
      up = within.up + small.up;
      is = ap (λ k. (sum +ℤ v) +ℤ pos k) parts ∙ crossed sum v (pos (2 ^ 63 * count)) (pos (2 ^ 63)) ∙ ap (λ x. x +ℤ (v +ℤ pos (2 ^ 63))) within.is ∙ ap (λ x. pos within.up +ℤ x) small.is;
      most = omega (arith, most, less);
    }

fold_within : (columns : List Column) (place : ℕ) (rows : Rows) (count : ℕ) (sum : ℤ) → AllByRecursion (IsRowOf columns) rows → Within count sum → Within (count + length rows) (fold (λ s row. s +ℤ int_at row place) sum rows)
fold_within columns place [] count sum all within = let same : count ≡ count + 0 = omega arith in subst (λ k. Within k sum) same within
fold_within columns place (row ∷ rows) count sum all within =
    let rest = fold_within columns place rows (count + 1) (sum +ℤ int_at row place) all.1 (add_within count sum (int_at row place) within (small_at columns row place all.0)) in
    let same : (count + 1) + length rows ≡ count + length (row ∷ rows) = omega arith in
    subst (λ k. Within k (fold (λ s r. s +ℤ int_at r place) (sum +ℤ int_at row place) rows)) same rest

too_great : (count n up : ℕ) → count ≤ 2 ^ 64 → n + 2 ^ 63 * count ≡ up → up ≤ (2 ^ 64 - 1) * count → 2 ^ 127 ≤ n → ⊥
too_great count n up few is most over = omega (arith, few, is, most, over)

too_low : (count n up : ℕ) → count ≤ 2 ^ 64 → 2 ^ 63 * count ≡ suc n + up → 2 ^ 127 ≤ n → ⊥
too_low count n up few is over = omega (arith, few, is, over)

none_over : (count : ℕ) (sum : ℤ) → count ≤ 2 ^ 64 → Within count sum → IsOver sum → ⊥
unfolding natural
none_over count (pos n) few within (inl over) = too_great count n within.up few (ap natural within.is) within.most (grind (arith, over))
none_over count (negsuc n) few within (inl over) = grind (arith, over)
none_over count (pos n) few within (inr over) = grind (arith, over)
none_over count (negsuc n) few within (inr over) = too_low count n within.up few (below_zero n (2 ^ 63 * count) within.up within.is) (grind (arith, over))

count_within : (count : ℕ) → Within count (pos count)
count_within count = record { up = count + 2 ^ 63 * count; is = refl; most = omega arith }

total_within : (columns : List Column) (kept : Rows) (total : TotalPlan) → AllByRecursion (IsRowOf columns) kept → Within (length kept) (planned_total kept total)
total_within columns kept sums.Count all = count_within (length kept)
total_within columns kept (sums.Sum place) all =
    let none : Within 0 (pos 0) = record { up = 0; is = refl; most = omega arith } in
    let same : 0 + length kept ≡ length kept = omega arith in
    subst (λ k. Within k (planned_total kept (sums.Sum place))) same (fold_within columns place kept 0 (pos 0) all none)

any_map : (f : TotalPlan → ℤ) (totals : List TotalPlan) (i : ℕ) (x : ℤ) → i < length (map f totals) → get_or (map f totals) i x ≡ x → IsOver x → (total : TotalPlan) × IsOver (f total)
any_map f [] i x less is over = absurd (omega (arith, less))
any_map f (total ∷ totals) zero x less is over = (total, subst IsOver (sym is) over)
any_map f (total ∷ totals) (suc i) x less is over = any_map f totals i x (omega (arith, less)) is over

fewer : (test : List Value → Bool) (rows : Rows) → length (filter test rows) ≤ length rows
fewer test [] = omega arith
fewer test (row ∷ rows) =
    let rest = fewer test rows in
    elim (test row) as (λ b. length (cond b (row ∷ filter test rows) (filter test rows)) ≤ length (row ∷ rows)) [
      | true ↦ omega (arith, rest)
      | false ↦ omega (arith, rest)
    ]

all_front : (P : List Value → Type 0) (front rest : Rows) → AllByRecursion P (front ++ rest) → AllByRecursion P front
all_front P [] rest all = tt
all_front P (row ∷ front) rest all = (all.0, all_front P front rest all.1)

-- no sum of the rows of a range leaves 128 bits
pub never_over : (columns : List Column) (p : TotalsPlan) (rows : Rows) → AllByRecursion (IsRowOf columns) rows → length rows ≤ 2 ^ 64 → GoesOver p rows → ⊥
never_over columns p rows all few goes =
    let kept = filter (passes_all p.conditions) goes.front in
    let fits = all_filter (IsRowOf columns) (passes_all p.conditions) goes.front (all_front (IsRowOf columns) goes.front goes.rest (subst (AllByRecursion (IsRowOf columns)) goes.split all)) in
    let count : length rows ≡ length goes.front + length goes.rest = ap length goes.split ∙ length-append goes.front goes.rest in
    let less = fewer (passes_all p.conditions) goes.front in
    let at = any_map (planned_total kept) p.totals goes.over.0 goes.over.1 goes.over.2 goes.over.3 goes.over.4 in
    none_over (length kept) (planned_total kept at.0) (omega (arith, few, count, less)) (total_within columns kept at.0 fits) at.1

-- a list written back over one of its length
pub written_back : (len : ℕ) (new items : List ℤ) → length new ≡ length items → length items ≤ len → take len (new ++ drop (length new) items) ≡ new
written_back len new items same fits =
    ap (λ (l : List ℤ). take len (new ++ l)) (drop_all (length new) items (omega (arith, same))) ∙ ap (take len) (append-nil new) ∙ take_all len new (omega (arith, same, fits))
