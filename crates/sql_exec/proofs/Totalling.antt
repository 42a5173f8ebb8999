-- Sums over rows, one row after another.
use Rattle.std.proofs.Common.{◌≡◌, inl, inr, ℕ, suc, ◌+◌, ◌<◌, ◌^◌, true, false, ℤ, pos, negsuc, ◌+ℤ◌, List, [], ◌∷◌, ◌++◌, length, map, take, drop, get_or, refl, sym, ap, subst, ◌∙◌, arith, append_assoc}
use Rattle.std.specs.Prelude.{FitsSigned}
use Rattle.std.specs.Int.{w128}
use Rattle.std.proofs.lemmas.Bool.{cases_lt}
use Rattle.std.specs.List.{Any, filter}
use Rattle.std.proofs.lemmas.List.{drop_more, length-append, append-nil, take-append-drop}
use Rattle.std.proofs.lemmas.List.Elements.{filter-append}
use Rattle.std.proofs.lemmas.List.Sums.{fold-append}
use Rattle.row_types.specs.declared.row.Value.{Value}
use Rattle.row_types.specs.Keys.{int_at}
use Rattle.key_space.specs.Plays.{Rows}
use Rattle.sql_check.specs.declared.plan.TotalPlan.{TotalPlan}
use Rattle.sql_check.specs.declared.plan.TotalPlan.TheVariants as sums
use Rattle.sql_check.specs.declared.plan.TotalsPlan.{TotalsPlan}
use Rattle.plain_model.specs.PlanMeaning.{passes_all, planned_total}
use Rattle.sql_exec.proofs.Fronts.{front_more}
use Rattle.sql_exec.specs.Selects.{sums_of, part_of, with_row_added, IsOver, GoesOver}

abbrev pub zero_of : TotalPlan → ℤ
zero_of total = pos 0

pub zeros_more : (totals : List TotalPlan) (zeros : List ℤ) (i : ℕ) → i < length totals → zeros ++ map zero_of (drop i totals) ≡ map zero_of totals → (zeros ++ pos 0 ∷ []) ++ map zero_of (drop (i + 1) totals) ≡ map zero_of totals
zeros_more totals zeros i less so_far =
    append_assoc zeros (pos 0 ∷ []) (map zero_of (drop (i + 1) totals)) ∙ ap (λ rest. zeros ++ map zero_of rest) (sym (drop_more totals i sums.Count less)) ∙ so_far

pub any_middle : {A : Type 0} (P : A → Type 0) (front : List A) (x : A) (back : List A) → P x → Any P (front ++ x ∷ back)
any_middle P [] x back holds = (0, x, omega arith, refl, holds)
any_middle P (y ∷ front) x back holds =
    let rest = any_middle P front x back holds in
    (suc rest.0, rest.1, omega (arith, rest.2), rest.3, rest.4)

-- the number that leaves 128 bits is one of the sums
pub over_at : (totals : List TotalPlan) (row : List Value) (now all : List ℤ) (i : ℕ) → i < length totals → length now ≡ length totals
    → take i now ++ with_row_added (drop i totals) row (drop i now) ≡ all → IsOver (get_or now i (pos 0) +ℤ part_of row (get_or totals i sums.Count)) → Any IsOver all
over_at totals row now all i less len so_far over =
    let here = ap (λ (ts : List TotalPlan). take i now ++ with_row_added ts row (drop i now)) (drop_more totals i sums.Count less) in
    let there = ap (λ (ns : List ℤ). take i now ++ with_row_added (get_or totals i sums.Count ∷ drop (i + 1) totals) row ns) (drop_more now i (pos 0) (omega (arith, len))) in
    subst (Any IsOver) (sym (here ∙ there) ∙ so_far)
    (any_middle IsOver (take i now) (get_or now i (pos 0) +ℤ part_of row (get_or totals i sums.Count)) (with_row_added (drop (i + 1) totals) row (drop (i + 1) now)) over)

pub not_fits : (n : ℤ) → (FitsSigned w128 n → ⊥) → IsOver n
not_fits (pos n) never =
    elim (cases_lt n (2 ^ 127)) [
      | inl less ↦ absurd (never (record { sfits = less }))
      | inr more ↦ inl (grind (arith, more))
    ]
not_fits (negsuc n) never =
    elim (cases_lt n (2 ^ 127)) [
      | inl less ↦ absurd (never (record { sfits = less }))
      | inr more ↦ inr (grind (arith, more))
    ]

-- ---- the rows of a piece

abbrev pub passing : TotalsPlan → Rows → Rows
passing p rows = filter (passes_all p.conditions) rows

one_kept : (p : TotalsPlan) (row : List Value) (rows : Rows) → passes_all p.conditions row ≡ true → passing p (rows ++ row ∷ []) ≡ passing p rows ++ row ∷ []
one_kept p row rows passes = filter-append (passes_all p.conditions) rows (row ∷ []) ∙ rw passes refl

none_kept : (p : TotalsPlan) (row : List Value) (rows : Rows) → passes_all p.conditions row ≡ false → passing p (rows ++ row ∷ []) ≡ passing p rows
none_kept p row rows fails = filter-append (passes_all p.conditions) rows (row ∷ []) ∙ rw fails (append-nil (passing p rows))

total_more : (kept : Rows) (row : List Value) (total : TotalPlan) → planned_total kept total +ℤ part_of row total ≡ planned_total (kept ++ row ∷ []) total
total_more kept row sums.Count = ap pos (sym (length-append kept (row ∷ [])))
total_more kept row (sums.Sum column) = sym (fold-append (λ sum r. sum +ℤ int_at r column) (pos 0) kept (row ∷ []))

sums_more : (kept : Rows) (row : List Value) (totals : List TotalPlan) → with_row_added totals row (map (planned_total kept) totals) ≡ map (planned_total (kept ++ row ∷ [])) totals
sums_more kept row [] = refl
sums_more kept row (total ∷ totals) = rw (total_more kept row total, sums_more kept row totals) refl

-- the sums with a row that passes
pub sums_with : (p : TotalsPlan) (rows : Rows) (row : List Value) → passes_all p.conditions row ≡ true → with_row_added p.totals row (sums_of p rows) ≡ sums_of p (rows ++ row ∷ [])
sums_with p rows row passes = sums_more (passing p rows) row p.totals ∙ ap (λ (kept : Rows). map (planned_total kept) p.totals) (sym (one_kept p row rows passes))

-- and with one that doesn't
pub sums_without : (p : TotalsPlan) (rows : Rows) (row : List Value) → passes_all p.conditions row ≡ false → sums_of p rows ≡ sums_of p (rows ++ row ∷ [])
sums_without p rows row fails = ap (λ (kept : Rows). map (planned_total kept) p.totals) (sym (none_kept p row rows fails))

-- a row of the piece at which a sum leaves 128 bits
pub goes_over : (p : TotalsPlan) (before piece : Rows) (i : ℕ) (row : List Value) (now : List ℤ) → i < length piece → row ≡ get_or piece i row → now ≡ sums_of p (before ++ take i piece) → passes_all p.conditions row ≡ true
    → Any IsOver (with_row_added p.totals row now) → GoesOver p (before ++ piece)
goes_over p before piece i row now less is so_far passes over =
    let rows = before ++ take i piece in record {
      front = rows ++ row ∷ [];
      rest = drop (i + 1) piece;
      split = ap (λ (l : Rows). before ++ l) (sym (take-append-drop (i + 1) piece)) ∙ sym (append_assoc before (take (i + 1) piece) (drop (i + 1) piece)) ∙ ap (λ (l : Rows). l ++ drop (i + 1) piece) (sym (front_more piece i row less is before));
      over = subst (Any IsOver) (ap (with_row_added p.totals row) so_far ∙ sums_with p rows row passes) over;
    }

-- the sums over no rows
pub zeros_are : (p : TotalsPlan) → map zero_of p.totals ≡ sums_of p []
zeros_are p = same p.totals where
  same : (totals : List TotalPlan) → map zero_of totals ≡ map (planned_total []) totals
  same [] = refl
  same (sums.Count ∷ totals) = ap (λ (l : List ℤ). pos 0 ∷ l) (same totals)
  same (sums.Sum column ∷ totals) = ap (λ (l : List ℤ). pos 0 ∷ l) (same totals)
