-- Keys and the whole numbers of 64 bits that they are of.
use Rattle.std.proofs.Common.{◌≡◌, ℕ, zero, suc, ◌<◌, ◌+◌, Bool, true, false, cond, eqb, ℤ, pos, negsuc, List, [], ◌∷◌, Some, refl, ◌∙◌, ap, subst, arith, rules}
use Rattle.std.specs.Prelude.{◌-◌, ◌^◌, nat_le, is_some, FitsSigned}
use Rattle.std.specs.Int.{w64}
use Rattle.std.specs.List.{AllByRecursion}
use Rattle.std.proofs.lemmas.Bool.{eqb-true}
use Rattle.std.proofs.lemmas.Int.{ints}
use Rattle.row_types.specs.declared.definition.Column.{Column}
use Rattle.row_types.specs.declared.definition.Kind.{Kind}
use Rattle.row_types.specs.declared.definition.Kind.TheVariants as kind
use Rattle.row_types.specs.declared.row.Value.{Value}
use Rattle.row_types.specs.declared.row.Value.TheVariants as value
use Rattle.row_types.specs.Keys.{int_of, int_at, key_of_int, row_key}
use Rattle.row_types.specs.Slot.{FitsKind, IsRowOf}
use Rattle.key_space.specs.Plays.{Rows, row_at}
use Rattle.call_log.specs.Standing.{int_of_key}

pub int_back : (v : ℤ) → FitsSigned w64 v → int_of_key (key_of_int v) ≡ v
int_back (pos n) fits =
    let le : nat_le (2 ^ 63) (2 ^ 63 + n) ≡ true = grind arith in
    let rest : (2 ^ 63 + n) - 2 ^ 63 ≡ n = omega arith in
    ap (λ b. cond b (pos ((2 ^ 63 + n) - 2 ^ 63)) (negsuc (2 ^ 63 - (2 ^ 63 + n) - 1))) le ∙ ap pos rest
int_back (negsuc n) fits =
    let small : n < 2 ^ 63 = omega (arith, ints, fits) in
    let gt : nat_le (2 ^ 63) (2 ^ 63 - suc n) ≡ false = grind arith in
    let rest : 2 ^ 63 - (2 ^ 63 - suc n) - 1 ≡ n = omega arith in
    ap (λ b. cond b (pos ((2 ^ 63 - suc n) - 2 ^ 63)) (negsuc (2 ^ 63 - (2 ^ 63 - suc n) - 1))) gt ∙ ap negsuc rest

key_small : (v : ℤ) → FitsSigned w64 v → key_of_int v < 2 ^ 64
key_small (pos n) fits = omega (arith, ints, fits)
key_small (negsuc n) fits = omega (arith, ints, fits)

zero_fits : FitsSigned w64 (pos 0)
zero_fits = search rules

int_fits : (columns : List Column) (row : List Value) (n : ℕ) → IsRowOf columns row → FitsSigned w64 (int_at row n)
int_fits [] [] n fits = zero_fits
int_fits [] (v ∷ row) n fits = absurd fits
int_fits (c ∷ columns) [] n fits = absurd fits
int_fits (c ∷ columns) (v ∷ row) zero fits = one c.kind v fits.0
  where
    one : (k : Kind) (v : Value) → FitsKind k v → FitsSigned w64 (int_of (Some v))
    one kind.Int (value.Int number) fits = fits
    one (kind.Text limit) (value.Text text) fits = zero_fits
    one kind.Int (value.Text text) fits = absurd fits
    one (kind.Text limit) (value.Int number) fits = absurd fits
int_fits (c ∷ columns) (v ∷ row) (suc n) fits = int_fits columns row n fits.1

pub row_key_small : (columns : List Column) (marks : List ℕ) (row : List Value) → IsRowOf columns row → row_key marks row < 2 ^ 64
row_key_small columns [] row fits = search rules
row_key_small columns (mark ∷ marks) row fits = key_small (int_at row mark) (int_fits columns row mark fits)

-- the key of a row that is found has a whole number
pub found_small : (columns : List Column) (marks : List ℕ) (rows : Rows) (key : ℕ) → AllByRecursion (IsRowOf columns) rows → is_some (row_at marks rows key) ≡ true → key < 2 ^ 64
found_small columns marks [] key fits found = absurd cc
found_small columns marks (row ∷ rows) key fits found = one (eqb (row_key marks row) key) refl found (found_small columns marks rows key fits.1)
  where
    one : (b : Bool) → eqb (row_key marks row) key ≡ b → is_some (cond b (Some row) (row_at marks rows key)) ≡ true → (is_some (row_at marks rows key) ≡ true → key < 2 ^ 64) → key < 2 ^ 64
    one true e found rest = subst (λ n. n < 2 ^ 64) (eqb-true (row_key marks row) key e) (row_key_small columns marks row fits.0)
    one false e found rest = rest found
