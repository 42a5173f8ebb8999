-- A sum that is tested lies in -2^63 to 2^63 - 1, or there is none.
use Rattle.std.proofs.Common.{◌≡◌, Bool, true, false, ◌^◌, ℤ, pos, negsuc, None, Some, refl, ap, sym, ◌∙◌}
use Rattle.std.specs.Prelude.{FitsSigned}
use Rattle.std.specs.Bool.{then_some}
use Rattle.std.specs.Int.{w64}
use Rattle.std.proofs.lemmas.Bool.{ltb-true, lt-ltb}
use Rattle.row_types.specs.declared.row.Value.TheVariants.{Int}
use Rattle.plain_model.specs.Values.{fits_int, in_int}

pub fits_of : (n : ℤ) → fits_int n ≡ true → FitsSigned w64 n
fits_of (pos n) e = record { sfits = ltb-true _ _ e }
fits_of (negsuc n) e = record { sfits = ltb-true _ _ e }

pub of_fits : (n : ℤ) → FitsSigned w64 n → fits_int n ≡ true
of_fits (pos n) fits = lt-ltb n (2 ^ 63) fits.sfits
of_fits (negsuc n) fits = lt-ltb n (2 ^ 63) fits.sfits

-- a number that fits is there
pub some_is : (n x : ℤ) → FitsSigned w64 n → x ≡ n → Some (Int x) ≡ in_int n
some_is n x fits same = ap (λ y. Some (Int y)) same ∙ ap (λ b. then_some b (Int n)) (sym (of_fits n fits))

none_by : (n : ℤ) (b : Bool) → fits_int n ≡ b → (FitsSigned w64 n → ⊥) → None ≡ then_some b (Int n)
none_by n true e never = absurd (never (fits_of n e))
none_by n false e never = refl

-- one that doesn't fit isn't
pub none_is : (n : ℤ) → (FitsSigned w64 n → ⊥) → None ≡ in_int n
none_is n never = none_by n (fits_int n) refl never
