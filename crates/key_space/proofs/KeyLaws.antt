-- The order of keys.
use Rattle.std.proofs.Common.{ℤ, pos, negsuc, ◌<◌, arith}
use Rattle.std.specs.Prelude.{◌↔◌, ◌<ℤ◌, FitsSigned}
use Rattle.std.specs.Int.{w64}
use Rattle.std.proofs.lemmas.Int.{ints}
use Rattle.row_types.specs.Keys.{key_of_int}

pub key_of_int-lt : (v w : ℤ) → FitsSigned w64 v → FitsSigned w64 w → (v <ℤ w) ↔ (key_of_int v < key_of_int w)
key_of_int-lt (pos m) (pos n) fv fw = (λ h. omega (arith, ints), λ h. omega (arith, ints))
key_of_int-lt (pos m) (negsuc n) fv fw = (λ h. omega (arith, ints), λ h. omega (arith, ints))
key_of_int-lt (negsuc m) (pos n) fv fw = (λ h. omega (arith, ints), λ h. omega (arith, ints))
key_of_int-lt (negsuc m) (negsuc n) fv fw = (λ h. omega (arith, ints), λ h. omega (arith, ints))
