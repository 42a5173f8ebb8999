-- What the tests of ranges mean.
use Rattle.std.proofs.Common.{◌≡◌, ℕ, ◌≤◌, max, Bool, arith}
use Rattle.std.specs.Prelude.{◌↔◌, IsTrue}
use Rattle.key_space.specs.declared.range.Range.{Range}
use Rattle.key_space.specs.Ranges.{IsIn, shares}

module _ (a b : Range) (a-full : a.lo.number ≤ a.hi.number) (b-full : b.lo.number ≤ b.hi.number) (r : Bool) (test : r ≡ shares a b) where
  shared : r ≡ shares a b → IsTrue r → (a.lo.number ≤ b.hi.number) × (b.lo.number ≤ a.hi.number)
  shared t is_true = (grind arith, grind arith)

  met : (k : ℕ) → IsIn a k → IsIn b k → IsTrue r
  met k in-a in-b = grind arith

  pub shares_means : IsTrue r ↔ ((k : ℕ) × IsIn a k × IsIn b k)
  shares_means =
      ((λ is_true. let ends = shared test is_true in (max a.lo.number b.lo.number, record { above = omega arith; below = omega arith }, record { above = omega arith; below = omega arith })), (λ found. met found.0 found.1 found.2))
