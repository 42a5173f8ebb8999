-- Tests on keys, as the map makes them, in numbers.
use Rattle.std.proofs.Common.{◌≡◌, ℕ, ◌<◌, ◌≤◌, Bool, true, false, not, cond, ◌&&◌, refl, sym, ◌∙◌, ap, arith}
use Rattle.std.specs.Prelude.{◌==◌, nat_le, nat_lt}
use Rattle.std.specs.Ordering.{nat_cmp, is_le, is_lt}
use Rattle.std.specs.declared.cmp.Ordering.TheVariants.{Less, Equal, Greater}
use Rattle.std.proofs.lemmas.Bool.{eqb-true, eqb-false, ltb-true}

pub inside_is : (lo hi q : ℕ) → (is_le (nat_cmp lo q) && not (is_lt (nat_cmp hi q))) ≡ (nat_le lo q && nat_le q hi)
inside_is lo hi q = ap (λ b. b && not (is_lt (nat_cmp hi q))) low ∙ ap (λ b. nat_le lo q && b) high
  where
    low_two : (b : Bool) → (lo == q) ≡ b → nat_lt lo q ≡ false → is_le (cond b Equal Greater) ≡ nat_le lo q
    low_two true e f = let same = eqb-true lo q e in grind arith
    low_two false e f = let other = eqb-false lo q e in grind arith

    low_one : (b : Bool) → nat_lt lo q ≡ b → is_le (cond b Less (cond (lo == q) Equal Greater)) ≡ nat_le lo q
    low_one true e = let less = ltb-true lo q e in grind arith
    low_one false e = low_two (lo == q) refl e

    low : is_le (nat_cmp lo q) ≡ nat_le lo q
    low = low_one (nat_lt lo q) refl

    high_two : (b : Bool) → (hi == q) ≡ b → nat_lt hi q ≡ false → not (is_lt (cond b Equal Greater)) ≡ nat_le q hi
    high_two true e f = let same = eqb-true hi q e in grind arith
    high_two false e f = grind arith

    high_one : (b : Bool) → nat_lt hi q ≡ b → not (is_lt (cond b Less (cond (hi == q) Equal Greater))) ≡ nat_le q hi
    high_one true e = let less = ltb-true hi q e in grind arith
    high_one false e = high_two (hi == q) refl e

    high : not (is_lt (nat_cmp hi q)) ≡ nat_le q hi
    high = high_one (nat_lt hi q) refl

pub less_is : (x y : ℕ) → nat_cmp x y ≡ Less → x < y
less_is x y e = one (nat_lt x y) refl e
  where
    two : (b : Bool) → cond b Equal Greater ≡ Less → ⊥
    two true e = cc
    two false e = cc

    one : (b : Bool) → nat_lt x y ≡ b → cond b Less (cond (x == y) Equal Greater) ≡ Less → x < y
    one true t e = ltb-true x y t
    one false t e = absurd (two (x == y) e)

-- ---- a range and its end

abbrev pub is_inside : ℕ → ℕ → ℕ → Bool
is_inside lo hi q = is_le (nat_cmp lo q) && not (is_lt (nat_cmp hi q))

pub inside_of : (lo hi q : ℕ) → is_inside lo hi q ≡ true → (lo ≤ q) × (q ≤ hi)
inside_of lo hi q e = one (nat_le lo q) (nat_le q hi) refl refl (sym (inside_is lo hi q) ∙ e)
  where
    one : (a b : Bool) → nat_le lo q ≡ a → nat_le q hi ≡ b → (a && b) ≡ true → (lo ≤ q) × (q ≤ hi)
    one true true f g e = (grind arith, grind arith)
    one true false f g e = absurd cc
    one false true f g e = absurd cc
    one false false f g e = absurd cc

pub is_in : (lo hi q : ℕ) → lo ≤ q → q ≤ hi → is_inside lo hi q ≡ true
is_in lo hi q low high = inside_is lo hi q ∙ grind arith

pub is_above : (lo hi q : ℕ) → hi < q → is_inside lo hi q ≡ false
is_above lo hi q high = inside_is lo hi q ∙ one (nat_le lo q) (nat_le q hi) refl
  where
    one : (a b : Bool) → nat_le q hi ≡ b → (a && b) ≡ false
    one true true e = absurd (grind arith)
    one true false e = refl
    one false b e = refl

true_false : true ≡ false → ⊥
true_false e = cc

-- a key outside of a range is outside of one that ends before
pub is_out : (lo hi end q : ℕ) → end ≤ hi → is_inside lo hi q ≡ false → is_inside lo end q ≡ false
is_out lo hi end q before e = one (is_inside lo end q) refl
  where
    one : (b : Bool) → is_inside lo end q ≡ b → b ≡ false
    one true f =
        let i = inside_of lo end q f in
        let high : q ≤ hi = omega (arith, i.1) in
        absurd (true_false (sym (is_in lo hi q i.0 high) ∙ e))
    one false f = refl
