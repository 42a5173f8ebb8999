-- What is left of a row when a value was moved out of it.
use Rattle.std.proofs.Common.{◌≡◌, ◌≢◌, ℕ, suc, ◌<◌, ◌≤◌, false, map, length, List, [], ◌∷◌, refl, ◌==◌, ap, ◌∙◌, arith}
use Rattle.std.specs.List.{AllWithin}
use Rattle.std.proofs.lemmas.Bool.{eqb-false}
use Rattle.row_types.specs.declared.row.Value.{Value}

-- columns that aren't the one whose value was moved have what they had
pub others_stay : (column : ℕ) (later : List ℕ) (f g : ℕ → Value) → AllWithin (λ y. y == column ≡ false) later 0 (length later) → ((other : ℕ) → other ≢ column → f other ≡ g other)
    → map f later ≡ map g later
others_stay column [] f g none same = refl
others_stay column (other ∷ later) f g none same =
    let first : f other ≡ g other = same other (eqb-false other column (none 0 0 (omega (arith)) (omega (arith)))) in
    let rest = others_stay column later f g (λ k d low high. none (suc k) d (omega (arith)) (omega (arith, high))) same in
    ap (λ (v : Value). v ∷ map f later) first ∙ ap (λ (l : List Value). g other ∷ l) rest
