-- The levels of the nodes at the opening.
use Rattle.std.proofs.Common.{◌≡◌, ◌⊎◌, ℕ, zero, suc, ◌+◌, ◌<◌, Bool, cond, eqb, List, [], ◌∷◌, length, map, refl, ap, ◌∙◌, arith, ⊎_elim}
use Rattle.std.specs.Prelude.{slice_index}
use Rattle.std.proofs.lemmas.Bool.{ne_eqb}
use Rattle.olfit_nodes.specs.Nodes.{count_of, level_of}
use Rattle.olfit_rule.specs.Tree.{node_of, levels_of, mark_of}

mark_at : (ns : List (List ℕ)) (i : ℕ) → slice_index (map mark_of ns) i ≡ mark_of (node_of ns i)
mark_at [] i = refl
mark_at (w ∷ ns) zero = refl
mark_at (w ∷ ns) (suc i) = mark_at ns i

mark_some : (w : List ℕ) → 0 < count_of w → mark_of w ≡ level_of w + 1
mark_some w some = ap (λ (b : Bool). cond b 0 (level_of w + 1)) (ne_eqb (count_of w) 0 (λ e. omega (arith, e, some)))

pub level_at : (ns : List (List ℕ)) (i : ℕ) → i < length ns → (i ≡ 0) ⊎ (0 < count_of (node_of ns i)) → slice_index (levels_of ns) i ≡ level_of (node_of ns i) + 1
level_at [] i h s = absurd (omega (arith, h))
level_at (w ∷ ns) zero h s = refl
level_at (w ∷ ns) (suc i) h s = mark_at ns i ∙ mark_some (node_of ns i) (⊎_elim (λ (z : suc i ≡ 0). absurd (omega (arith, z))) (λ (p : 0 < count_of (node_of ns i)). p) s)

pub level_none : (ns : List (List ℕ)) (i : ℕ) → 0 < i → count_of (node_of ns i) ≡ 0 → slice_index (levels_of ns) i ≡ 0
level_none ns zero some z = absurd (omega (arith, some))
level_none [] (suc i) some z = refl
level_none (w ∷ ns) (suc i) some z = mark_at ns i ∙ ap (λ (n : ℕ). cond (eqb n 0) 0 (level_of (node_of ns i) + 1)) z
