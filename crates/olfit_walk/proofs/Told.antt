-- How the answer of a look-up is told.
use Rattle.std.proofs.Common.{◌≡◌, ℕ, Option, Some, None, length, sym, refl, subst}
use Rattle.key_space.specs.declared.key.Key.{Key}
use Rattle.olfit_walk.specs.declared.answers.Look.{Look}
use Rattle.olfit_walk.specs.Looks.{Reading, Tells, IsTrueOf}
use Rattle.olfit_walk.specs.Ways.{look_of}

pub told : (key : Key) (value : Option ℕ) (known : ℕ) (r : Reading) (look : Look) → look ≡ look_of key value known → known ≡ length r.told → IsTrueOf r key.number value → Tells key.number look r
told key value known r look is count so = subst (λ (l : Look). Tells key.number l r) (sym is) (by_value value so)
  where
    by_value : (v : Option ℕ) → IsTrueOf r key.number v → Tells key.number (look_of key v known) r
    by_value None so = (refl, count, refl, so)
    by_value (Some v) so = (refl, count, refl, so)
