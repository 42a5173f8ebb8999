-- One change more of a map.
use Rattle.std.proofs.Common.{◌≡◌, ℕ, Option, List, [], ◌∷◌, ◌++◌, refl}
use Rattle.olfit_rule.specs.declared.view.Change.{Change}
use Rattle.olfit_rule.specs.Maps.{changed, map_after, May, IsLegal}

pub after_one : (m : ℕ → Option ℕ) (log : List Change) (c : Change) (q : ℕ) → map_after m (log ++ c ∷ []) q ≡ changed c (map_after m log) q
after_one m [] c q = refl
after_one m (d ∷ log) c q = after_one (changed d m) log c q

pub legal_one : (m : ℕ → Option ℕ) (log : List Change) (c : Change) → IsLegal m log → May c (map_after m log) → IsLegal m (log ++ c ∷ [])
legal_one m [] c legal may = (may, tt)
legal_one m (d ∷ log) c legal may = (legal.0, legal_one (changed d m) log c legal.1 may)
