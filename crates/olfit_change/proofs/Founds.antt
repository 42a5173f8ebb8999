-- The key of an entry that was found.
use Rattle.std.proofs.Common.{◌≡◌, ℕ, Bool, List, get_or, Some, eqb}
use Rattle.std.proofs.lemmas.Bool.{eqb-true}
use Rattle.std.proofs.lemmas.List.Quantifiers.{position-Some}
use Rattle.olfit_nodes.specs.Nodes.{Entry, place_in}

abbrev has_key : ℕ → Entry → Bool
has_key key e = eqb e.0 key

pub found_key : (xs : List Entry) (key p : ℕ) (d : Entry) → place_in key xs ≡ Some p → (get_or xs p d).0 ≡ key
found_key xs key p d is = let at = position-Some (has_key key) xs p d is in eqb-true (get_or xs p d).0 key at.1
