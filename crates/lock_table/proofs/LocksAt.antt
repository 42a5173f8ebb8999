-- The locks at places.
use Rattle.std.proofs.Common.{◌≡◌, ℕ, ◌+◌, ◌<◌, List, [], ◌∷◌, ◌++◌, length, get_or, take, refl, ◌∙◌, ap}
use Rattle.std.proofs.lemmas.List.{take_more, append-nil}
use Rattle.std.proofs.lemmas.List.Elements.{filter_map-append}
use Rattle.std.specs.Prelude.{None, Some}
use Rattle.key_space.specs.declared.lock.Held.{Held}
use Rattle.lock_table.specs.declared.place.Place.{Place}
use Rattle.lock_table.specs.Locks.{Locks}
use Rattle.lock_table.specs.Orders.{lock_at, held_at}

module _ (locks : Locks) where
  held_append : (xs ys : List Place) → held_at locks (xs ++ ys) ≡ held_at locks xs ++ held_at locks ys
  held_append xs ys = filter_map-append (lock_at locks) xs ys

  held_one : (p : Place) (h : Held) → lock_at locks p ≡ Some h → held_at locks (p ∷ []) ≡ h ∷ []
  held_one p h e = rw e refl

  held_none : (p : Place) → lock_at locks p ≡ None → held_at locks (p ∷ []) ≡ []
  held_none p e = rw e refl

  pub held_more : (places : List Place) (i : ℕ) (d : Place) (h : Held) → i < length places → lock_at locks (get_or places i d) ≡ Some h
      → held_at locks (take (i + 1) places) ≡ held_at locks (take i places) ++ h ∷ []
  held_more places i d h within e =
      ap (held_at locks) (take_more places i d within) ∙ held_append (take i places) (get_or places i d ∷ [])
      ∙ ap (λ (x : List Held). held_at locks (take i places) ++ x) (held_one (get_or places i d) h e)

  pub held_no_more : (places : List Place) (i : ℕ) (d : Place) → i < length places → lock_at locks (get_or places i d) ≡ None
      → held_at locks (take (i + 1) places) ≡ held_at locks (take i places)
  held_no_more places i d within e =
      ap (held_at locks) (take_more places i d within) ∙ held_append (take i places) (get_or places i d ∷ [])
      ∙ ap (λ (x : List Held). held_at locks (take i places) ++ x) (held_none (get_or places i d) e) ∙ append-nil (held_at locks (take i places))
