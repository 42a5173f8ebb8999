-- Rows of rising keys, and one more.
use Rattle.std.proofs.Common.{◌≡◌, ℕ, zero, suc, ◌+◌, ◌<◌, ◌≤◌, List, [], ◌∷◌, ◌++◌, length, get_or, refl, sym, ap, ◌∙◌, subst, arith, ⊎_elim}
use Rattle.std.specs.List.{All}
use Rattle.std.proofs.lemmas.Bool.{cases_lt}
use Rattle.std.proofs.lemmas.List.{get_or_append_left, get_or_push, length_push, map-append}
use Rattle.std.proofs.lemmas.List.Elements.{All-append}
use Rattle.key_space.specs.declared.key.Key.{Key}
use Rattle.olfit_nodes.specs.Nodes.{Entry, Rises}
use Rattle.olfit_walk.specs.Looks.{entries_of_keys}

rises_more : (xs : List Entry) (e : Entry) → Rises xs → All (λ (x : Entry). x.0 < e.0) xs → Rises (xs ++ e ∷ [])
rises_more xs e r below i j d less inside =
    let l = length_push xs e in
    let x = get_or_append_left xs (e ∷ []) d i (omega (arith, less, inside, l)) in
    subst (λ (y : Entry). y.0 < (get_or (xs ++ e ∷ []) j d).0) (sym x) (⊎_elim
    (λ (within : j < length xs). subst (λ (y : Entry). (get_or xs i d).0 < y.0) (sym (get_or_append_left xs (e ∷ []) d j within)) (r i j d less within))
    (λ (past : length xs ≤ j). subst (λ (y : Entry). (get_or xs i d).0 < y.0) (sym (get_or_push xs e d j (omega (arith, past, inside, l)))) (below i d (omega (arith, less, inside, l))))
    (cases_lt j (length xs)))

-- so many rows, with rising keys below a number
pub record AreRows (rows : List (Key × ℕ)) (count most : ℕ) : Type 0 where
  pub rises : Rises (entries_of_keys rows)
  pub below : All (λ (x : Entry). x.0 < most) (entries_of_keys rows)
  pub count_is : length rows ≡ count

pub rows_none : (most : ℕ) → AreRows [] 0 most
rows_none most = record { rises = λ i j d less inside. absurd (omega (arith, inside)); below = λ i d h. absurd (omega (arith, h)); count_is = refl }

pub rows_more : (rows more : List (Key × ℕ)) (key : Key) (value count most next : ℕ) → AreRows rows count most → most ≤ key.number → key.number < next → more ≡ rows ++ (key, value) ∷ [] → AreRows more (count + 1) next
rows_more rows more key value count most next a above below is =
    let so : entries_of_keys more ≡ entries_of_keys rows ++ (key.number, value) ∷ [] = ap entries_of_keys is ∙ map-append (λ (e : Key × ℕ). (e.0.number, e.1)) rows ((key, value) ∷ []) in record {
      rises = subst Rises (sym so) (rises_more (entries_of_keys rows) (key.number, value) a.rises (λ i d h. let b = a.below i d h in omega (arith, b, above)));
      below = subst (All (λ (x : Entry). x.0 < next)) (sym so) (All-append (λ (x : Entry). x.0 < next) (entries_of_keys rows) ((key.number, value) ∷ [])
          (λ i d h. let b = a.below i d h in omega (arith, b, above, below)) (only (key.number, value) below));
      count_is = let e = ap (λ (xs : List (Key × ℕ)). length xs) is in let l = length_push rows (key, value) in let c = a.count_is in omega (arith, e, l, c);
    }
  where
    only : (e : Entry) → e.0 < next → All (λ (x : Entry). x.0 < next) (e ∷ [])
    only e h zero d inside = h
    only e h (suc i) d inside = absurd (omega (arith, inside))
