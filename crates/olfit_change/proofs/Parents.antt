-- What a node's range is to that of the node above it.
use Rattle.std.proofs.Common.{◌≡◌, ℕ, ◌+◌, ◌<◌, ◌≤◌, List, get_or, Option, None, refl, ap, ◌∙◌, subst, arith, ⊎_elim}
use Rattle.std.specs.Prelude.{IfSome}
use Rattle.std.proofs.lemmas.Bool.{cases_lt}
use Rattle.std.proofs.lemmas.Option.{slice_get-get_or}
use Rattle.olfit_nodes.specs.Nodes.{Entry, entries_of}
use Rattle.olfit_rule.specs.declared.view.Moment.{Moment}
use Rattle.olfit_rule.specs.Maps.{map_of}
use Rattle.olfit_rule.specs.Tree.{node_of, low, Good, IsAt, Covers}
use Rattle.olfit_change.proofs.Entries.{absent_below}

-- a node has its own low key
pub covers_own : (base : List Entry) (t : Moment) (level f k : ℕ) → Good base t → IsAt t level f → low t f ≡ k → Covers t f k
covers_own base t level f k good at is = record {
  above = let e = is in omega arith;
  below = λ link there. let r = (good.nodes level f at).right link there in let more = r.2 in omega (arith, is, more);
}

record LowChild (t : Moment) (below p : ℕ) : Type 0 where
  child : ℕ
  at : IsAt t below child
  lows : low t child ≡ low t p

low_child : (base : List Entry) (t : Moment) (below p : ℕ) → Good base t → IsAt t (below + 1) p → LowChild t below p
low_child base t below p good at =
    let inner = (good.nodes (below + 1) p at).inner below refl in
    let xs : List Entry = entries_of (node_of t.image p) in
    let first = subst (λ (o : Option Entry). IfSome o (λ (e : Entry). e.0 ≡ low t p)) (slice_get-get_or xs 0 (0, 0) inner.some) inner.first in
    let c = inner.children 0 (0, 0) inner.some in record { child = (get_or xs 0 (0, 0)).1; at = c.0; lows = c.1 ∙ first }

-- the node above one has all keys of it
pub parent_has : (base : List Entry) (t : Moment) (below i p a b : ℕ) → Good base t → IsAt t below i → Covers t i a → Covers t i b → IsAt t (below + 1) p → Covers t p a → Covers t p b
parent_has base t below i p a b good at has_a has_b above has = record {
  above = ⊎_elim
      (λ (less : b < low t p).
      let f = low_child base t below p good above in
      let own = covers_own base t below f.child (low t p) good f.at f.lows in
      let here : Covers t i (low t p) = record {
        above = let x = has_b.above in omega (arith, x, less);
        below = λ link is. let x = has_a.below link is in let y = has.above in omega (arith, x, y);
      } in
      let e = ap (λ (k : ℕ). low t k) (good.alone below f.child i (low t p) f.at at own here) in let x = f.lows in let y = has_b.above in absurd (omega (arith, e, x, y, less)))
      (λ (most : low t p ≤ b). most)
      (cases_lt b (low t p));
  below = λ link is. ⊎_elim
      (λ (less : b < link.key). less)
      (λ (most : link.key ≤ b).
      let r = (good.nodes (below + 1) p above).right link is in
      let f = low_child base t below link.node good r.0 in
      let lows : low t f.child ≡ link.key = f.lows ∙ r.1 in
      let own = covers_own base t below f.child link.key good f.at lows in
      let beyond = has.below link is in
      let here : Covers t i link.key = record {
        above = let x = has_a.above in omega (arith, x, beyond);
        below = λ m there. let x = has_b.below m there in omega (arith, x, most);
      } in
      let e = ap (λ (k : ℕ). low t k) (good.alone below f.child i link.key f.at at own here) in let x = has_a.above in absurd (omega (arith, e, lows, x, beyond)))
      (cases_lt b link.key);
}

-- a key amid a node's range is none of an entry above it
pub fresh_above : (base : List Entry) (t : Moment) (below i p k : ℕ) → Good base t → IsAt t below i → Covers t i k → low t i < k → IsAt t (below + 1) p → map_of (entries_of (node_of t.image p)) k ≡ None
fresh_above base t below i p k good at has amid above =
    absent_below (entries_of (node_of t.image p)) k (λ j d h e.
    let c = ((good.nodes (below + 1) p above).inner below refl).children j d h in
    let lows = c.1 ∙ e in
    let own = covers_own base t below _ k good c.0 lows in
    let same = ap (λ (m : ℕ). low t m) (good.alone below _ i k c.0 at own has) in omega (arith, same, lows, amid))
