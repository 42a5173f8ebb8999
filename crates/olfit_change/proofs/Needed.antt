-- How many new nodes an entry takes, level by level.
use Rattle.std.proofs.Common.{◌≡◌, ◌∙◌, ◌+◌, ◌≤◌, ◌<◌, ℕ, List, arith, sym, ap, subst, inl, inr, ⊎_elim}
use Rattle.std.proofs.lemmas.Bool.{cases_eq, cases_lt}
use Rattle.olfit_nodes.specs.Nodes.{Entry, count_of}
use Rattle.olfit_rule.specs.declared.view.Moment.{Moment}
use Rattle.olfit_rule.specs.Tree.{node_of, Good, IsAt, Covers}
use Rattle.olfit_change.specs.Room.{IsFullBetween, HasRoomAt, NeedsFrom}

-- the node of one level more is full
pub full_on : (base : List Entry) (t : Moment) (from upto key node : ℕ) → Good base t → IsFullBetween t from upto key → IsAt t upto node → Covers t node key → count_of (node_of t.image node) ≡ 16
    → IsFullBetween t from (upto + 1) key
full_on base t from upto key node good full at covers count level i low high here cov = ⊎_elim
    (λ (is : level ≡ upto). let same : i ≡ node = good.alone upto i node key (subst (λ (l : ℕ). IsAt t l i) is here) at cov covers in ap (λ (j : ℕ). count_of (node_of t.image j)) same ∙ count)
    (λ other. full level i low (omega arith) here cov)
    (cases_eq level upto)

pub full_none : (t : Moment) (from key : ℕ) → IsFullBetween t from from key
full_none t from key level i low high here cov = absurd (omega arith)

-- there is room at a level up to the root's
pub needs_at : (t : Moment) (from top upto key needed : ℕ) → IsAt t top t.root → from + needed ≡ upto → upto ≤ top → IsFullBetween t from upto key → (node : ℕ) → IsAt t upto node → Covers t node key → count_of (node_of t.image node) < 16
    → NeedsFrom t from key needed
needs_at t from top upto key needed root is most full node at covers room =
    let full' : IsFullBetween t from (from + needed) key = subst (λ (u : ℕ). IsFullBetween t from u key) (sym is) full in
    let room' : HasRoomAt t (from + needed) key = subst (λ (u : ℕ). HasRoomAt t u key) (sym is) (node, at, covers, room) in
    record { top = (top, root, inl (omega arith, full', room')) }

-- all levels up to the root's are full
pub needs_root : (t : Moment) (from top upto key needed : ℕ) → IsAt t top t.root → from + needed ≡ top + 2 → upto ≡ top + 1 → IsFullBetween t from upto key → NeedsFrom t from key needed
needs_root t from top upto key needed root is end full = record { top = (top, root, inr (is, subst (λ (u : ℕ). IsFullBetween t from u key) end full)) }

-- where the levels up to one are full, no fewer nodes are needed
pub needs_more : (base : List Entry) (t : Moment) (from top upto key needed : ℕ) → Good base t → IsAt t top t.root → upto ≤ top + 1 → IsFullBetween t from upto key → NeedsFrom t from key needed → upto ≤ from + needed
needs_more base t from top upto key needed good root most full needs = elim needs.top.2 [
  | inl n ↦ let room = n.2 in elim (cases_lt (from + needed) upto) [
    | inl less ↦ let count = full (from + needed) room.0 (omega arith) less room.1 room.2 in let few = room.3 in absurd (omega arith)
    | inr more ↦ omega arith
  ]
  | inr n ↦ let e = root.1 in let f = needs.top.1.1 in let g = n.0 in omega arith
]

-- where all levels up to the root's are full, a new root is needed too
pub needs_all : (t : Moment) (from top key needed : ℕ) → IsAt t top t.root → IsFullBetween t from (top + 1) key → NeedsFrom t from key needed → from + needed ≡ top + 2
needs_all t from top key needed root full needs = elim needs.top.2 [
  | inl n ↦ let room = n.2 in let e = root.1 in let f = needs.top.1.1 in let g = n.0 in
      let count = full (from + needed) room.0 (omega arith) (omega (arith, e, f, g)) room.1 room.2 in let few = room.3 in absurd (omega (arith, count, few))
  | inr n ↦ let e = root.1 in let f = needs.top.1.1 in let g = n.0 in omega (arith, e, f, g)
]
