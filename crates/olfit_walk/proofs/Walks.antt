-- The way from the root to a leaf.
use Rattle.std.proofs.Common.{◌≡◌, ◌≢◌, ◌⊎◌, ℕ, ◌+◌, ◌-◌, ◌*◌, ◌^◌, ◌<◌, ◌≤◌, List, Option, Some, None, sym, ◌∙◌, subst, arith, inl, inr, get_or}
use Rattle.std.specs.Prelude.{slice_index, IfSome}
use Rattle.std.proofs.lemmas.Bool.{cases_lt}
use Rattle.std.proofs.lemmas.Option.{slice_get-get_or}
use Rattle.olfit_nodes.specs.declared.head.Link.{Link}
use Rattle.olfit_nodes.specs.Nodes.{Entry, child_in, entries_of, level_of, right_of}
use Rattle.olfit_rule.specs.declared.view.Moment.{Moment}
use Rattle.atomic_table.specs.declared.shared.Seat.{Seat}
use Rattle.olfit_rule.specs.declared.view.Change.{Change}
use Rattle.olfit_rule.specs.declared.view.View.{View}
use Rattle.olfit_rule.specs.Maps.{StartsWith}
use Rattle.olfit_rule.specs.Rule.{Follows}
use Rattle.olfit_rule.proofs.Lasting.{later_on}
use Rattle.olfit_rule.specs.Tree.{node_of, low, Good, Lasts, IsAt, Covers}
use Rattle.olfit_walk.specs.Ways.{IsBelowRight, IsNext, IsOnWay, distance}
use Rattle.olfit_walk.proofs.Finds.{child_is, some_child}

abbrev RightIs : Moment → ℕ → ℕ → Link → Type 0
RightIs t level i link = IsAt t level link.node × (low t link.node ≡ link.key) × (low t i < link.key)

-- the way goes to the right neighbour
pub walk_right : (base : List Entry) (t : Moment) (target level i key : ℕ) (link : Link) → Good base t → IsAt t level i → target ≤ level → low t i ≤ key → right_of (node_of t.image i) ≡ Some link → link.key ≤ key
    → IsOnWay t target key link.node × (distance t key link.node < distance t key i)
walk_right base t target level i key link good at high above is far =
    let r = (good.nodes level i at).right link is in
    let mark = at.1 in let mark' = r.0.1 in let is_low = r.1 in let up = r.2 in
    ((level, r.0, high, omega arith), omega arith)

-- the way goes to a child
pub walk_down : (base : List Entry) (t : Moment) (target level i key c : ℕ) → Good base t → IsAt t level i → target ≤ level → low t i ≤ key → key < 2 ^ 128 → level_of (node_of t.image i) ≢ target → child_in key (entries_of (node_of t.image i)) ≡ Some c
    → IsOnWay t target key c × (distance t key c < distance t key i)
walk_down base t target level i key c good at high above short not is =
    let n = good.nodes level i at in
    let other : level ≢ target = λ e. not (n.height ∙ e) in
    let inner = n.inner (level - 1) (omega arith) in
    let e = child_is (λ (e : Entry). IsAt t (level - 1) e.1 × (low t e.1 ≡ e.0)) (entries_of (node_of t.image i)) key c inner.children is in
    let at' : IsAt t (level - 1) c = subst (IsAt t (level - 1)) e.3 e.1.0 in
    let low' : low t c ≡ e.0.0 = subst (λ (z : ℕ). low t z ≡ e.0.0) e.3 e.1.1 in
    let mark = at.1 in let mark' = at'.1 in let le = e.2 in
    ((level - 1, at', omega arith, omega arith), omega arith)

-- where the way ends
pub walk_ends : (base : List Entry) (t : Moment) (target level i key : ℕ) → Good base t → IsAt t level i → target ≤ level → low t i ≤ key → IsBelowRight (node_of t.image i) key
    → (level_of (node_of t.image i) ≡ target) ⊎ (child_in key (entries_of (node_of t.image i)) ≡ None) → IsAt t target i × Covers t i key
walk_ends base t target level i key good at high above below ends =
    let n = good.nodes level i at in
    let here : level ≡ target = elim ends [
      | inl e ↦ sym n.height ∙ e
      | inr none ↦ elim (cases_lt target level) [
        | inl more ↦ absurd (lost (level - 1) (omega arith) none)
        | inr less ↦ omega arith
      ]
    ] in
    (subst (λ (z : ℕ). IsAt t z i) here at, record { above = above; below = below })
  where
    lost : (b : ℕ) → level ≡ b + 1 → child_in key (entries_of (node_of t.image i)) ≡ None → ⊥
    lost b e none =
        let inner = (good.nodes level i at).inner b e in let xs : List Entry = entries_of (node_of t.image i) in
        let first = slice_get-get_or xs 0 (0, 0) inner.some in
        let is = subst (λ (o : Option Entry). IfSome o (λ (x : Entry). x.0 ≡ low t i)) first inner.first in
        some_child xs key (get_or xs 0 (0, 0)) first (omega arith) none

-- a node on the way stays on it at a later moment
pub on_way_later : (a b : Moment) (target key node : ℕ) → Lasts a b → IsOnWay a target key node → IsOnWay b target key node
on_way_later a b target key node lasts way = let at = lasts.at way.0 node way.1 in let e = lasts.low way.0 node way.1 in let le = way.3 in (way.0, at, way.2, omega arith)

pub same_distance : (a b : Moment) (target key node : ℕ) → Lasts a b → IsOnWay a target key node → distance b key node ≡ distance a key node
same_distance a b target key node lasts way =
    let at = lasts.at way.0 node way.1 in let mark = at.1 in let mark' = way.1.1 in let e = lasts.low way.0 node way.1 in
    let marks : slice_index b.levels node ≡ slice_index a.levels node = mark ∙ sym mark' in
    (λ j. marks j * 2 ^ 128 + (key - e j))

-- one step of the way, at the moment at which the node was read
pub walk_on : (base : List Entry) (t : Moment) (target key node next : ℕ) (words : List ℕ) → Good base t → IsOnWay t target key node → key < 2 ^ 128 → words ≡ node_of t.image node → IsNext words target key (Some next)
    → IsOnWay t target key next × (distance t key next < distance t key node)
walk_on base t target key node next words good way short is step = elim (subst (λ (ws : List ℕ). IsNext ws target key (Some next)) is step) [
  | inl r ↦ let w = walk_right base t target way.0 node key r.0 good way.1 way.2 way.3 r.1 r.2 in
      subst (λ (z : ℕ). IsOnWay t target key z × (distance t key z < distance t key node)) (sym r.3) w
  | inr d ↦ walk_down base t target way.0 node key next good way.1 way.2 way.3 short d.1 d.2
]

pub walk_ended : (base : List Entry) (t : Moment) (target key node : ℕ) (words : List ℕ) → Good base t → IsOnWay t target key node → words ≡ node_of t.image node → IsNext words target key None → IsAt t target node × Covers t node key
walk_ended base t target key node words good way is step =
    let s = subst (λ (ws : List ℕ). IsNext ws target key None) is step in walk_ends base t target way.0 node key good way.1 way.2 way.3 s.0 s.1

-- a reader follows what it knew through two calls
pub follows_on : (p q r : Seat ℕ View) → Follows p q → Follows q r → Follows p r
follows_on p q r f g = record {
  table = g.table ∙ f.table;
  id = g.id ∙ f.id;
  slots = g.slots ∙ f.slots;
  writes = g.writes ∙ f.writes;
  base = g.base ∙ f.base;
  later = later_on p.me.0.seen q.me.0.seen r.me.0.seen f.later g.later;
  told = subst (λ (l : List Change). StartsWith r.me.0.seen.log l) f.kept g.told;
  kept = g.kept ∙ f.kept;
  loads = let x = f.loads in let y = g.loads in omega (arith, x, y);
}
