-- A full leaf is split for a key: what the call still has to do above it.
use Rattle.std.proofs.Common.{◌≡◌, ℕ, ◌+◌, ◌<◌, ◌≤◌, List, ◌∷◌, [], length, sym, ap, ◌∙◌, subst, arith}
use Rattle.atomic_table.specs.Seated.{TableId}
use Rattle.atomic_table.specs.declared.shared.Seat.{Seat}
use Rattle.olfit_nodes.specs.declared.head.Link.{Link}
use Rattle.olfit_nodes.specs.Nodes.{Entry, count_of}
use Rattle.olfit_rule.specs.declared.view.Change.TheVariants.{Add}
use Rattle.olfit_rule.specs.declared.view.Moment.{Moment}
use Rattle.olfit_rule.specs.declared.view.View.{View}
use Rattle.olfit_rule.specs.Tree.{node_of, low, Good, IsAt, Covers}
use Rattle.olfit_change.specs.Room.{Needs, NeedsFrom}
use Rattle.olfit_change.specs.States.{IsReady, IsBetweenCalls, IsLeftAbove, IsSplitAt}
use Rattle.olfit_change.proofs.Climbs.{Parted, climb_leaf, parted}
use Rattle.olfit_change.proofs.Links.{needs_down, needs_up, same_flip, same_needs}
use Rattle.olfit_change.proofs.Needed.{full_none, needs_at}
use Rattle.olfit_change.proofs.Ready.{few_at}
use Rattle.olfit_change.proofs.Weights.{owed_split}

-- a leaf with room takes no node
pub had_room : (base : List Entry) (t : Moment) (leaf : ℕ) (words : List ℕ) (key : ℕ) → Good base t → IsAt t 0 leaf → Covers t leaf key → words ≡ node_of t.image leaf → count_of words < 16 → Needs t key 0
had_room base t leaf words key good at covers is few = needs_at t 0 good.root.0 0 key 0 good.root.1 (omega arith) (omega arith) (full_none t 0 key) leaf at covers (let same = ap count_of is in omega (arith, few, same))

module _ (table : TableId) (nodes used key leaf : ℕ) (words : List ℕ) (p : Seat ℕ View) (works : IsBetweenCalls table nodes used p) (need : (needed : ℕ) × Needs p.me.0.seen key needed × (used + needed ≤ nodes))
    (at : IsAt p.me.0.seen 0 leaf) (covers : Covers p.me.0.seen leaf key) (is : words ≡ node_of p.me.0.seen.image leaf) (most : 16 ≤ count_of words) where
  abbrev t : Moment
  t = p.me.0.seen

  pub full : count_of words ≡ 16
  full = let few = few_at table nodes p 0 leaf words works.ready at is in omega (arith, few, most)

  count : count_of (node_of t.image leaf) ≡ 16
  count = sym (ap count_of is) ∙ full

  up : (m : ℕ) × (need.0 ≡ m + 1) × NeedsFrom t 1 key m
  up = needs_up p.me.0.base t leaf key need.0 works.ready.good at covers count need.1

  -- a node is left for the upper half
  pub one_left : used < nodes
  one_left = let e = up.1 in let room = need.2 in omega (arith, e, room)

  pub leaf_split : (value : ℕ) (q : Seat ℕ View) (link : Link) → IsReady table nodes q → IsSplitAt leaf link (Add key value ∷ []) p.me.0 q.me.0 → link.node ≡ used → IsLeftAbove nodes used key link t q.me.0.seen
  leaf_split value q link after s new = record {
    linking = climb_leaf p.me.0 q.me.0 key value leaf link used works.ready.good works.free works.told works.clean works.versions at covers s new within size;
    room = (up.0, same_needs 1 t u root.0 key up.0 parts.upper root.1 root' up.2, (let e = up.1 in let room = need.2 in omega (arith, e, room)));
    needs = λ more n. needs_down p.me.0.base t leaf key more works.ready.good at covers count (same_needs 1 u t root.0 key more (same_flip 1 t u parts.upper) root' root.1 n);
    owed = λ keys paid. owed_split p.me.0 q.me.0 leaf used keys link (Add key value ∷ []) s (works.ready.good.nodes 0 leaf at).height count (root'.1 ∙ sym root.1.1) paid;
  }
    where
      u : Moment
      u = q.me.0.seen

      size : length u.image ≡ length t.image
      size = after.count ∙ sym works.ready.count

      within : used < length t.image
      within = let some = one_left in let long = works.ready.count in omega (arith, some, long)

      parts : Parted t u
      parts = parted p.me.0 q.me.0 leaf link (Add key value ∷ []) used works.ready.good works.free at s new within size

      root : (level : ℕ) × IsAt t level t.root × (low t t.root ≡ 0)
      root = works.ready.good.root

      root' : IsAt u root.0 u.root
      root' = subst (λ (r : ℕ). IsAt u root.0 r) (sym parts.upper.root) (parts.on root.0 t.root root.1)
