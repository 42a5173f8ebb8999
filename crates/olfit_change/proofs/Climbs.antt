-- From level to level: an entry for the node that was split off below.
use Rattle.std.proofs.Common.{◌≡◌, ℕ, append-nil, ◌+◌, ◌<◌, ◌≤◌, List, ◌∷◌, ◌++◌, [], length, None, refl, sym, ap, ◌∙◌, subst, arith, length-append}
use Rattle.atomic_table.specs.Seated.{TableId}
use Rattle.atomic_table.specs.declared.shared.Seat.{Seat}
use Rattle.std.specs.List.{Contains}
use Rattle.olfit_nodes.specs.declared.head.Link.{Link}
use Rattle.olfit_nodes.specs.Nodes.{entries_of}
use Rattle.olfit_rule.specs.declared.view.Change.{Change}
use Rattle.olfit_rule.specs.declared.view.Change.TheVariants.{Add}
use Rattle.olfit_rule.specs.declared.view.Moment.{Moment}
use Rattle.olfit_rule.specs.declared.view.View.{View}
use Rattle.olfit_rule.specs.Maps.{map_of, map_after}
use Rattle.olfit_rule.specs.Tree.{node_of, Good, IsAt, Covers}
use Rattle.olfit_change.specs.States.{IsReady, IsFreeFrom, IsTold, IsClean, HasLowVersions, IsChangedAt, IsSplitAt, IsLinking, MayPut, SameFrom, IsBetweenCalls, Stays, both_entries}
use Rattle.olfit_change.proofs.Told.{clean_changed, clean_split, told_changed, told_first, told_linked, told_next}
use Rattle.olfit_change.proofs.Ready.{ready_still}
use Rattle.olfit_change.proofs.Links.{linking, free_changed, low_changed, split_on, upper_same, same_join, same_flip, same_covers}

-- the entry may be put in
pub may_link : (v : View) (level key node : ℕ) (link : Link) (used : ℕ) → 1 ≤ level → IsLinking level key link used v.seen → IsAt v.seen level node → Covers v.seen node key → MayPut [] node link.key link.node v
may_link v level key node link used high l at covers = record {
  at = (level, at);
  covers = l.belongs node at covers;
  absent = l.fresh node at;
  leaf = λ h. let a = at.1 in let b = h.1 in absurd (omega (arith, a, b, high));
  inner = λ below h. let a = at.1 in let b = h.1 in let c = l.child in let e = c.1 in
      let is : c.0 ≡ below = omega (arith, a, b, e) in (refl, subst (λ (m : ℕ). IsAt v.seen m link.node) is c.2, c.3);
}

-- a key that is absent may be put into its leaf
pub may_add : (v : View) (key value leaf : ℕ) → Good v.base v.seen → IsAt v.seen 0 leaf → Covers v.seen leaf key → map_after (map_of v.base) v.seen.log key ≡ None → MayPut (Add key value ∷ []) leaf key value v
may_add v key value leaf good at covers absent = record {
  at = (0, at);
  covers = covers;
  absent = (good.nodes 0 leaf at).leaf refl key covers ∙ absent;
  leaf = λ h. refl;
  inner = λ below h. let a = at.1 in let b = h.1 in absurd (omega (arith, a, b));
}

same_log : (v w : View) → w.seen.log ≡ v.seen.log ++ [] → length w.seen.log ≡ length v.seen.log
same_log v w is = ap (λ (l : List Change). length l) (is ∙ append-nil v.seen.log)

-- one level up
pub climb : (v w : View) (level key node : ℕ) (link next : Link) (used : ℕ) → Good v.base v.seen → IsLinking level key link used v.seen → IsAt v.seen level node → Covers v.seen node key
    → IsSplitAt node next [] v w → next.node ≡ used → used < length v.seen.image → length w.seen.image ≡ length v.seen.image → Contains (both_entries w.seen node next) (link.key, link.node) → IsLinking (level + 1) key next (used + 1) w.seen
climb v w level key node link next used good l at covers s is within size entry =
    let logs = same_log v w s.log in
    let free : IsFreeFrom next.node v.seen = subst (λ (n : ℕ). IsFreeFrom n v.seen) (sym is) l.free in
    let inside : next.node < length v.seen.image = omega (arith, is, within) in
    subst (λ (n : ℕ). IsLinking (level + 1) key next (n + 1) w.seen) is
    (linking v w level node next [] s good at free inside size key covers
    (λ i. let x = l.versions i in omega (arith, x, logs)) (λ m i high h. let x = l.above m i high h in omega (arith, x, logs))
    (told_next v w level node next [] s good at free inside size link l.child.0 l.child.1 l.told l.child.2 l.child.3 entry)
    (clean_split v w level node next [] s good at free inside size l.clean))

-- from the leaf
pub climb_leaf : (v w : View) (key value leaf : ℕ) (next : Link) (used : ℕ) → Good v.base v.seen → IsFreeFrom used v.seen → IsTold v.seen → IsClean v.seen → HasLowVersions v.seen → IsAt v.seen 0 leaf → Covers v.seen leaf key
    → IsSplitAt leaf next (Add key value ∷ []) v w → next.node ≡ used → used < length v.seen.image → length w.seen.image ≡ length v.seen.image → IsLinking 1 key next (used + 1) w.seen
climb_leaf v w key value leaf next used good free told clean lows at covers s is within size =
    let logs : length w.seen.log ≡ length v.seen.log + 1 = ap (λ (l : List Change). length l) s.log ∙ length-append v.seen.log (Add key value ∷ []) in
    let free' : IsFreeFrom next.node v.seen = subst (λ (n : ℕ). IsFreeFrom n v.seen) (sym is) free in
    let inside : next.node < length v.seen.image = omega (arith, is, within) in
    subst (λ (n : ℕ). IsLinking 1 key next (n + 1) w.seen) is
    (linking v w 0 leaf next (Add key value ∷ []) s good at free' inside size key covers
    (λ i. let x = lows i in omega (arith, x, logs)) (λ m i high h. let x = lows i in omega (arith, x, logs))
    (told_first v w 0 leaf next (Add key value ∷ []) s good at free' inside size told)
    (clean_split v w 0 leaf next (Add key value ∷ []) s good at free' inside size clean))

-- the last entry was put in
pub works_linked : (table : TableId) (nodes used : ℕ) (p q : Seat ℕ View) (level key node : ℕ) (link : Link) → IsReady table nodes p → IsReady table nodes q → IsLinking level key link used p.me.0.seen → IsAt p.me.0.seen level node
    → IsChangedAt node [] p.me.0 q.me.0 → Contains (entries_of (node_of q.me.0.seen.image node)) (link.key, link.node) → IsBetweenCalls table nodes used q
works_linked table nodes used p q level key node link before after l at c entry =
    let size : length q.me.0.seen.image ≡ length p.me.0.seen.image = after.count ∙ sym before.count in
    let logs = same_log p.me.0 q.me.0 c.log in record {
      ready = after;
      free = free_changed p.me.0 q.me.0 node [] c size used (l.free.linked level node at) l.free;
      told = told_linked p.me.0 q.me.0 node [] c size link l.child.0 l.told (subst (λ (m : ℕ). IsAt p.me.0.seen m node) l.child.1 at) l.child.2 l.child.3 entry;
      clean = clean_changed p.me.0 q.me.0 node [] c size l.clean;
      versions = low_changed p.me.0 q.me.0 node [] c size (λ i. let x = l.versions i in omega (arith, x, logs)) (let x = l.above level node (omega arith) at in omega (arith, x, logs));
    }

-- the writer knows what it knew
pub works_still : (table : TableId) (nodes used : ℕ) (p q : Seat ℕ View) → IsBetweenCalls table nodes used p → Stays p q → IsBetweenCalls table nodes used q
works_still table nodes used p q works s = record {
  ready = ready_still table nodes p q works.ready s;
  free = subst (λ (v : View). IsFreeFrom used v.seen) (sym s.1) works.free;
  told = subst (λ (v : View). IsTold v.seen) (sym s.1) works.told;
  clean = subst (λ (v : View). IsClean v.seen) (sym s.1) works.clean;
  versions = subst (λ (v : View). HasLowVersions v.seen) (sym s.1) works.versions;
}

-- a leaf was changed
pub works_changed : (table : TableId) (nodes used : ℕ) (p q : Seat ℕ View) (leaf : ℕ) (change : Change) → IsBetweenCalls table nodes used p → IsReady table nodes q → IsAt p.me.0.seen 0 leaf → IsChangedAt leaf (change ∷ []) p.me.0 q.me.0 → IsBetweenCalls table nodes used q
works_changed table nodes used p q leaf change works after at c =
    let size : length q.me.0.seen.image ≡ length p.me.0.seen.image = after.count ∙ sym works.ready.count in
    let logs : length q.me.0.seen.log ≡ length p.me.0.seen.log + 1 = ap (λ (l : List Change). length l) c.log ∙ length-append p.me.0.seen.log (change ∷ []) in record {
      ready = after;
      free = free_changed p.me.0 q.me.0 leaf (change ∷ []) c size used (works.free.linked 0 leaf at) works.free;
      told = told_changed p.me.0 q.me.0 leaf (change ∷ []) c size works.told;
      clean = clean_changed p.me.0 q.me.0 leaf (change ∷ []) c size works.clean;
      versions = low_changed p.me.0 q.me.0 leaf (change ∷ []) c size (λ i. let x = works.versions i in omega (arith, x, logs)) (let x = works.versions leaf in omega (arith, x, logs));
    }

-- what the loop keeps, one level up
pub record Climbed (level key top : ℕ) (next : Link) (used : ℕ) (start now : Moment) : Type 0 where
  pub linking : IsLinking (level + 1) key next (used + 1) now
  pub upper : SameFrom (level + 1) start now
  pub root : IsAt now top now.root

pub climbed : (start : Moment) (v w : View) (level key top node : ℕ) (link next : Link) (used : ℕ) → Good v.base v.seen → IsLinking level key link used v.seen → IsAt v.seen level node → Covers v.seen node key
    → IsSplitAt node next [] v w → next.node ≡ used → used < length v.seen.image → length w.seen.image ≡ length v.seen.image → SameFrom level start v.seen → IsAt v.seen top v.seen.root
    → Contains (both_entries w.seen node next) (link.key, link.node) → Climbed level key top next used start w.seen
climbed start v w level key top node link next used good l at covers s is within size upper root entry =
    let free : IsFreeFrom next.node v.seen = subst (λ (n : ℕ). IsFreeFrom n v.seen) (sym is) l.free in
    let inside : next.node < length v.seen.image = omega (arith, is, within) in record {
      linking = climb v w level key node link next used good l at covers s is within size entry;
      upper = same_join level start v.seen w.seen upper (upper_same v w level node next [] s good at free inside size);
      root = subst (λ (r : ℕ). IsAt w.seen top r) (sym s.root) (split_on v w level node next [] s good at free inside size top v.seen.root root);
    }

-- after the leaf was split
pub record Parted (start now : Moment) : Type 0 where
  pub upper : SameFrom 1 start now
  pub on : (l i : ℕ) → IsAt start l i → IsAt now l i

pub parted : (v w : View) (leaf : ℕ) (next : Link) (changes : List Change) (used : ℕ) → Good v.base v.seen → IsFreeFrom used v.seen → IsAt v.seen 0 leaf → IsSplitAt leaf next changes v w → next.node ≡ used → used < length v.seen.image
    → length w.seen.image ≡ length v.seen.image → Parted v.seen w.seen
parted v w leaf next changes used good free at s is within size =
    let free' : IsFreeFrom next.node v.seen = subst (λ (n : ℕ). IsFreeFrom n v.seen) (sym is) free in
    let inside : next.node < length v.seen.image = omega (arith, is, within) in record {
      upper = upper_same v w 0 leaf next changes s good at free' inside size;
      on = split_on v w 0 leaf next changes s good at free' inside size;
    }

-- a node of a level that stayed, as it was
pub record Was (level key node : ℕ) (start now : Moment) : Type 0 where
  pub at : IsAt start level node
  pub covers : Covers start node key
  pub words : node_of now.image node ≡ node_of start.image node

pub was : (level key node : ℕ) (start now : Moment) → SameFrom level start now → IsAt now level node → Covers now node key → Was level key node start now
was level key node start now s at covers =
    let back = s.back level node (omega arith) at in record {
      at = back;
      covers = same_covers level now start level node key (same_flip level start now s) (omega arith) at covers;
      words = s.words level node (omega arith) back;
    }
