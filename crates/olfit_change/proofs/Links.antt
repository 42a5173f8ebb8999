-- What the changes of a call leave of the nodes in use, of versions and of the levels above.
use Rattle.std.proofs.Common.{◌≡◌, ◌≢◌, ℕ, ◌+◌, ◌-◌, ◌*◌, ◌<◌, ◌≤◌, List, length, refl, sym, ap, ◌∙◌, subst, arith, inl, inr, ⊎_elim, get_or-set_same, get_or-set_other}
use Rattle.std.specs.Prelude.{slice_index}
use Rattle.std.proofs.lemmas.Bool.{cases_eq}
use Rattle.olfit_nodes.specs.declared.head.Link.{Link}
use Rattle.olfit_nodes.specs.Nodes.{Entry, entries_of, count_of, low_of, right_of}
use Rattle.olfit_rule.specs.declared.view.Change.{Change}
use Rattle.olfit_rule.specs.declared.view.Moment.{Moment}
use Rattle.olfit_rule.specs.declared.view.View.{View}
use Rattle.olfit_rule.specs.Maps.{map_of}
use Rattle.olfit_rule.specs.Tree.{node_of, low, version, Good, IsAt, Covers}
use Rattle.olfit_change.specs.Room.{IsFullBetween, HasRoomAt, NeedsFrom}
use Rattle.olfit_change.specs.States.{IsFreeFrom, IsToldOf, IsClean, HasLowVersions, IsChangedAt, IsSplitAt, IsGrown, IsLinking, SameFrom}
use Rattle.olfit_change.proofs.Kept.{covers_by}
use Rattle.olfit_change.proofs.Parents.{parent_has, fresh_above}

abbrev first_word : List ℕ → ℕ
first_word ws = slice_index ws 0

-- one node was changed

module _ (v w : View) (node : ℕ) (changes : List Change) (c : IsChangedAt node changes v w) (size : length w.seen.image ≡ length v.seen.image) where
  pub changed_back : (l j : ℕ) → IsAt w.seen l j → IsAt v.seen l j
  changed_back l j h = (subst (λ (z : ℕ). j < z) size h.0, sym (ap (λ (xs : List ℕ). slice_index xs j) c.levels) ∙ h.1)

  pub free_changed : (used : ℕ) → node < used → IsFreeFrom used v.seen → IsFreeFrom used w.seen
  free_changed used low f = record {
    most = (f.most.0, let m = f.most.1 in omega (arith, m, size));
    linked = λ l i h. f.linked l i (changed_back l i h);
    fresh = λ i h. ap first_word (c.others i (λ e. omega (arith, e, h, low))) ∙ f.fresh i h;
    top = λ l i h. subst (λ (z : ℕ). l < z) (sym root_level) (f.top l i (changed_back l i h));
    tall = subst (λ (z : ℕ). z ≤ used) (sym root_level) f.tall;
  }
    where
      root_level : slice_index w.seen.levels w.seen.root ≡ slice_index v.seen.levels v.seen.root
      root_level = λ j. slice_index (c.levels j) (c.root j)

  pub low_changed : ((i : ℕ) → version v.seen.image i ≤ 2 * length w.seen.log) → version v.seen.image node + 2 ≤ 2 * length w.seen.log → HasLowVersions w.seen
  low_changed all here i = ⊎_elim
      (λ (is : i ≡ node). let e = ap (λ (k : ℕ). version w.seen.image k) is in let f = c.version in omega (arith, e, f, here))
      (λ (not : i ≢ node). let e = ap first_word (c.others i not) in let a = all i in omega (arith, e, a))
      (cases_eq i node)

-- a node was split

module _ (v w : View) (level node : ℕ) (link : Link) (changes : List Change) (s : IsSplitAt node link changes v w) (good : Good v.base v.seen) (at : IsAt v.seen level node)
    (free : IsFreeFrom link.node v.seen) (within : link.node < length v.seen.image) (size : length w.seen.image ≡ length v.seen.image) where
  pub old : (l j : ℕ) → IsAt v.seen l j → j ≢ link.node
  old l j h e = let x = free.linked l j h in omega (arith, x, e)

  pub split_on : (l j : ℕ) → IsAt v.seen l j → IsAt w.seen l j
  split_on l j h = (
    subst (λ (z : ℕ). j < z) (sym size) h.0,
    ap (λ (xs : List ℕ). slice_index xs j) s.levels ∙ (get_or-set_other v.seen.levels link.node j (slice_index v.seen.levels node) 0 (old l j h) ∙ h.1),
  )

  pub split_back : (l j : ℕ) → j ≢ link.node → IsAt w.seen l j → IsAt v.seen l j
  split_back l j not h = (
    subst (λ (z : ℕ). j < z) size h.0,
    sym (ap (λ (xs : List ℕ). slice_index xs j) s.levels ∙ get_or-set_other v.seen.levels link.node j (slice_index v.seen.levels node) 0 not) ∙ h.1,
  )

  pub split_new : IsAt w.seen level link.node
  split_new = (
    subst (λ (z : ℕ). link.node < z) (sym size) within,
    ap (λ (xs : List ℕ). slice_index xs link.node) s.levels ∙ (get_or-set_same v.seen.levels link.node (slice_index v.seen.levels node) 0 (subst (λ (z : ℕ). link.node < z) (sym good.sized) within) ∙ at.1),
  )

  new_level : (l j : ℕ) → j ≡ link.node → IsAt w.seen l j → level ≡ l
  new_level l j is h = let a = split_new.1 in let b = h.1 in let c = ap (λ (k : ℕ). slice_index w.seen.levels k) is in omega (arith, a, b, c)

  pub old_level : (l j : ℕ) → j ≡ node → IsAt v.seen l j → level ≡ l
  old_level l j is h = let a = at.1 in let b = h.1 in let c = ap (λ (k : ℕ). slice_index v.seen.levels k) is in omega (arith, a, b, c)

  upper_back : (l j : ℕ) → level + 1 ≤ l → IsAt w.seen l j → IsAt v.seen l j
  upper_back l j high h = split_back l j (λ e. let x = new_level l j e h in omega (arith, x, high)) h

  upper_words : (l j : ℕ) → level + 1 ≤ l → IsAt v.seen l j → node_of w.seen.image j ≡ node_of v.seen.image j
  upper_words l j high h = s.others j (λ e. let x = old_level l j e h in omega (arith, x, high)) (old l j h)

  pub upper_same : SameFrom (level + 1) v.seen w.seen
  upper_same = record { root = s.root; on = λ l j high h. split_on l j h; back = upper_back; words = upper_words }

  root_level : slice_index w.seen.levels w.seen.root ≡ slice_index v.seen.levels v.seen.root
  root_level = ap (λ (k : ℕ). slice_index w.seen.levels k) s.root ∙ (let r = split_on _ _ good.root.1 in r.1 ∙ sym good.root.1.1)

  pub free_split : IsFreeFrom (link.node + 1) w.seen
  free_split = record {
    most = (omega arith, omega (arith, within, size));
    linked = λ l i h. ⊎_elim (λ (is : i ≡ link.node). omega (arith, is)) (λ (not : i ≢ link.node). let x = free.linked l i (split_back l i not h) in omega (arith, x)) (cases_eq i link.node);
    fresh = λ i h. let x = free.linked level node at in ap first_word (s.others i (λ e. omega (arith, e, x, h)) (λ e. omega (arith, e, h))) ∙ free.fresh i (omega (arith, h));
    top = λ l i h. ⊎_elim
        (λ (is : i ≡ link.node). let e = new_level l i is h in let x = free.top level node at in let r = root_level in omega (arith, e, x, r))
        (λ (not : i ≢ link.node). let x = free.top l i (split_back l i not h) in let r = root_level in omega (arith, x, r))
        (cases_eq i link.node);
    tall = let x = free.tall in let r = root_level in omega (arith, x, r);
  }

  module _ (key : ℕ) (covers : Covers v.seen node key) (all : (i : ℕ) → version v.seen.image i ≤ 2 * length w.seen.log)
      (above : (l i : ℕ) → level ≤ l → IsAt v.seen l i → version v.seen.image i + 2 ≤ 2 * length w.seen.log)
      (told : (l i : ℕ) → IsAt w.seen l i → i ≢ link.node → IsToldOf w.seen l i) (clean : IsClean w.seen) where
    low_split : HasLowVersions w.seen
    low_split i =
        let here = above level node (omega arith) at in ⊎_elim
        (λ (is : i ≡ node). let e = ap (λ (k : ℕ). version w.seen.image k) is in let f = s.versions.0 in omega (arith, e, f, here))
        (λ (not : i ≢ node). ⊎_elim
        (λ (is : i ≡ link.node). let e = ap (λ (k : ℕ). version w.seen.image k) is in let f = s.versions.1 in let z = free.fresh link.node (omega arith) in omega (arith, e, f, z, here))
        (λ (other : i ≢ link.node). let e = ap first_word (s.others i not other) in let a = all i in omega (arith, e, a))
        (cases_eq i link.node))
        (cases_eq i node)

    pub linking : IsLinking (level + 1) key link (link.node + 1) w.seen
    linking = record {
      free = free_split;
      told = told;
      clean = clean;
      versions = low_split;
      above = λ l i high h. let h' = upper_back l i high h in let e = ap first_word (upper_words l i high h') in let a = above l i (omega (arith, high)) h' in omega (arith, e, a);
      child = (level, refl, split_new, s.low.1);
      some = (let x = s.above in omega (arith, x), let x = above level node (omega arith) at in omega (arith, x));
      fresh = λ i h. let h' = upper_back (level + 1) i (omega arith) h in
          ap (λ (ws : List ℕ). map_of (entries_of ws) link.key) (upper_words (level + 1) i (omega arith) h') ∙ fresh_above v.base v.seen level node i link.key good at s.covers s.above h';
      belongs = λ i h c. let h' = upper_back (level + 1) i (omega arith) h in let e = upper_words (level + 1) i (omega arith) h' in
          covers_by v.seen w.seen i link.key (ap low_of e) (ap right_of e)
          (parent_has v.base v.seen level node i key link.key good at covers s.covers h' (covers_by w.seen v.seen i key (ap low_of (sym e)) (ap right_of (sym e)) c));
    }

-- a new root was made

module _ (v w : View) (top fresh : ℕ) (g : IsGrown top fresh v w) (good : Good v.base v.seen) (root : IsAt v.seen top v.seen.root) (free : IsFreeFrom fresh v.seen) (within : fresh < length v.seen.image)
    (size : length w.seen.image ≡ length v.seen.image) where
  pub grown_root : slice_index w.seen.levels w.seen.root ≡ top + 2
  grown_root = (λ j. slice_index (g.levels j) (g.root j)) ∙ get_or-set_same v.seen.levels fresh (top + 2) 0 (subst (λ (z : ℕ). fresh < z) (sym good.sized) within)

  pub grown_back : (l j : ℕ) → j ≢ fresh → IsAt w.seen l j → IsAt v.seen l j
  grown_back l j not h = (
    subst (λ (z : ℕ). j < z) size h.0,
    sym (ap (λ (xs : List ℕ). slice_index xs j) g.levels ∙ get_or-set_other v.seen.levels fresh j (top + 2) 0 not) ∙ h.1,
  )

  pub free_grown : IsFreeFrom (fresh + 1) w.seen
  free_grown = record {
    most = (omega arith, omega (arith, within, size));
    linked = λ l i h. ⊎_elim (λ (is : i ≡ fresh). omega (arith, is)) (λ (not : i ≢ fresh). let x = free.linked l i (grown_back l i not h) in omega (arith, x)) (cases_eq i fresh);
    fresh = λ i h. ap first_word (g.others i (λ e. omega (arith, e, h))) ∙ free.fresh i (omega (arith, h));
    top = λ l i h. ⊎_elim
        (λ (is : i ≡ fresh). let a = h.1 in let r = grown_root in let q = ap (λ (k : ℕ). slice_index w.seen.levels k) (is ∙ sym g.root) in omega (arith, a, r, q))
        (λ (not : i ≢ fresh). let x = free.top l i (grown_back l i not h) in let r = grown_root in let q = root.1 in omega (arith, x, r, q))
        (cases_eq i fresh);
    tall = let r = grown_root in let q = root.1 in let x = free.tall in omega (arith, r, q, x);
  }

  pub low_grown : HasLowVersions v.seen → 0 < length v.seen.log → HasLowVersions w.seen
  low_grown lows some i =
      let logs = ap (λ (l : List Change). length l) g.log in ⊎_elim
      (λ (is : i ≡ fresh). let e = ap (λ (k : ℕ). version w.seen.image k) is in let f = g.version in let z = free.fresh fresh (omega arith) in omega (arith, e, f, z, some, logs))
      (λ (not : i ≢ fresh). let e = ap first_word (g.others i not) in let a = lows i in omega (arith, e, a, logs))
      (cases_eq i fresh)

-- levels that stay the same

pub same_flip : (level : ℕ) (t u : Moment) → SameFrom level t u → SameFrom level u t
same_flip level t u s = record {
  root = sym s.root;
  on = s.back;
  back = s.on;
  words = λ l i high h. sym (s.words l i high (s.back l i high h));
}

pub same_none : (level : ℕ) (t : Moment) → SameFrom level t t
same_none level t = record { root = refl; on = λ l i high h. h; back = λ l i high h. h; words = λ l i high h. refl }

pub same_join : (level : ℕ) (t u v : Moment) → SameFrom level t u → SameFrom (level + 1) u v → SameFrom (level + 1) t v
same_join level t u v a b = record {
  root = b.root ∙ a.root;
  on = λ l i high h. b.on l i high (a.on l i (omega (arith, high)) h);
  back = λ l i high h. a.back l i (omega (arith, high)) (b.back l i high h);
  words = λ l i high h. let low : level ≤ l = omega (arith, high) in b.words l i high (a.on l i low h) ∙ a.words l i low h;
}

pub same_by : (level : ℕ) (t u v : Moment) → SameFrom level t u → v ≡ u → SameFrom level t v
same_by level t u v s is = subst (SameFrom level t) (sym is) s

pub same_covers : (level : ℕ) (t u : Moment) (l i q : ℕ) → SameFrom level t u → level ≤ l → IsAt t l i → Covers t i q → Covers u i q
same_covers level t u l i q s high h c = let e = s.words l i high h in covers_by t u i q (ap low_of e) (ap right_of e) c

same_full : (level : ℕ) (t u : Moment) (from upto key : ℕ) → SameFrom level t u → level ≤ from → IsFullBetween t from upto key → IsFullBetween u from upto key
same_full level t u from upto key s high full l i low less h c =
    let h' = s.back l i (omega (arith, high, low)) h in
    let e = s.words l i (omega (arith, high, low)) h' in
    ap count_of e ∙ full l i low less h' (same_covers level u t l i key (same_flip level t u s) (omega (arith, high, low)) h c)

pub same_needs : (level : ℕ) (t u : Moment) (top key needed : ℕ) → SameFrom level t u → IsAt t top t.root → IsAt u top u.root → NeedsFrom t level key needed → NeedsFrom u level key needed
same_needs level t u top key needed s root root' n =
    let tops : n.top.0 ≡ top = (let a = n.top.1.1 in let b = root.1 in omega (arith, a, b)) in
    record {
      top = (
        n.top.0,
        subst (λ (z : ℕ). IsAt u z u.root) (sym tops) root',
        elim n.top.2 [
          | inl x ↦ let room = x.2 in let high : level ≤ level + needed = omega arith in
              inl (
                x.0,
                same_full level t u level (level + needed) key s (omega arith) x.1,
                (room.0, s.on (level + needed) room.0 high room.1, same_covers level t u (level + needed) room.0 key s high room.1 room.2, subst (λ (ws : List ℕ). count_of ws < 16) (sym (s.words (level + needed) room.0 high room.1)) room.3),
              )
          | inr x ↦ inr (x.0, same_full level t u level (n.top.0 + 1) key s (omega arith) x.1)
        ],
      );
    }

-- the leaf is full

pub needs_down : (base : List Entry) (t : Moment) (leaf key needed : ℕ) → Good base t → IsAt t 0 leaf → Covers t leaf key → count_of (node_of t.image leaf) ≡ 16 → NeedsFrom t 1 key needed → NeedsFrom t 0 key (needed + 1)
needs_down base t leaf key needed good at covers full n = record {
  top = (
    n.top.0,
    n.top.1,
    elim n.top.2 [
      | inl x ↦ let sums : 1 + needed ≡ 0 + (needed + 1) = omega arith in let room = subst (λ (z : ℕ). HasRoomAt t z key) sums x.2 in
          inl (omega arith, λ l i low less h c. lower (1 + needed) x.1 l i (omega arith) h c, room)
      | inr x ↦ inr (omega arith, λ l i low less h c. lower (n.top.0 + 1) x.1 l i less h c)
    ],
  );
}
  where
    lower : (upto : ℕ) → IsFullBetween t 1 upto key → (l i : ℕ) → l < upto → IsAt t l i → Covers t i key → count_of (node_of t.image i) ≡ 16
    lower upto rest l i less h c = ⊎_elim
        (λ (is : l ≡ 0). ap (λ (k : ℕ). count_of (node_of t.image k)) (good.alone 0 i leaf key (subst (λ (z : ℕ). IsAt t z i) is h) at c covers) ∙ full)
        (λ more. rest l i (omega (arith, more)) less h c)
        (cases_eq l 0)

pub needs_up : (base : List Entry) (t : Moment) (leaf key needed : ℕ) → Good base t → IsAt t 0 leaf → Covers t leaf key → count_of (node_of t.image leaf) ≡ 16 → NeedsFrom t 0 key needed → (m : ℕ) × (needed ≡ m + 1) × NeedsFrom t 1 key m
needs_up base t leaf key needed good at covers full n = elim n.top.2 [
  | inl x ↦ ⊎_elim
      (λ (is : needed ≡ 0). let zeros : 0 + needed ≡ needed = omega arith in let room = subst (λ (z : ℕ). HasRoomAt t z key) zeros x.2 in
      let same = good.alone 0 leaf room.0 key at (subst (λ (z : ℕ). IsAt t z room.0) is room.1) covers room.2 in
      let e = ap (λ (k : ℕ). count_of (node_of t.image k)) same in let few = room.3 in absurd (omega (arith, e, few, full)))
      (λ more. let m : ℕ = needed - 1 in let e : needed ≡ m + 1 = omega (arith, more) in let sums : 0 + needed ≡ 1 + m = omega (arith, e) in
      (m, e, record { top = (n.top.0, n.top.1, inl (omega (arith, x.0, e), (λ l i low less h c. x.1 l i (omega arith) (omega (arith, less, e)) h c), subst (λ (z : ℕ). HasRoomAt t z key) sums x.2)) }))
      (cases_eq needed 0)
  | inr x ↦ let m : ℕ = n.top.0 + 1 in let e : needed ≡ m + 1 = (let y = x.0 in omega (arith, y)) in
      (m, e, record { top = (n.top.0, n.top.1, inr (omega arith, λ l i low less h c. x.1 l i (omega arith) less h c)) })
]
