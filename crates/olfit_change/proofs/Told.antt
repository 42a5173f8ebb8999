-- Of which nodes the level above was told, and that the words behind the entries stay zero.
use Rattle.std.proofs.Common.{◌≡◌, ◌≢◌, ℕ, ◌+◌, ◌<◌, List, ◌∷◌, [], length, sym, ap, ◌∙◌, subst, arith, inl, inr, ⊎_elim, get_or-set_other}
use Rattle.std.specs.Prelude.{slice_index}
use Rattle.std.specs.List.{Contains}
use Rattle.std.proofs.lemmas.Bool.{cases_eq}
use Rattle.std.proofs.lemmas.List.Elements.{All-contains, Contains-append_cases}
use Rattle.olfit_nodes.specs.declared.head.Link.{Link}
use Rattle.olfit_nodes.specs.Nodes.{Entry, entries_of, low_of, IsClear}
use Rattle.olfit_rule.specs.declared.view.Change.{Change}
use Rattle.olfit_rule.specs.declared.view.Moment.{Moment}
use Rattle.olfit_rule.specs.declared.view.View.{View}
use Rattle.olfit_rule.specs.Tree.{node_of, low, Good, IsAt}
use Rattle.olfit_change.specs.States.{HasEntryAbove, IsToldOf, IsTold, IsClean, IsFreeFrom, IsChangedAt, IsSplitAt, IsGrown, both_entries}
use Rattle.olfit_change.proofs.Links.{changed_back, grown_back, grown_root, old, old_level, split_back, split_new, split_on}

-- an entry of a node's words
abbrev Has : List ℕ → Entry → Type 0
Has ws e = Contains (entries_of ws) e

-- a node lies on one level
one_level : (t : Moment) (l m i : ℕ) → IsAt t l i → IsAt t m i → l ≡ m
one_level t l m i a b = let x = a.1 in let y = b.1 in omega (arith, x, y)

-- one node was changed

module _ (v w : View) (node : ℕ) (changes : List Change) (c : IsChangedAt node changes v w) (size : length w.seen.image ≡ length v.seen.image) where
  at_on : (l j : ℕ) → IsAt v.seen l j → IsAt w.seen l j
  at_on l j h = (subst (λ (z : ℕ). j < z) (sym size) h.0, ap (λ (xs : List ℕ). slice_index xs j) c.levels ∙ h.1)

  low_same : (j : ℕ) → low w.seen j ≡ low v.seen j
  low_same j = ⊎_elim
      (λ (is : j ≡ node). subst (λ (k : ℕ). low w.seen k ≡ low v.seen k) (sym is) c.low)
      (λ (not : j ≢ node). ap low_of (c.others j not))
      (cases_eq j node)

  entry_on : (below j : ℕ) (e : Entry) → IsAt v.seen (below + 1) j → Has (node_of v.seen.image j) e → Has (node_of w.seen.image j) e
  entry_on below j e at h = ⊎_elim
      (λ (is : j ≡ node). subst (λ (k : ℕ). Has (node_of w.seen.image k) e) (sym is)
      (All-contains (Contains (entries_of (node_of w.seen.image node))) (entries_of (node_of v.seen.image node)) e (c.kept below (subst (IsAt v.seen (below + 1)) is at)) (subst (λ (k : ℕ). Has (node_of v.seen.image k) e) is h)))
      (λ (not : j ≢ node). subst (λ (ws : List ℕ). Has ws e) (sym (c.others j not)) h)
      (cases_eq j node)

  above_changed : (l i : ℕ) → HasEntryAbove v.seen l i → HasEntryAbove w.seen l i
  above_changed l i a = (a.0, at_on (l + 1) a.0 a.1, subst (λ (k : ℕ). Has (node_of w.seen.image a.0) (k, i)) (sym (low_same i)) (entry_on l a.0 (low v.seen i, i) a.1 a.2))

  told_of_changed : (l i : ℕ) → IsToldOf v.seen l i → IsToldOf w.seen l i
  told_of_changed l i (inl root) = inl (root ∙ sym c.root)
  told_of_changed l i (inr above) = inr (above_changed l i above)

  pub told_changed : IsTold v.seen → IsTold w.seen
  told_changed told l i h = told_of_changed l i (told l i (changed_back v w node changes c size l i h))

  -- the node got the entry of the one of which the level above wasn't told
  pub told_linked : (link : Link) (below : ℕ) → ((l i : ℕ) → IsAt v.seen l i → i ≢ link.node → IsToldOf v.seen l i) → IsAt v.seen (below + 1) node → IsAt v.seen below link.node → low v.seen link.node ≡ link.key
      → Has (node_of w.seen.image node) (link.key, link.node) → IsTold w.seen
  told_linked link below told at child lows entry l i h = let h' = changed_back v w node changes c size l i h in ⊎_elim
      (λ (is : i ≡ link.node).
      let level : below ≡ l = one_level v.seen below l link.node child (subst (IsAt v.seen l) is h') in
      let there : HasEntryAbove w.seen below link.node = (node, at_on (below + 1) node at, subst (λ (k : ℕ). Has (node_of w.seen.image node) (k, link.node)) (sym (low_same link.node ∙ lows)) entry) in
      subst (λ (j : ℕ). IsToldOf w.seen l j) (sym is) (inr (subst (λ (m : ℕ). HasEntryAbove w.seen m link.node) level there)))
      (λ (not : i ≢ link.node). told_of_changed l i (told l i h' not))
      (cases_eq i link.node)

  pub clean_changed : IsClean v.seen → IsClean w.seen
  clean_changed clean i h = let h' : i < length v.seen.image = omega (arith, h, size) in ⊎_elim
      (λ (is : i ≡ node). subst (λ (k : ℕ). IsClear (node_of w.seen.image k)) (sym is) (c.clear (subst (λ (k : ℕ). IsClear (node_of v.seen.image k)) is (clean i h'))))
      (λ (not : i ≢ node). subst IsClear (sym (c.others i not)) (clean i h'))
      (cases_eq i node)

-- a node was split

module _ (v w : View) (level node : ℕ) (link : Link) (changes : List Change) (s : IsSplitAt node link changes v w) (good : Good v.base v.seen) (at : IsAt v.seen level node)
    (free : IsFreeFrom link.node v.seen) (within : link.node < length v.seen.image) (size : length w.seen.image ≡ length v.seen.image) where
  on : (l j : ℕ) → IsAt v.seen l j → IsAt w.seen l j
  on l j h = split_on v w level node link changes s good at free within size l j h

  low_old : (j : ℕ) → j ≢ link.node → low w.seen j ≡ low v.seen j
  low_old j other = ⊎_elim
      (λ (is : j ≡ node). subst (λ (k : ℕ). low w.seen k ≡ low v.seen k) (sym is) s.low.0)
      (λ (not : j ≢ node). ap low_of (s.others j not other))
      (cases_eq j node)

  -- an entry of either half lies above the node to which it leads
  in_halves : (l i : ℕ) → l + 1 ≡ level → Contains (both_entries w.seen node link) (low w.seen i, i) → HasEntryAbove w.seen l i
  in_halves l i up c = ⊎_elim
      (λ (lower : Has (node_of w.seen.image node) (low w.seen i, i)). (node, subst (λ (m : ℕ). IsAt w.seen m node) (sym up) (on level node at), lower))
      (λ (upper : Has (node_of w.seen.image link.node) (low w.seen i, i)). (link.node, subst (λ (m : ℕ). IsAt w.seen m link.node) (sym up) (split_new v w level node link changes s good at free within size), upper))
      (Contains-append_cases (entries_of (node_of w.seen.image node)) (entries_of (node_of w.seen.image link.node)) (low w.seen i, i) c)

  above_split : (l i : ℕ) → i ≢ link.node → HasEntryAbove v.seen l i → HasEntryAbove w.seen l i
  above_split l i other a =
      let entry : Has (node_of v.seen.image a.0) (low w.seen i, i) = subst (λ (k : ℕ). Has (node_of v.seen.image a.0) (k, i)) (sym (low_old i other)) a.2 in ⊎_elim
      (λ (is : a.0 ≡ node). in_halves l i (sym (old_level v w level node link changes s good at free within size (l + 1) a.0 is a.1))
      (All-contains (Contains (both_entries w.seen node link)) (entries_of (node_of v.seen.image node)) (low w.seen i, i) s.kept (subst (λ (k : ℕ). Has (node_of v.seen.image k) (low w.seen i, i)) is entry)))
      (λ (not : a.0 ≢ node). (a.0, on (l + 1) a.0 a.1, subst (λ (ws : List ℕ). Has ws (low w.seen i, i)) (sym (s.others a.0 not (old v w level node link changes s good at free within size (l + 1) a.0 a.1))) entry))
      (cases_eq a.0 node)

  told_of_split : (l i : ℕ) → i ≢ link.node → IsToldOf v.seen l i → IsToldOf w.seen l i
  told_of_split l i other (inl root) = inl (root ∙ sym s.root)
  told_of_split l i other (inr above) = inr (above_split l i other above)

  back : (l i : ℕ) → i ≢ link.node → IsAt w.seen l i → IsAt v.seen l i
  back l i other h = split_back v w level node link changes s good at free within size l i other h

  pub told_first : IsTold v.seen → (l i : ℕ) → IsAt w.seen l i → i ≢ link.node → IsToldOf w.seen l i
  told_first told l i h other = told_of_split l i other (told l i (back l i other h))

  -- one of the halves got the entry of the one of which the level above wasn't told
  pub told_next : (child : Link) (below : ℕ) → level ≡ below + 1 → ((l i : ℕ) → IsAt v.seen l i → i ≢ child.node → IsToldOf v.seen l i) → IsAt v.seen below child.node → low v.seen child.node ≡ child.key
      → Contains (both_entries w.seen node link) (child.key, child.node) → (l i : ℕ) → IsAt w.seen l i → i ≢ link.node → IsToldOf w.seen l i
  told_next child below up told at' lows entry l i h other = ⊎_elim
      (λ (is : i ≡ child.node).
      let here : below ≡ l = one_level v.seen below l child.node at' (subst (IsAt v.seen l) is (back l i other h)) in
      let far : child.node ≢ link.node = λ e. other (is ∙ e) in
      let there = in_halves below child.node (sym up) (subst (λ (k : ℕ). Contains (both_entries w.seen node link) (k, child.node)) (sym (low_old child.node far ∙ lows)) entry) in
      subst (λ (j : ℕ). IsToldOf w.seen l j) (sym is) (inr (subst (λ (m : ℕ). HasEntryAbove w.seen m child.node) here there)))
      (λ (not : i ≢ child.node). told_of_split l i other (told l i (back l i other h) not))
      (cases_eq i child.node)

  pub clean_split : IsClean v.seen → IsClean w.seen
  clean_split clean i h =
      let clear = s.clear (clean node at.0) in ⊎_elim
      (λ (is : i ≡ node). subst (λ (k : ℕ). IsClear (node_of w.seen.image k)) (sym is) clear.0)
      (λ (not : i ≢ node). ⊎_elim
      (λ (is : i ≡ link.node). subst (λ (k : ℕ). IsClear (node_of w.seen.image k)) (sym is) clear.1)
      (λ (other : i ≢ link.node). subst IsClear (sym (s.others i not other)) (clean i (omega (arith, h, size))))
      (cases_eq i link.node))
      (cases_eq i node)

-- a new root was made

module _ (v w : View) (top fresh : ℕ) (link : Link) (g : IsGrown top fresh v w) (good : Good v.base v.seen) (root : IsAt v.seen top v.seen.root) (free : IsFreeFrom fresh v.seen) (within : fresh < length v.seen.image)
    (size : length w.seen.image ≡ length v.seen.image) where
  pub clean_grown : IsClean v.seen → IsClean w.seen
  clean_grown clean i h = ⊎_elim
      (λ (is : i ≡ fresh). subst (λ (k : ℕ). IsClear (node_of w.seen.image k)) (sym is) g.clear)
      (λ (not : i ≢ fresh). subst IsClear (sym (g.others i not)) (clean i (omega (arith, h, size))))
      (cases_eq i fresh)

  module _ (over : entries_of (node_of w.seen.image fresh) ≡ (0, v.seen.root) ∷ (link.key, link.node) ∷ []) (linked : IsAt v.seen top link.node) (lows : low v.seen link.node ≡ link.key) where
    abbrev two : List Entry
    two = (0, v.seen.root) ∷ (link.key, link.node) ∷ []

    not_fresh : (l i : ℕ) → IsAt v.seen l i → i ≢ fresh
    not_fresh l i h e = let x = free.linked l i h in omega (arith, x, e)

    low_there : (i : ℕ) → i ≢ fresh → low w.seen i ≡ low v.seen i
    low_there i not = ap low_of (g.others i not)

    fresh_at : IsAt w.seen (top + 1) fresh
    fresh_at = (subst (λ (z : ℕ). fresh < z) (sym size) within, ap (λ (k : ℕ). slice_index w.seen.levels k) (sym g.root) ∙ (grown_root v w top fresh g good root free within size ∙ sums))
      where
        sums : top + 2 ≡ top + 1 + 1
        sums = omega arith

    stays_on : (l j : ℕ) → IsAt v.seen l j → IsAt w.seen l j
    stays_on l j h = (subst (λ (z : ℕ). j < z) (sym size) h.0, ap (λ (xs : List ℕ). slice_index xs j) g.levels ∙ (get_or-set_other v.seen.levels fresh j (top + 2) 0 (not_fresh l j h) ∙ h.1))

    -- both entries of the new root lead to a node below it
    under : (l i : ℕ) → top ≡ l → i ≢ fresh → Contains {X = Entry} two (low v.seen i, i) → HasEntryAbove w.seen l i
    under l i is not c = (
      fresh,
      subst (λ (m : ℕ). IsAt w.seen (m + 1) fresh) is fresh_at,
      subst (λ (xs : List Entry). Contains xs (low w.seen i, i)) (sym over) (subst (λ (k : ℕ). Contains {X = Entry} two (k, i)) (sym (low_there i not)) c),
    )

    told_of_grown : (l i : ℕ) → IsAt v.seen l i → IsToldOf v.seen l i → IsToldOf w.seen l i
    told_of_grown l i h (inl is) =
        let not = not_fresh l i h in
        let here : Contains {X = Entry} two (low v.seen v.seen.root, v.seen.root) = (0, omega arith, λ j. (sym good.root.2 j, v.seen.root)) in
        inr (under l i (one_level v.seen top l v.seen.root root (subst (IsAt v.seen l) is h)) not (subst (λ (k : ℕ). Contains {X = Entry} two (low v.seen k, k)) (sym is) here))
    told_of_grown l i h (inr a) =
        let not = not_fresh l i h in
        let entry : Has (node_of v.seen.image a.0) (low w.seen i, i) = subst (λ (k : ℕ). Has (node_of v.seen.image a.0) (k, i)) (sym (low_there i not)) a.2 in
        inr (a.0, stays_on (l + 1) a.0 a.1, subst (λ (ws : List ℕ). Has ws (low w.seen i, i)) (sym (g.others a.0 (not_fresh (l + 1) a.0 a.1))) entry)

    pub told_grown : ((l i : ℕ) → IsAt v.seen l i → i ≢ link.node → IsToldOf v.seen l i) → IsTold w.seen
    told_grown told l i h = ⊎_elim
        (λ (is : i ≡ fresh). inl (is ∙ sym g.root))
        (λ (not : i ≢ fresh).
        let h' = grown_back v w top fresh g good root free within size l i not h in ⊎_elim
        (λ (is : i ≡ link.node).
        let here : Contains {X = Entry} two (low v.seen link.node, link.node) = (1, omega arith, λ j. (sym lows j, link.node)) in
        subst (λ (k : ℕ). IsToldOf w.seen l k) (sym is)
        (inr (under l link.node (one_level v.seen top l link.node linked (subst (IsAt v.seen l) is h')) (subst (λ (k : ℕ). k ≢ fresh) is not) here)))
        (λ (other : i ≢ link.node). told_of_grown l i h' (told l i h' other))
        (cases_eq i link.node))
        (cases_eq i fresh)
