-- A node is cut, and leads to a new one that has its upper entries.
use Rattle.std.proofs.Common.{◌≡◌, ◌≢◌, ◌⊎◌, ℕ, ◌+◌, ◌<◌, ◌≤◌, List, ◌++◌, length, set, Option, Some, None, refl, sym, ap, ◌∙◌, subst, arith, inl, inr, ⊎_elim, length-set, get_or-set_same, get_or-set_other}
use Rattle.std.specs.Prelude.{slice_index}
use Rattle.std.specs.Option.{ForSome}
use Rattle.std.specs.List.{All}
use Rattle.std.proofs.lemmas.Bool.{cases_eq}
use Rattle.olfit_nodes.specs.declared.head.Link.{Link}
use Rattle.olfit_nodes.specs.Nodes.{Entry, entries_of, count_of, level_of, low_of, right_of, Rises}
use Rattle.olfit_rule.specs.declared.view.Change.{Change}
use Rattle.olfit_rule.specs.declared.view.Moment.{Moment}
use Rattle.olfit_rule.specs.Maps.{map_of, map_after, IsLegal}
use Rattle.olfit_rule.specs.Tree.{node_of, low, version, Good, Lasts, IsAt, IsInner, IsNode, Covers, linked_to}
use Rattle.olfit_rule.specs.Rule.{rewritten}
use Rattle.olfit_change.proofs.Words.{right_renewed, level_renewed}
use Rattle.olfit_change.proofs.Kept.{covers_by, inner_on, node_kept, RightOf}
use Rattle.olfit_change.proofs.Rewrites.{node_there, size, low_here, right_here, entries_here, count_here, level_here}

module _ (base : List Entry) (t : Moment) (level i : ℕ) (link : Link) (ws : List ℕ) (changes : List Change) (good : Good base t) (at : IsAt t level i)
    (within : link.node < length t.image) (free : (l : ℕ) → IsAt t l link.node → ⊥) (new_low : low t link.node ≡ link.key)
    (new_right : right_of (node_of t.image link.node) ≡ right_of (node_of t.image i)) (height : level_of ws ≡ level) (lows : low_of ws ≡ low t i) (rights : right_of ws ≡ Some link)
    (above : low t i < link.key) (covers : Covers t i link.key) where
  abbrev u : Moment
  u = rewritten i ws changes t

  pub levels_cut : u.levels ≡ set t.levels link.node (level + 1)
  levels_cut = λ j. linked_to t.levels ((level_renewed ws (version t.image i + 2) ∙ height) j) ((right_renewed ws (version t.image i + 2) ∙ rights) j)

  old : (l j : ℕ) → IsAt t l j → j ≢ link.node
  old l j h e = free l (subst (IsAt t l) e h)

  at_on : (l j : ℕ) → IsAt t l j → IsAt u l j
  at_on l j h = (
    subst (λ (z : ℕ). j < z) (sym (size t i ws changes at.0)) h.0,
    ap (λ (xs : List ℕ). slice_index xs j) levels_cut ∙ (get_or-set_other t.levels link.node j (level + 1) 0 (old l j h) ∙ h.1),
  )

  pub at_new : IsAt u level link.node
  at_new = (
    subst (λ (z : ℕ). link.node < z) (sym (size t i ws changes at.0)) within,
    ap (λ (xs : List ℕ). slice_index xs link.node) levels_cut ∙ get_or-set_same t.levels link.node (level + 1) 0 (subst (λ (z : ℕ). link.node < z) (sym good.sized) within),
  )

  pub at_back : (l j : ℕ) → j ≢ link.node → IsAt u l j → IsAt t l j
  at_back l j not h = (
    subst (λ (z : ℕ). j < z) (size t i ws changes at.0) h.0,
    sym (ap (λ (xs : List ℕ). slice_index xs j) levels_cut ∙ get_or-set_other t.levels link.node j (level + 1) 0 not) ∙ h.1,
  )

  apart : link.node ≢ i
  apart e = old level i at (sym e)

  level_new : (l j : ℕ) → j ≡ link.node → IsAt u l j → level ≡ l
  level_new l j is h = let a = at_new.1 in let b = h.1 in let c = ap (λ (k : ℕ). slice_index u.levels k) is in omega (arith, a, b, c)

  level_old : (l j : ℕ) → j ≡ i → IsAt t l j → level ≡ l
  level_old l j is h = let a = at.1 in let b = h.1 in let c = ap (λ (k : ℕ). slice_index t.levels k) is in omega (arith, a, b, c)

  low_i : low u i ≡ low t i
  low_i = low_here t i ws changes at.0 ∙ lows

  right_i : right_of (node_of u.image i) ≡ Some link
  right_i = right_here t i ws changes at.0 ∙ rights

  words_else : (j : ℕ) → j ≢ i → node_of u.image j ≡ node_of t.image j
  words_else j not = node_there t i ws changes at.0 j not

  low_n : low u link.node ≡ link.key
  low_n = ap low_of (words_else link.node apart) ∙ new_low

  right_n : right_of (node_of u.image link.node) ≡ right_of (node_of t.image i)
  right_n = ap right_of (words_else link.node apart) ∙ new_right

  pub lasts_cut : Lasts t u
  lasts_cut = record {
    at = at_on;
    low = λ l j h. ⊎_elim (λ (is : j ≡ i). subst (λ (k : ℕ). low u k ≡ low t k) (sym is) low_i) (λ (not : j ≢ i). ap low_of (words_else j not)) (cases_eq j i);
  }

  -- the keys of the lower node and those of the upper one

  below_key : (q : ℕ) → Covers u i q → q < link.key
  below_key q c = subst (λ (o : Option Link). ForSome o (λ (m : Link). q < m.key)) right_i c.below link refl

  lower_keys : (q : ℕ) → Covers u i q → Covers t i q
  lower_keys q c = record {
    above = subst (λ (z : ℕ). z ≤ q) low_i c.above;
    below = λ m is. let far = covers.below m is in let near = below_key q c in omega (arith, far, near);
  }

  above_key : (q : ℕ) → Covers u link.node q → link.key ≤ q
  above_key q c = subst (λ (z : ℕ). z ≤ q) low_n c.above

  upper_keys : (q : ℕ) → Covers u link.node q → Covers t i q
  upper_keys q c = record {
    above = let a = above_key q c in omega (arith, a, above);
    below = subst (λ (o : Option Link). ForSome o (λ (m : Link). q < m.key)) right_n c.below;
  }

  covers_lower : (q : ℕ) → Covers t i q → q < link.key → Covers u i q
  covers_lower q c less = record {
    above = subst (λ (z : ℕ). z ≤ q) (sym low_i) c.above;
    below = subst (λ (o : Option Link). ForSome o (λ (m : Link). q < m.key)) (sym right_i) (λ m is. subst (λ (z : ℕ). q < z) (ap key_in is) less);
  }
    where
      key_in : Option Link → ℕ
      key_in None = 0
      key_in (Some m) = m.key

  covers_upper : (q : ℕ) → Covers t i q → link.key ≤ q → Covers u link.node q
  covers_upper q c more = record {
    above = subst (λ (z : ℕ). z ≤ q) (sym low_n) more;
    below = subst (λ (o : Option Link). ForSome o (λ (m : Link). q < m.key)) (sym right_n) c.below;
  }

  -- the node before the cut to which a key belonged, and how the one after it is made of it
  abbrev Part : ℕ → ℕ → ℕ → Type 0
  Part j o q = ((j ≡ o) × (j ≢ i) × (j ≢ link.node)) ⊎ ((o ≡ i) × (((j ≡ i) × (q < link.key)) ⊎ ((j ≡ link.node) × (link.key ≤ q))))

  record Came (l j q : ℕ) : Type 0 where
    from : ℕ
    there : IsAt t l from
    keys : Covers t from q
    part : Part j from q

  came : (l j q : ℕ) → IsAt u l j → Covers u j q → Came l j q
  came l j q h c = ⊎_elim
      (λ (is : j ≡ i).
      let c' : Covers u i q = subst (λ (k : ℕ). Covers u k q) is c in
      let h' : IsAt t l j = at_back l j (λ e. apart (sym e ∙ is)) h in
      record { from = i; there = subst (IsAt t l) is h'; keys = lower_keys q c'; part = inr (refl, inl (is, below_key q c')) })
      (λ (not : j ≢ i). ⊎_elim
      (λ (is : j ≡ link.node).
      let c' : Covers u link.node q = subst (λ (k : ℕ). Covers u k q) is c in
      record { from = i; there = subst (λ (m : ℕ). IsAt t m i) (level_new l j is h) at; keys = upper_keys q c'; part = inr (refl, inr (is, above_key q c')) })
      (λ (other : j ≢ link.node).
      record { from = j; there = at_back l j other h; keys = covers_by u t j q (ap low_of (sym (words_else j not))) (ap right_of (sym (words_else j not))) c; part = inl (refl, not, other) })
      (cases_eq j link.node))
      (cases_eq j i)

  same_part : (j k o p q : ℕ) → o ≡ p → Part j o q → Part k p q → j ≡ k
  same_part j k o p q e (inl a) (inl b) = a.0 ∙ (e ∙ sym b.0)
  same_part j k o p q e (inl a) (inr b) = absurd (a.1 (a.0 ∙ (e ∙ b.0)))
  same_part j k o p q e (inr a) (inl b) = absurd (b.1 (b.0 ∙ (sym e ∙ a.0)))
  same_part j k o p q e (inr a) (inr b) = halves a.1 b.1
    where
      halves : (((j ≡ i) × (q < link.key)) ⊎ ((j ≡ link.node) × (link.key ≤ q))) → (((k ≡ i) × (q < link.key)) ⊎ ((k ≡ link.node) × (link.key ≤ q))) → j ≡ k
      halves (inl x) (inl y) = x.0 ∙ sym y.0
      halves (inl x) (inr y) = let less = x.1 in let more = y.1 in absurd (omega arith)
      halves (inr x) (inl y) = let more = x.1 in let less = y.1 in absurd (omega arith)
      halves (inr x) (inr y) = x.0 ∙ sym y.0

  abbrev Log : List Change
  Log = t.log ++ changes

  module _ (few : count_of ws ≤ 16) (rises : Rises (entries_of ws)) (inside : All (λ (e : Entry). Covers t i e.0 × (e.0 < link.key)) (entries_of ws))
      (here : level ≡ 0 → (q : ℕ) → Covers t i q → q < link.key → map_of (entries_of ws) q ≡ map_after (map_of base) Log q)
      (inner : (below : ℕ) → level ≡ below + 1 → IsInner t below i (entries_of ws))
      (few' : count_of (node_of t.image link.node) ≤ 16) (height' : level_of (node_of t.image link.node) ≡ level) (rises' : Rises (entries_of (node_of t.image link.node)))
      (inside' : All (λ (e : Entry). Covers t i e.0 × (link.key ≤ e.0)) (entries_of (node_of t.image link.node)))
      (here' : level ≡ 0 → (q : ℕ) → Covers t i q → link.key ≤ q → map_of (entries_of (node_of t.image link.node)) q ≡ map_after (map_of base) Log q)
      (inner' : (below : ℕ) → level ≡ below + 1 → IsInner t below link.node (entries_of (node_of t.image link.node)))
      (there : (j q : ℕ) → j ≢ i → IsAt t 0 j → Covers t j q → map_after (map_of base) t.log q ≡ map_after (map_of base) Log q) (legal : IsLegal (map_of base) Log) where
    lower_node : IsNode base u level i
    lower_node =
        let same : entries_of ws ≡ entries_of (node_of u.image i) = sym (entries_here t i ws changes at.0) in record {
          height = level_here t i ws changes at.0 ∙ height;
          few = subst (λ (z : ℕ). z ≤ 16) (sym (count_here t i ws changes at.0)) few;
          rises = subst Rises same rises;
          inside = subst (All (λ (x : Entry). Covers u i x.0)) same (λ k d h. let c = inside k d h in covers_lower _ c.0 c.1);
          right = subst (λ (o : Option Link). ForSome o (RightOf u level i)) (sym right_i) (λ m is. subst (RightOf u level i) (some_same is) (at_new, low_n, subst (λ (z : ℕ). z < link.key) (sym low_i) above));
          leaf = λ z q c. ap (λ (xs : List Entry). map_of xs q) (sym same) ∙ here z q (lower_keys q c) (below_key q c);
          inner = λ b is. subst (IsInner u b i) same (inner_on t u b i i _ lasts_cut low_i (inner b is));
        }
      where
        some_same : {a b : Link} → Some a ≡ Some b → a ≡ b
        some_same is = ap from_some is
          where
            from_some : Option Link → Link
            from_some None = link
            from_some (Some m) = m

    upper_node : IsNode base u level link.node
    upper_node =
        let e : node_of u.image link.node ≡ node_of t.image link.node = words_else link.node apart in
        let same : entries_of (node_of t.image link.node) ≡ entries_of (node_of u.image link.node) = ap entries_of (sym e) in
        let n = good.nodes level i at in record {
          height = ap level_of e ∙ height';
          few = subst (λ (w : List ℕ). count_of w ≤ 16) (sym e) few';
          rises = subst Rises same rises';
          inside = subst (All (λ (x : Entry). Covers u link.node x.0)) same (λ k d h. let c = inside' k d h in covers_upper _ c.0 c.1);
          right = subst (λ (o : Option Link). ForSome o (RightOf u level link.node)) (sym right_n)
              (λ m is. let r = n.right m is in (at_on level _ r.0, lasts_cut.low level _ r.0 ∙ r.1, subst (λ (z : ℕ). z < m.key) (sym low_n) (covers.below m is)));
          leaf = λ z q c. ap (λ (xs : List Entry). map_of xs q) (sym same) ∙ here' z q (upper_keys q c) (above_key q c);
          inner = λ b is. subst (IsInner u b link.node) same (inner_on t u b link.node link.node _ lasts_cut (low_n ∙ sym new_low) (inner' b is));
        }

    pub good_cut : Good base u
    good_cut = record {
      sized = ap length levels_cut ∙ (length-set t.levels link.node (level + 1) ∙ (good.sized ∙ sym (size t i ws changes at.0)));
      first = (at_on 0 0 good.first.0, lasts_cut.low 0 0 good.first.0 ∙ good.first.1);
      root = (good.root.0, at_on _ _ good.root.1, lasts_cut.low _ _ good.root.1 ∙ good.root.2);
      nodes = λ l j h. ⊎_elim
          (λ (is : j ≡ link.node). subst (λ (k : ℕ). IsNode base u l k) (sym is) (subst (λ (m : ℕ). IsNode base u m link.node) (level_new l j is h) upper_node))
          (λ (other : j ≢ link.node). let h' = at_back l j other h in ⊎_elim
          (λ (is : j ≡ i). subst (λ (k : ℕ). IsNode base u l k) (sym is) (subst (λ (m : ℕ). IsNode base u m i) (level_old l j is h') lower_node))
          (λ (not : j ≢ i). node_kept base t u l j (good.nodes l j h') (words_else j not) lasts_cut (λ z q c. there j q not (subst (λ (m : ℕ). IsAt t m j) z h') c))
          (cases_eq j i))
          (cases_eq j link.node);
      alone = λ l j k q hj hk cj ck. let a = came l j q hj cj in let b = came l k q hk ck in
          same_part j k a.from b.from q (good.alone l a.from b.from q a.there b.there a.keys b.keys) a.part b.part;
      legal = legal;
    }
