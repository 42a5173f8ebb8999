-- A node above all others becomes the root.
use Rattle.std.proofs.Common.{◌≡◌, ◌≢◌, ℕ, ◌+◌, ◌<◌, ◌≤◌, List, length, get_or, set, Some, None, refl, sym, ap, ◌∙◌, subst, arith, ⊎_elim, length-set, get_or-set_same, get_or-set_other}
use Rattle.std.specs.Prelude.{slice_index}
use Rattle.std.proofs.lemmas.Bool.{cases_eq}
use Rattle.olfit_nodes.specs.declared.head.Link.{Link}
use Rattle.olfit_nodes.specs.Nodes.{Entry, entries_of, count_of, level_of, right_of, Rises}
use Rattle.olfit_rule.specs.declared.view.Moment.{Moment}
use Rattle.olfit_rule.specs.Tree.{node_of, low, Good, Lasts, IsAt, IsInner, IsNode}
use Rattle.olfit_rule.specs.Rule.{after_root}
use Rattle.olfit_change.proofs.Kept.{inner_on, node_kept}

module _ (base : List Entry) (t : Moment) (n top : ℕ) (good : Good base t) (within : n < length t.image) (free : (l : ℕ) → IsAt t l n → ⊥) (highest : (l j : ℕ) → IsAt t l j → l ≤ top)
    (height : level_of (node_of t.image n) ≡ top + 1) where
  abbrev u : Moment
  u = after_root n t

  pub levels_rooted : u.levels ≡ set t.levels n (top + 2)
  levels_rooted = λ j. set t.levels n (so j)
    where
      so : level_of (node_of t.image n) + 1 ≡ top + 2
      so = omega (arith, height)

  at_on : (l j : ℕ) → IsAt t l j → IsAt u l j
  at_on l j h = (h.0, ap (λ (xs : List ℕ). slice_index xs j) levels_rooted ∙ (get_or-set_other t.levels n j (top + 2) 0 (λ e. free l (subst (IsAt t l) e h)) ∙ h.1))

  pub at_root : IsAt u (top + 1) n
  at_root = (within, ap (λ (xs : List ℕ). slice_index xs n) levels_rooted ∙ (get_or-set_same t.levels n (top + 2) 0 (subst (λ (z : ℕ). n < z) (sym good.sized) within) ∙ (omega arith)))

  pub at_before : (l j : ℕ) → j ≢ n → IsAt u l j → IsAt t l j
  at_before l j not h = (h.0, sym (ap (λ (xs : List ℕ). slice_index xs j) levels_rooted ∙ get_or-set_other t.levels n j (top + 2) 0 not) ∙ h.1)

  level_new : (l j : ℕ) → j ≡ n → IsAt u l j → top + 1 ≡ l
  level_new l j is h = let a = at_root.1 in let b = h.1 in let c = ap (λ (k : ℕ). slice_index u.levels k) is in omega (arith, a, b, c)

  pub lasts_rooted : Lasts t u
  lasts_rooted = record { at = at_on; low = λ l j h. refl }

  -- no other node is so high
  single : (j q : ℕ) → IsAt u (top + 1) j → j ≡ n
  single j q h = ⊎_elim (λ (is : j ≡ n). is) (λ (not : j ≢ n). let most = highest (top + 1) j (at_before (top + 1) j not h) in absurd (omega arith)) (cases_eq j n)

  module _ (lows : low t n ≡ 0) (rights : right_of (node_of t.image n) ≡ None) (few : count_of (node_of t.image n) ≤ 16) (rises : Rises (entries_of (node_of t.image n)))
      (inner : IsInner t top n (entries_of (node_of t.image n))) where
    none_is : {X : Type 0} → (link : Link) → None ≡ Some link → X
    none_is link is = absurd (lost is)
      where
        lost : None ≡ Some link → ⊥
        lost e = cc

    root_node : IsNode base u (top + 1) n
    root_node = record {
      height = height;
      few = few;
      rises = rises;
      inside = λ k d h. record { above = subst (λ (z : ℕ). z ≤ (get_or (entries_of (node_of t.image n)) k d).0) (sym lows) (omega arith); below = λ link is. none_is link (sym rights ∙ is) };
      right = λ link is. none_is link (sym rights ∙ is);
      leaf = λ z q c. absurd (omega (arith, z));
      inner = λ b is. let e : top ≡ b = omega (arith, is) in subst (λ (m : ℕ). IsInner u m n (entries_of (node_of t.image n))) e (inner_on t u top n n _ lasts_rooted refl inner);
    }

    pub good_rooted : Good base u
    good_rooted = record {
      sized = ap length levels_rooted ∙ (length-set t.levels n (top + 2) ∙ good.sized);
      first = (at_on 0 0 good.first.0, good.first.1);
      root = (top + 1, at_root, lows);
      nodes = λ l j h. ⊎_elim
          (λ (is : j ≡ n). subst (λ (k : ℕ). IsNode base u l k) (sym is) (subst (λ (m : ℕ). IsNode base u m n) (level_new l j is h) root_node))
          (λ (not : j ≢ n). let h' = at_before l j not h in node_kept base t u l j (good.nodes l j h') refl lasts_rooted (λ z q c. refl))
          (cases_eq j n);
      alone = λ l j k q hj hk cj ck. ⊎_elim
          (λ (is : j ≡ n). let e = level_new l j is hj in is ∙ sym (single k q (subst (λ (m : ℕ). IsAt u m k) (sym e) hk)))
          (λ (not : j ≢ n). ⊎_elim
          (λ (is : k ≡ n). let e = level_new l k is hk in single j q (subst (λ (m : ℕ). IsAt u m j) (sym e) hj) ∙ sym is)
          (λ (other : k ≢ n). good.alone l j k q (at_before l j not hj) (at_before l k other hk) (record { above = cj.above; below = cj.below }) (record { above = ck.above; below = ck.below }))
          (cases_eq k n))
          (cases_eq j n);
      legal = good.legal;
    }
