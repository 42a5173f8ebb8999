-- A new root is made over the old one.
use Rattle.std.proofs.Common.{◌≡◌, ℕ, zero, suc, append-nil, ◌+◌, ◌<◌, ◌≤◌, List, ◌∷◌, [], length, set, Some, None, refl, sym, ap, ◌∙◌, subst, arith}
use Rattle.std.specs.Option.{ForSome}
use Rattle.std.proofs.lemmas.List.Elements.{All-cons}
use Rattle.olfit_nodes.specs.declared.head.Link.{Link}
use Rattle.olfit_nodes.specs.Nodes.{Entry, entries_of, count_of, level_of, low_of, right_of, IsClear, Rises}
use Rattle.olfit_nodes.proofs.Places.{length-entries}
use Rattle.olfit_rule.specs.declared.view.Moment.{Moment}
use Rattle.olfit_rule.specs.declared.view.View.{View}
use Rattle.olfit_rule.specs.Tree.{node_of, low, Good, Lasts, IsAt, IsInner}
use Rattle.olfit_rule.specs.Rule.{rewritten, after_root, after_rewrite}
use Rattle.olfit_change.specs.States.{IsFreeFrom, IsGrown}
use Rattle.olfit_change.proofs.Weights.{weights_light}
use Rattle.olfit_change.proofs.Rewrites.{clear_here, node_there, low_here, right_here, entries_here, level_here, version_here, size}
use Rattle.olfit_change.proofs.Fills.{good_filled, lasts_filled, levels_filled, at_before}
use Rattle.olfit_change.proofs.Roots.{good_rooted, lasts_rooted, levels_rooted}

none_some : (l : Link) → None ≡ Some l → ⊥
none_some l is = cc

module _ (v : View) (top fresh : ℕ) (link : Link) (ws : List ℕ) (good : Good v.base v.seen) (free : IsFreeFrom fresh v.seen) (within : fresh < length v.seen.image) (root : IsAt v.seen top v.seen.root)
    (linked : IsAt v.seen top link.node) (link_low : low v.seen link.node ≡ link.key) (link_above : 0 < link.key)
    (lows : low_of ws ≡ 0) (rights : right_of ws ≡ None) (levels : level_of ws ≡ top + 1) (entries : entries_of ws ≡ (0, v.seen.root) ∷ (link.key, link.node) ∷ []) where
  unlinked : (l : ℕ) → IsAt v.seen l fresh → ⊥
  unlinked l h = let x = free.linked l fresh h in omega (arith, x)

  no_right : ForSome (right_of ws) (λ (l : Link). IsAt v.seen (level_of ws) l.node)
  no_right l is = absurd (none_some l (sym rights ∙ is))

  abbrev u : Moment
  u = rewritten fresh ws [] v.seen

  pub good_grown : Good v.base u
  good_grown = good_filled v.base v.seen fresh ws good within unlinked no_right

  pub lasts_grown : Lasts v.seen u
  lasts_grown = lasts_filled v.base v.seen fresh ws good within unlinked no_right

  back : (l j : ℕ) → IsAt u l j → IsAt v.seen l j
  back l j h = at_before v.base v.seen fresh ws good within unlinked no_right l j h

  within1 : fresh < length u.image
  within1 = subst (λ (z : ℕ). fresh < z) (sym (size v.seen fresh ws [] within)) within

  unlinked1 : (l : ℕ) → IsAt u l fresh → ⊥
  unlinked1 l h = unlinked l (back l fresh h)

  highest : (l j : ℕ) → IsAt u l j → l ≤ top
  highest l j h = let a = free.top l j (back l j h) in let b = root.1 in omega (arith, a, b)

  height1 : level_of (node_of u.image fresh) ≡ top + 1
  height1 = level_here v.seen fresh ws [] within ∙ levels

  low1 : low u fresh ≡ 0
  low1 = low_here v.seen fresh ws [] within ∙ lows

  abbrev two : List Entry
  two = (0, v.seen.root) ∷ (link.key, link.node) ∷ []

  entries1 : entries_of (node_of u.image fresh) ≡ two
  entries1 = entries_here v.seen fresh ws [] within ∙ entries

  few1 : count_of (node_of u.image fresh) ≤ 16
  few1 = let a = length-entries (node_of u.image fresh) in let b : length (entries_of (node_of u.image fresh)) ≡ 2 = ap length entries1 in omega (arith, a, b)

  two_rise : Rises two
  two_rise zero zero d lt inside = absurd (omega arith)
  two_rise zero (suc zero) d lt inside = link_above
  two_rise zero (suc (suc j)) d lt inside = absurd (omega arith)
  two_rise (suc i) zero d lt inside = absurd (omega arith)
  two_rise (suc i) (suc zero) d lt inside = absurd (omega arith)
  two_rise (suc i) (suc (suc j)) d lt inside = absurd (omega arith)

  rises1 : Rises (entries_of (node_of u.image fresh))
  rises1 = subst Rises (sym entries1) two_rise

  inner1 : IsInner u top fresh (entries_of (node_of u.image fresh))
  inner1 = subst (IsInner u top fresh) (sym entries1) record {
    first = sym low1;
    some = omega arith;
    children = All-cons Child (0, v.seen.root) ((link.key, link.node) ∷ []) (lasts_grown.at top v.seen.root root, lasts_grown.low top v.seen.root root ∙ root_low)
        (All-cons Child (link.key, link.node) [] (lasts_grown.at top link.node linked, lasts_grown.low top link.node linked ∙ link_low) (λ k d h. absurd (omega arith)));
  }
    where
      Child : Entry → Type 0
      Child e = IsAt u top e.1 × (low u e.1 ≡ e.0)

      root_low : low v.seen v.seen.root ≡ 0
      root_low = good.root.2

  pub good_topped : Good v.base (after_root fresh u)
  good_topped = good_rooted v.base u fresh top good_grown within1 unlinked1 highest height1 low1 (right_here v.seen fresh ws [] within ∙ rights) few1 rises1 inner1

  pub lasts_topped : Lasts u (after_root fresh u)
  lasts_topped = lasts_rooted v.base u fresh top good_grown within1 unlinked1 highest height1

  pub grown_done : (w : View) → w ≡ record (after_rewrite fresh ws [] v) { seen = after_root fresh u } → 0 < length ws → IsClear ws → IsGrown top fresh v w
  grown_done w view long clear = subst (IsGrown top fresh v) (sym view) record {
    base = refl;
    log = append-nil v.seen.log;
    levels = levels_rooted v.base u fresh top good_grown within1 unlinked1 highest height1 ∙ ap (λ (xs : List ℕ). set xs fresh (top + 2)) (levels_filled v.base v.seen fresh ws good within unlinked no_right);
    root = refl;
    right = right_here v.seen fresh ws [] within ∙ rights;
    clear = clear_here v.seen fresh ws [] within clear;
    others = λ i not. node_there v.seen fresh ws [] within i not;
    lighter = let a = weights_light v.seen fresh ws [] within (let n = length-entries ws in let two' : length (entries_of ws) ≡ 2 = ap length entries in omega (arith, n, two')) in omega (arith, a);
    version = version_here v.seen fresh ws [] within long;
  }

  pub over_both : (w : View) → w ≡ record (after_rewrite fresh ws [] v) { seen = after_root fresh u } → entries_of (node_of w.seen.image fresh) ≡ two
  over_both w view = ap (λ (x : View). entries_of (node_of x.seen.image fresh)) view ∙ entries1
