-- One node's words are replaced.
use Rattle.std.proofs.Common.{◌≡◌, ◌≢◌, ℕ, ◌+◌, ◌<◌, ◌≤◌, List, ◌++◌, [], length, set, Option, Some, None, refl, sym, ap, ◌∙◌, subst, arith, ⊎_elim, length-set, get_or-set_same}
use Rattle.std.specs.Prelude.{slice_index}
use Rattle.std.specs.Option.{ForSome}
use Rattle.std.specs.List.{All}
use Rattle.std.proofs.lemmas.Bool.{cases_eq}
use Rattle.std.proofs.lemmas.List.{set-get_or}
use Rattle.olfit_nodes.specs.declared.head.Link.{Link}
use Rattle.olfit_nodes.specs.Nodes.{Entry, entries_of, count_of, level_of, low_of, right_of, IsClear, Rises}
use Rattle.olfit_rule.specs.declared.view.Change.{Change}
use Rattle.olfit_rule.specs.declared.view.Moment.{Moment}
use Rattle.olfit_rule.specs.Maps.{map_of, map_after, IsLegal}
use Rattle.olfit_rule.specs.Tree.{node_of, low, version, Good, Lasts, IsAt, IsInner, IsNode, Covers, linked_to}
use Rattle.olfit_rule.specs.Rule.{renewed, rewritten}
use Rattle.olfit_rule.proofs.Keeps.{node_else}
use Rattle.olfit_change.proofs.Words.{clear_renewed, low_renewed, right_renewed, entries_renewed, count_renewed, level_renewed}
use Rattle.olfit_change.proofs.Kept.{covers_by, inner_on, right_on, node_kept, RightOf}

-- what the node is afterwards

module _ (t : Moment) (i : ℕ) (ws : List ℕ) (changes : List Change) (within : i < length t.image) where
  abbrev u : Moment
  u = rewritten i ws changes t

  pub node_here : node_of u.image i ≡ renewed t.image i ws
  node_here = get_or-set_same t.image i (renewed t.image i ws) [] within

  pub node_there : (j : ℕ) → j ≢ i → node_of u.image j ≡ node_of t.image j
  node_there j not = node_else t.image i (renewed t.image i ws) j not

  pub low_here : low u i ≡ low_of ws
  low_here = ap low_of node_here ∙ low_renewed ws _

  pub right_here : right_of (node_of u.image i) ≡ right_of ws
  right_here = ap right_of node_here ∙ right_renewed ws _

  pub entries_here : entries_of (node_of u.image i) ≡ entries_of ws
  entries_here = ap entries_of node_here ∙ entries_renewed ws _

  pub count_here : count_of (node_of u.image i) ≡ count_of ws
  count_here = ap count_of node_here ∙ count_renewed ws _

  pub level_here : level_of (node_of u.image i) ≡ level_of ws
  level_here = ap level_of node_here ∙ level_renewed ws _

  pub clear_here : IsClear ws → IsClear (node_of u.image i)
  clear_here clear = subst IsClear (sym node_here) (clear_renewed ws _ clear)

  pub version_here : 0 < length ws → version u.image i ≡ version t.image i + 2
  version_here some = ap (λ (w : List ℕ). slice_index w 0) node_here ∙ get_or-set_same ws 0 (version t.image i + 2) 0 some

  pub size : length u.image ≡ length t.image
  size = length-set t.image i (renewed t.image i ws)

-- a link that leads to a node of this level already
pub linked_still : (t : Moment) (level : ℕ) (o : Option Link) → ForSome o (λ (link : Link). IsAt t level link.node) → linked_to t.levels level o ≡ t.levels
linked_still t level None at = refl
linked_still t level (Some link) at = ap (set t.levels link.node) (sym (at link refl).1) ∙ set-get_or t.levels link.node 0

-- the right neighbour stays

module _ (base : List Entry) (t : Moment) (level i : ℕ) (ws : List ℕ) (changes : List Change) (good : Good base t) (at : IsAt t level i)
    (height : level_of ws ≡ level) (lows : low_of ws ≡ low t i) (rights : right_of ws ≡ right_of (node_of t.image i)) where
  abbrev v : Moment
  v = rewritten i ws changes t

  pub levels_same : v.levels ≡ t.levels
  levels_same = (λ j. linked_to t.levels ((level_renewed ws (version t.image i + 2) ∙ height) j) ((right_renewed ws (version t.image i + 2) ∙ rights) j))
      ∙ linked_still t level (right_of (node_of t.image i)) (λ link is. ((good.nodes level i at).right link is).0)

  at_on : (l j : ℕ) → IsAt t l j → IsAt v l j
  at_on l j h = (subst (λ (z : ℕ). j < z) (sym (size t i ws changes at.0)) h.0, ap (λ (xs : List ℕ). slice_index xs j) levels_same ∙ h.1)

  at_back : (l j : ℕ) → IsAt v l j → IsAt t l j
  at_back l j h = (subst (λ (z : ℕ). j < z) (size t i ws changes at.0) h.0, sym (ap (λ (xs : List ℕ). slice_index xs j) levels_same) ∙ h.1)

  low_same : (j : ℕ) → low v j ≡ low t j
  low_same j = ⊎_elim
      (λ (is : j ≡ i). subst (λ (k : ℕ). low v k ≡ low t k) (sym is) (low_here t i ws changes at.0 ∙ lows))
      (λ (not : j ≢ i). ap low_of (node_there t i ws changes at.0 j not))
      (cases_eq j i)

  right_same : (j : ℕ) → right_of (node_of v.image j) ≡ right_of (node_of t.image j)
  right_same j = ⊎_elim
      (λ (is : j ≡ i). subst (λ (k : ℕ). right_of (node_of v.image k) ≡ right_of (node_of t.image k)) (sym is) (right_here t i ws changes at.0 ∙ rights))
      (λ (not : j ≢ i). ap right_of (node_there t i ws changes at.0 j not))
      (cases_eq j i)

  covers_back : (j q : ℕ) → Covers v j q → Covers t j q
  covers_back j q c = covers_by v t j q (sym (low_same j)) (sym (right_same j)) c

  covers_on : (j q : ℕ) → Covers t j q → Covers v j q
  covers_on j q c = covers_by t v j q (low_same j) (right_same j) c

  pub lasts_replaced : Lasts t v
  lasts_replaced = record { at = at_on; low = λ l j h. low_same j }

  abbrev Log : List Change
  Log = t.log ++ changes

  module _ (few : count_of ws ≤ 16) (rises : Rises (entries_of ws)) (inside : All (λ (e : Entry). Covers t i e.0) (entries_of ws))
      (here : level ≡ 0 → (q : ℕ) → Covers t i q → map_of (entries_of ws) q ≡ map_after (map_of base) Log q)
      (there : (j q : ℕ) → j ≢ i → IsAt t 0 j → Covers t j q → map_after (map_of base) t.log q ≡ map_after (map_of base) Log q)
      (inner : (below : ℕ) → level ≡ below + 1 → IsInner t below i (entries_of ws)) (legal : IsLegal (map_of base) Log) where
    changed_node : IsNode base v level i
    changed_node =
        let same : entries_of ws ≡ entries_of (node_of v.image i) = sym (entries_here t i ws changes at.0) in
        let n = good.nodes level i at in record {
          height = level_here t i ws changes at.0 ∙ height;
          few = subst (λ (z : ℕ). z ≤ 16) (sym (count_here t i ws changes at.0)) few;
          rises = subst Rises same rises;
          inside = subst (All (λ (x : Entry). Covers v i x.0)) same (λ k d h. covers_on i _ (inside k d h));
          right = subst (λ (o : Option Link). ForSome o (RightOf v level i)) (sym (right_same i)) (right_on t v level i i _ lasts_replaced (low_same i) n.right);
          leaf = λ z q c. ap (λ (xs : List Entry). map_of xs q) (sym same) ∙ here z q (covers_back i q c);
          inner = λ b is. subst (IsInner v b i) same (inner_on t v b i i _ lasts_replaced (low_same i) (inner b is));
        }

    pub good_replaced : Good base v
    good_replaced = record {
      sized = ap length levels_same ∙ (good.sized ∙ sym (size t i ws changes at.0));
      first = (at_on 0 0 good.first.0, low_same 0 ∙ good.first.1);
      root = (good.root.0, at_on good.root.0 t.root good.root.1, low_same t.root ∙ good.root.2);
      nodes = λ l j h. ⊎_elim
          (λ (is : j ≡ i). let h' = at_back l j h in
          let e : level ≡ l = (let a = at.1 in let b = h'.1 in let c = ap (λ (k : ℕ). slice_index t.levels k) is in omega (arith, a, b, c)) in
          subst (λ (k : ℕ). IsNode base v l k) (sym is) (subst (λ (m : ℕ). IsNode base v m i) e changed_node))
          (λ (not : j ≢ i). let h' = at_back l j h in
          node_kept base t v l j (good.nodes l j h') (node_there t i ws changes at.0 j not) lasts_replaced
          (λ z q c. there j q not (subst (λ (m : ℕ). IsAt t m j) z h') c))
          (cases_eq j i);
      alone = λ l j k q hj hk cj ck. good.alone l j k q (at_back l j hj) (at_back l k hk) (covers_back j q cj) (covers_back k q ck);
      legal = legal;
    }
