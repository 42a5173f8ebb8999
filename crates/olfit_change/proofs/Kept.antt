-- A node whose words stay counts as before at a later moment.
use Rattle.std.proofs.Common.{◌≡◌, ℕ, ◌<◌, ◌≤◌, List, ◌++◌, [], Option, sym, ap, ◌∙◌, subst, append-nil}
use Rattle.std.specs.Prelude.{IfSome, slice_get}
use Rattle.std.specs.Option.{ForSome}
use Rattle.std.specs.List.{All}
use Rattle.olfit_nodes.specs.declared.head.Link.{Link}
use Rattle.olfit_nodes.specs.Nodes.{Entry, entries_of, count_of, level_of, low_of, right_of, Rises}
use Rattle.olfit_rule.specs.declared.view.Change.{Change}
use Rattle.olfit_rule.specs.declared.view.Moment.{Moment}
use Rattle.olfit_rule.specs.Maps.{map_of, map_after}
use Rattle.olfit_rule.specs.Tree.{node_of, low, Lasts, IsAt, IsInner, IsNode, Covers}

-- the same low key and right neighbour have the same keys
pub covers_by : (t u : Moment) (j q : ℕ) → low u j ≡ low t j → right_of (node_of u.image j) ≡ right_of (node_of t.image j) → Covers t j q → Covers u j q
covers_by t u j q lows rights c = record {
  above = subst (λ (z : ℕ). z ≤ q) (sym lows) c.above;
  below = subst (λ (o : Option Link). ForSome o (λ (link : Link). q < link.key)) (sym rights) c.below;
}

-- an inner node's entries lead where they led
pub inner_on : (t u : Moment) (below i j : ℕ) (xs : List Entry) → Lasts t u → low u j ≡ low t i → IsInner t below i xs → IsInner u below j xs
inner_on t u below i j xs lasts lows n = record {
  first = subst (λ (z : ℕ). IfSome (slice_get xs 0) (λ (e : Entry). e.0 ≡ z)) (sym lows) n.first;
  some = n.some;
  children = λ k d h. let c = n.children k d h in (lasts.at below _ c.0, lasts.low below _ c.0 ∙ c.1);
}

abbrev pub RightOf : Moment → ℕ → ℕ → Link → Type 0
RightOf t level i link = IsAt t level link.node × (low t link.node ≡ link.key) × (low t i < link.key)

pub right_on : (t u : Moment) (level i j : ℕ) (o : Option Link) → Lasts t u → low u j ≡ low t i → ForSome o (RightOf t level i) → ForSome o (RightOf u level j)
right_on t u level i j o lasts lows r link is =
    let n = r link is in (lasts.at level _ n.0, lasts.low level _ n.0 ∙ n.1, subst (λ (z : ℕ). z < link.key) (sym lows) n.2)

pub node_kept : (base : List Entry) (t u : Moment) (level j : ℕ) → IsNode base t level j → node_of u.image j ≡ node_of t.image j → Lasts t u
    → (level ≡ 0 → (q : ℕ) → Covers t j q → map_after (map_of base) t.log q ≡ map_after (map_of base) u.log q) → IsNode base u level j
node_kept base t u level j n e lasts says =
    let lows : low u j ≡ low t j = ap low_of e in
    let rights : right_of (node_of u.image j) ≡ right_of (node_of t.image j) = ap right_of e in
    let same : entries_of (node_of t.image j) ≡ entries_of (node_of u.image j) = ap entries_of (sym e) in record {
      height = ap level_of e ∙ n.height;
      few = subst (λ (ws : List ℕ). count_of ws ≤ 16) (sym e) n.few;
      rises = subst Rises same n.rises;
      inside = subst (All (λ (x : Entry). Covers u j x.0)) same (λ k d h. covers_by t u j _ lows rights (n.inside k d h));
      right = subst (λ (o : Option Link). ForSome o (RightOf u level j)) (sym rights) (right_on t u level j j _ lasts lows n.right);
      leaf = λ z q c. ap (λ (xs : List Entry). map_of xs q) (sym same) ∙ (let c' = covers_by u t j q (sym lows) (sym rights) c in n.leaf z q c' ∙ says z q c');
      inner = λ b is. subst (IsInner u b j) same (inner_on t u b j j _ lasts lows (n.inner b is));
    }

pub says_same : (base : List Entry) (log : List Change) (q : ℕ) → map_after (map_of base) log q ≡ map_after (map_of base) (log ++ []) q
says_same base log q = ap (λ (l : List Change). map_after (map_of base) l q) (sym (append-nil log))
