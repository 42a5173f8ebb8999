-- The entries of the leaves along the chain.
use Rattle.std.proofs.Common.{◌≡◌, ℕ, zero, suc, ◌<◌, ◌≤◌, Bool, cond, eqb, List, [], ◌∷◌, ◌++◌, Option, Some, None, sym, refl, ap, ◌∙◌, subst, arith, ⊎_elim}
use Rattle.std.specs.Option.{ForSome}
use Rattle.std.specs.List.{All}
use Rattle.std.proofs.lemmas.Bool.{cases_lt, ne_eqb}
use Rattle.std.proofs.lemmas.List.Elements.{All-append}
use Rattle.olfit_nodes.specs.declared.head.Link.{Link}
use Rattle.olfit_nodes.specs.Nodes.{Entry, entries_of, right_of, Rises}
use Rattle.olfit_rule.specs.declared.view.View.{View}
use Rattle.olfit_rule.specs.Maps.{map_of, map_after}
use Rattle.olfit_rule.specs.Tree.{node_of, low, Good, IsAt, Covers}
use Rattle.olfit_change.proofs.Entries.{absent_below}

-- keys below a number stand in the first of two lists, and the others in the second

map_left : (xs ys : List Entry) (m q : ℕ) → All (λ (e : Entry). m ≤ e.0) ys → q < m → map_of (xs ++ ys) q ≡ map_of xs q
map_left [] ys m q above less = absent_below ys q (λ i d h e. let a = above i d h in omega (arith, a, e, less))
map_left (x ∷ xs) ys m q above less = ap (λ (o : Option ℕ). cond (eqb x.0 q) (Some x.1) o) (map_left xs ys m q above less)

map_right : (xs ys : List Entry) (m q : ℕ) → All (λ (e : Entry). e.0 < m) xs → m ≤ q → map_of (xs ++ ys) q ≡ map_of ys q
map_right [] ys m q below most = refl
map_right (x ∷ xs) ys m q below most =
    let b = below 0 (0, 0) (omega arith) in
    ap (λ (t : Bool). cond t (Some x.1) (map_of (xs ++ ys) q)) (ne_eqb x.0 q (λ e. omega (arith, e, b, most))) ∙ map_right xs ys m q (λ i d h. below (suc i) d (omega arith)) most

rises_cons : (x : Entry) (xs : List Entry) → All (λ (e : Entry). x.0 < e.0) xs → Rises xs → Rises (x ∷ xs)
rises_cons x xs a r zero zero d lt inside = absurd (omega arith)
rises_cons x xs a r zero (suc j) d lt inside = a j d (omega arith)
rises_cons x xs a r (suc i) zero d lt inside = absurd (omega arith)
rises_cons x xs a r (suc i) (suc j) d lt inside = r i j d (omega arith) (omega arith)

rises_join : (xs ys : List Entry) (m : ℕ) → Rises xs → Rises ys → All (λ (e : Entry). e.0 < m) xs → All (λ (e : Entry). m ≤ e.0) ys → Rises (xs ++ ys)
rises_join [] ys m rx ry below above = ry
rises_join (x ∷ xs) ys m rx ry below above =
    let b = below 0 (0, 0) (omega arith) in
    rises_cons x (xs ++ ys) (All-append (λ (e : Entry). x.0 < e.0) xs ys (λ j d h. rx 0 (suc j) d (omega arith) (omega arith)) (λ j d h. let a = above j d h in omega (arith, a, b)))
    (rises_join xs ys m (λ i j d lt inside. rx (suc i) (suc j) d (omega arith) (omega arith)) ry (λ i d h. below (suc i) d (omega arith)) above)

-- what stands in the list once the way along the chain has come to a leaf
pub record Gathered (rows : List Entry) (node : ℕ) (v : View) : Type 0 where
  pub at : IsAt v.seen 0 node
  pub rises : Rises rows
  pub below : All (λ (e : Entry). e.0 < low v.seen node) rows
  pub each : (q : ℕ) → q < low v.seen node → map_of rows q ≡ map_after (map_of v.base) v.seen.log q

pub gathered_none : (v : View) → Good v.base v.seen → Gathered [] 0 v
gathered_none v good = record {
  at = good.first.0;
  rises = λ i j d lt inside. absurd (omega arith);
  below = λ i d h. absurd (omega arith);
  each = λ q less. let z = good.first.1 in absurd (omega (arith, less, z));
}

module _ (v : View) (node : ℕ) (rows more : List Entry) (good : Good v.base v.seen) (g : Gathered rows node v) (is : more ≡ rows ++ entries_of (node_of v.seen.image node)) where
  abbrev ys : List Entry
  ys = entries_of (node_of v.seen.image node)

  above : All (λ (e : Entry). low v.seen node ≤ e.0) ys
  above i d h = ((good.nodes 0 node g.at).inside i d h).above

  joined_rises : Rises more
  joined_rises = subst Rises (sym is) (rises_join rows ys (low v.seen node) g.rises (good.nodes 0 node g.at).rises g.below above)

  joined_each : (q : ℕ) → (low v.seen node ≤ q → Covers v.seen node q) → map_of more q ≡ map_after (map_of v.base) v.seen.log q
  joined_each q covers = ap (λ (xs : List Entry). map_of xs q) is ∙ ⊎_elim
      (λ (less : q < low v.seen node). map_left rows ys (low v.seen node) q above less ∙ g.each q less)
      (λ (most : low v.seen node ≤ q). map_right rows ys (low v.seen node) q g.below most ∙ (good.nodes 0 node g.at).leaf refl q (covers most))
      (cases_lt q (low v.seen node))

  -- a right neighbour follows
  pub gathered_on : (link : Link) → right_of (node_of v.seen.image node) ≡ Some link → Gathered more link.node v × (low v.seen link.node ≡ link.key) × (low v.seen node < link.key)
  gathered_on link there =
      let r = (good.nodes 0 node g.at).right link there in
      let lows = r.1 in let higher = r.2 in
      let same : (q : ℕ) → q < link.key → low v.seen node ≤ q → Covers v.seen node q = λ q less most. record {
        above = most;
        below = subst (λ (o : Option Link). ForSome o (λ (m : Link). q < m.key)) (sym there) (λ m e. subst (λ (z : ℕ). q < z) (ap key_in e) less);
      } in (
        record {
          at = r.0;
          rises = joined_rises;
          below = subst (λ (z : ℕ). All (λ (e : Entry). e.0 < z) more) (sym lows) (subst (All (λ (e : Entry). e.0 < link.key)) (sym is)
              (All-append (λ (e : Entry). e.0 < link.key) rows ys (λ i d h. let b = g.below i d h in omega (arith, b, higher)) (λ i d h. ((good.nodes 0 node g.at).inside i d h).below link there)));
          each = λ q less. joined_each q (same q (subst (λ (z : ℕ). q < z) lows less));
        },
        lows,
        higher,
      )
    where
      key_in : Option Link → ℕ
      key_in None = 0
      key_in (Some m) = m.key

  -- none does
  pub gathered_all : right_of (node_of v.seen.image node) ≡ None → (Rises more) × ((q : ℕ) → map_of more q ≡ map_after (map_of v.base) v.seen.log q)
  gathered_all none = (joined_rises, λ q. joined_each q (λ most. record { above = most; below = λ m e. absurd (lost m (sym none ∙ e)) }))
    where
      lost : (m : Link) → None ≡ Some m → ⊥
      lost m e = cc
