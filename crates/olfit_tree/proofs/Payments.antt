-- The rows pay for the nodes of the tree.
use Rattle.std.proofs.Common.{◌≡◌, ◌≢◌, ◌⊎◌, ℕ, zero, suc, ◌+◌, ◌-◌, ◌*◌, ◌<◌, ◌≤◌, List, [], ◌∷◌, length, take, refl, sym, ap, ◌∙◌, arith, ⊎_elim}
use Rattle.std.specs.Prelude.{min, sum_by}
use Rattle.std.proofs.lemmas.List.{take_more}
use Rattle.std.proofs.lemmas.List.Sums.{sum_by-append, sum_by-cons}
use Rattle.olfit_nodes.specs.Nodes.{Entry, count_of, Rises}
use Rattle.olfit_rule.specs.Tree.{node_of}
use Rattle.olfit_rule.specs.Rule.{nodes_in}
use Rattle.olfit_change.specs.Room.{weight}
use Rattle.olfit_change.proofs.Weights.{weight_inner, weight_leaf, weight_none}
use Rattle.olfit_tree.specs.Build.{IsTree, level_nodes}
use Rattle.olfit_tree.proofs.Built.{Built, built}
use Rattle.olfit_tree.proofs.Growing.{length-leads}
use Rattle.olfit_tree.proofs.Levels.{count_is}
use Rattle.olfit_tree.proofs.Sizes.{begins}

module _ (words : List ℕ) (rows : List Entry) (each : ℕ) where
  abbrev ns : List (List ℕ)
  ns = nodes_in words

  -- what the first nodes weigh
  abbrev pub weigh : ℕ → ℕ
  weigh k = sum_by weight (take k ns)

  weigh_more : (k : ℕ) → k < length ns → weigh (k + 1) ≡ weigh k + weight (node_of ns k)
  weigh_more k h =
      let e = ap (λ (xs : List (List ℕ)). sum_by weight xs) (take_more ns k [] h) in
      let a = sum_by-append weight (take k ns) (node_of ns k ∷ []) in
      let c = sum_by-cons weight (node_of ns k) [] in
      let z : sum_by weight [] ≡ 0 = refl in omega (arith, e, a, c, z)

  pub record Pays (level size first : ℕ) (es : List Entry) : Type 0 where
    pub nodes : 6 * (first + level_nodes (length es) size) + weigh (first + level_nodes (length es) size) ≤ length rows + 25
    pub more : 1 < level_nodes (length es) size
        → 6 * (first + level_nodes (length es) size) + weigh (first + level_nodes (length es) size) + 2 * level_nodes (length es) size + 3 ≤ length rows + 25
    pub leaf : level ≡ 0 → level_nodes (length es) size ≡ 1
        → 6 * (first + level_nodes (length es) size) + weigh (first + level_nodes (length es) size) + 4 ≤ length rows + 25

  module _ (level size first : ℕ) (es : List Entry) (b : Built words rows each level size first es) (room : first + level_nodes (length es) size ≤ length ns) where
    abbrev n : ℕ
    n = level_nodes (length es) size

    count_at : (k : ℕ) → k < n → count_of (node_of ns (first + k)) ≡ min size (length es - k * size)
    count_at k h = count_is words level first size es b.sizes b.rises room b.some b.pieces k h

    -- leaves with eight entries weigh nothing
    light : level ≡ 0 → size ≡ 8 → (p : ℕ) → p ≤ n → weigh (first + p) ≡ weigh first
    light z eight zero h = ap weigh (none first)
      where
        none : (m : ℕ) → m + 0 ≡ m
        none m = omega arith
    light z eight (suc p) h =
        let r = light z eight p (omega (arith, h)) in
        let m = weigh_more (first + p) (omega (arith, h, room)) in
        let c = count_at p h in
        let w = weight_none (node_of ns (first + p)) (omega (arith, c, eight)) in
        let e : weigh (first + suc p) ≡ weigh (first + p + 1) = ap weigh (omega arith) in omega (arith, r, m, w, e)

    -- others weigh up to seven
    heavy : level ≡ 0 → size ≡ 16 → (p : ℕ) → p ≤ n → weigh (first + p) ≤ weigh first + 7 * p
    heavy z full zero h = let e = ap weigh (none first) in omega (arith, e)
      where
        none : (m : ℕ) → m + 0 ≡ m
        none m = omega arith
    heavy z full (suc p) h =
        let r = heavy z full p (omega (arith, h)) in
        let m = weigh_more (first + p) (omega (arith, h, room)) in
        let c = count_at p h in
        let w = weight_leaf (node_of ns (first + p)) ((b.pieces p h).height ∙ z) in
        let e : weigh (first + suc p) ≡ weigh (first + p + 1) = ap weigh (omega arith) in omega (arith, r, m, c, w, e, full)

    -- a node above the leaves weighs less than it has entries
    inner : level ≢ 0 → size ≡ 16 → (p : ℕ) → p ≤ n → weigh (first + p) + p ≤ weigh first + min (length es) (p * 16)
    inner not full zero h = let e = ap weigh (none first) in omega (arith, e)
      where
        none : (m : ℕ) → m + 0 ≡ m
        none m = omega arith
    inner not full (suc p) h =
        let r = inner not full p (omega (arith, h)) in
        let m = weigh_more (first + p) (omega (arith, h, room)) in
        let c : count_of (node_of ns (first + p)) ≡ min 16 (length es - p * 16) = count_at p h ∙ ap (λ (s : ℕ). min s (length es - p * s)) full in
        let some = (b.leading (level - 1) (omega (arith, not))).some in
        let begun : p * 16 < length es = ⊎_elim
        (λ (z : p ≡ 0). omega (arith, z, some))
        (λ (l : p * size < length es). let x = ap (λ (s : ℕ). p * s) full in omega (arith, l, x))
        (begins (length es) size b.sizes p h) in
        let w = weight_inner (node_of ns (first + p)) (λ z. not (sym (b.pieces p h).height ∙ z)) in
        let e : weigh (first + suc p) ≡ weigh (first + p + 1) = ap weigh (omega arith) in omega (arith, r, m, c, w, e, begun)

  pays_leaves : (size first : ℕ) (es : List Entry) → Built words rows each 0 size first es → first + level_nodes (length es) size ≤ length ns → Pays 0 size first es
  pays_leaves size first es b room =
      let o = b.bottom refl in let f = o.0 in
      let l : length rows ≡ length es = ap (λ (xs : List Entry). length xs) o.2 in
      let z : weigh first ≡ 0 = ap weigh f in
      let n : ℕ = level_nodes (length es) size in ⊎_elim
      (λ (eight : size ≡ 8).
      let w = light 0 size first es b room refl eight n (omega arith) in
      let c : n ≡ level_nodes (length es) 8 = ap (level_nodes (length es)) eight in record {
        nodes = omega (arith, w, z, f, l, c);
        more = λ m. omega (arith, w, z, f, l, c, m);
        leaf = λ _ one. omega (arith, w, z, f, l, c, one);
      })
      (λ (full : size ≡ 16).
      let w = heavy 0 size first es b room refl full n (omega arith) in
      let c : n ≡ level_nodes (length es) 16 = ap (level_nodes (length es)) full in record {
        nodes = omega (arith, w, z, f, l, c);
        more = λ m. omega (arith, w, z, f, l, c, m);
        leaf = λ _ one. omega (arith, w, z, f, l, c, one);
      })
      b.sizes

  pub pays : (each ≡ 8) ⊎ (each ≡ 16) → Rises rows → (level size first : ℕ) (es : List Entry) → IsTree ns each rows level size first es → first + level_nodes (length es) size ≤ length ns → Pays level size first es
  pays sizes rises zero size first es tree room = pays_leaves size first es (built words rows each sizes rises zero size first es tree room) room
  pays sizes rises (suc below) size first es tree room =
      let under = tree.1.2 in let start = tree.1.1 in let lower = tree.1.0 in
      let more = tree.1.4 in let e = tree.1.5 in
      let long : length es ≡ level_nodes (length under) lower = ap (λ (xs : List Entry). length xs) tree.1.6 ∙ length-leads start lower under (level_nodes (length under) lower) in
      let p = pays sizes rises below lower start under tree.1.3 (omega (arith, room, e)) in
      let paid = p.more more in
      let same = ap weigh e in
      let b = built words rows each sizes rises (suc below) size first es tree room in
      let full = tree.0 in
      let n : ℕ = level_nodes (length es) size in
      let w = inner (suc below) size first es b room (λ z. omega (arith, z)) full n (omega arith) in
      let c : n ≡ level_nodes (length es) 16 = ap (level_nodes (length es)) full in record {
        nodes = omega (arith, paid, same, w, c, e, long, more);
        more = λ m. omega (arith, paid, same, w, c, e, long, more, m);
        leaf = λ z. absurd (omega (arith, z));
      }
