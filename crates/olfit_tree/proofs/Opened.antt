-- The words of a tree, with words of free nodes and the root's number behind them, are those of an index.
use Rattle.std.proofs.Common.{◌≡◌, ◌≢◌, ◌⊎◌, ℕ, suc, true, false, ◌+◌, ◌-◌, ◌*◌, ◌/◌, ◌<◌, ◌≤◌, Bool, cond, eqb, List, [], ◌∷◌, ◌++◌, length, get_or, take, drop, replicate, IsSome, None, refl, sym, ap, ◌∙◌, subst, arith, inl, inr, ⊎_elim, append_assoc, get_or-take, get_or-drop, length-append, length-drop}
use Rattle.std.specs.Prelude.{slice_index}
use Rattle.std.proofs.Math.Nat.{mul-le-mul_right}
use Rattle.std.proofs.lemmas.Bool.{cases_eq, cases_lt, eq-eqb}
use Rattle.std.proofs.lemmas.List.{drop-drop, drop_all, get_or-append_right, get_or_append_left, get_or_at, get_or_past, length-replicate, length-take, take-append-drop, take_all}
use Rattle.std.proofs.lemmas.List.Sums.{sum_by-take-drop}
use Rattle.olfit_nodes.specs.Nodes.{Entry, count_of, entries_of, level_of, right_of, Rises}
use Rattle.olfit_rule.specs.declared.view.Moment.{Moment}
use Rattle.olfit_rule.specs.Tree.{node_of, low, version, Covers, Good, IsAt, IsNode, leaf_entries}
use Rattle.olfit_rule.specs.Rule.{CanOpen, IsAtRest, opener, nodes_in, opening_of, part}
use Rattle.olfit_rule.proofs.Opens.{length-nodes_in, length-part, node_in}
use Rattle.olfit_change.specs.Room.{weight, IsPaid}
use Rattle.olfit_change.specs.States.{HasLowVersions, IsFreeFrom, IsTold, IsClean}
use Rattle.olfit_tree.specs.Index.{IsNew}
use Rattle.olfit_tree.specs.Build.{HoldsTree, IsTree, level_nodes, nodes_at}
use Rattle.olfit_tree.proofs.Built.{Built, IsBuilt, all_alone, all_above, all_clear, all_cover, all_inner, all_last, all_leafy, all_nodes, all_zeroth, built, leaf_part}
use Rattle.olfit_tree.proofs.Levels.{row_at}
use Rattle.olfit_tree.proofs.Marks.{level_none}
use Rattle.olfit_tree.proofs.Payments.{pays, weigh}
use Rattle.olfit_tree.proofs.Rows.{low_zero}
use Rattle.olfit_tree.proofs.Zeros.{Zero, levels_long, no_weights, zero_clear, zero_count, zero_entries, zeros_are}

-- the leaves' entries are the rows, where each leaf has the next ones
leaves_are : (ns : List (List ℕ)) (rows : List Entry) (each : ℕ) → ((i : ℕ) → i < length ns → leaf_part (node_of ns i) ≡ take each (drop (i * each) rows)) → length rows ≤ length ns * each → leaf_entries ns ≡ rows
leaves_are [] rows each parts few = sym (none rows (let z : 0 * each ≡ 0 = omega arith in omega (arith, few, z)))
  where
    none : (xs : List Entry) → length xs ≤ 0 → xs ≡ []
    none [] h = refl
    none (x ∷ xs) h = absurd (omega (arith, h))
leaves_are (w ∷ ns) rows each parts few =
    let first : leaf_part w ≡ take each rows = parts 0 (omega arith) ∙ ap (λ (k : ℕ). take each (drop k rows)) (none each) in
    let d = length-drop each rows in
    let m = next (length ns) each in
    let rest = leaves_are ns (drop each rows) each
    (λ i h. parts (suc i) (omega (arith, h)) ∙ ap (take each) (ap (λ (k : ℕ). drop k rows) (turned i each) ∙ sym (drop-drop (i * each) each rows)))
    (omega (arith, few, d, m)) in
    (λ j. first j ++ rest j) ∙ take-append-drop each rows
  where
    none : (m : ℕ) → 0 * m ≡ 0
    none m = omega arith

    next : (k m : ℕ) → suc k * m ≡ k * m + m
    next k m = omega arith

    turned : (k m : ℕ) → suc k * m ≡ m + k * m
    turned k m = omega arith

module _ (words tree : List ℕ) (nodes used each : ℕ) (rows : List Entry) (sizes : (each ≡ 8) ⊎ (each ≡ 16)) (rises : Rises rows) (holds : HoldsTree tree each used rows) (fits : used ≤ nodes)
    (is : words ≡ tree ++ replicate ((nodes - used) * 64) 0 ++ (used - 1) ∷ []) where
  abbrev t : Moment
  t = opening_of words

  abbrev ns : List (List ℕ)
  ns = nodes_in words

  abbrev free : List ℕ
  free = replicate ((nodes - used) * 64) 0

  front_long : length (tree ++ free) ≡ nodes * 64
  front_long = let a = length-append tree free in let r = length-replicate {A = ℕ} ((nodes - used) * 64) 0 in let l = holds.long in omega (arith, a, r, l, fits)

  pub long : length words ≡ nodes * 64 + 1
  long = let e = ap (λ (w : List ℕ). length w) is in let a = length-append (tree ++ free) ((used - 1) ∷ []) in let f = front_long in omega (arith, e, a, f)

  pub nodes_long : length ns ≡ nodes
  nodes_long = length-nodes_in words nodes long

  pub root_is : t.root ≡ used - 1
  root_is = ap (λ (w : List ℕ). get_or w (length words / 64 * 64) 0) is ∙ get_or_at (tree ++ free) (used - 1) [] 0 (length words / 64 * 64) (let f = front_long in let l = long in omega (arith, f, l))

  -- The nodes that are free

  free_word : (m : ℕ) → used * 64 ≤ m → m < nodes * 64 → get_or words m 0 ≡ 0
  free_word m a b = let f = front_long in ap (λ (w : List ℕ). get_or w m 0) is
      ∙ (get_or_append_left (tree ++ free) ((used - 1) ∷ []) 0 m (omega (arith, b, f))
      ∙ (get_or-append_right tree free (used * 64) m 0 holds.long a ∙ zeros_are ((nodes - used) * 64) free refl (m - used * 64)))

  free_part : (i : ℕ) → used ≤ i → i < nodes → Zero (part words i)
  free_part i a b k = ⊎_elim
      (λ (small : k < 64). get_or-take 64 (drop (i * 64) words) k 0 small ∙ (get_or-drop (i * 64) words k 0 ∙ free_word (i * 64 + k) (omega (arith, a)) (omega (arith, b, small))))
      (λ (past : 64 ≤ k). get_or_past (part words i) k 0 (let l = length-take 64 (drop (i * 64) words) in omega (arith, l, past)))
      (cases_lt k 64)

  free_node : (i : ℕ) → used ≤ i → Zero (node_of ns i)
  free_node i a = ⊎_elim
      (λ (inside : i < nodes). subst Zero (sym (node_in words nodes i long inside)) (free_part i a inside))
      (λ (past : nodes ≤ i). subst Zero (sym (get_or_past ns i [] (let l = nodes_long in omega (arith, l, past)))) (λ k. refl))
      (cases_lt i nodes)

  -- The tree

  abbrev level : ℕ
  level = holds.tree.0

  abbrev size : ℕ
  size = holds.tree.1

  abbrev es : List Entry
  es = holds.tree.2

  one : level_nodes (length es) size ≡ 1
  one = holds.tree.3

  grown : IsTree ns each rows level size (used - 1) es
  grown = subst (λ (w : List ℕ). IsTree (nodes_in w) each rows level size (used - 1) es) (sym (is ∙ append_assoc tree free ((used - 1) ∷ []))) (holds.tree.4 (free ++ (used - 1) ∷ []))

  some : 0 < used
  some = let c = holds.count in omega (arith, c)

  end : used - 1 + level_nodes (length es) size ≡ used
  end = let o = one in let s = some in omega (arith, o, s)

  room : used - 1 + level_nodes (length es) size ≤ length ns
  room = let e = end in let l = nodes_long in omega (arith, e, l, fits)

  b : Built words rows each level size (used - 1) es
  b = built words rows each sizes rises level size (used - 1) es grown room

  node : (i : ℕ) → i < used → IsBuilt words rows level i
  node i h = all_nodes words rows each level size (used - 1) es b room i (let e = end in omega (arith, e, h))

  linked : (l i : ℕ) → IsAt t l i → i < used
  linked l i h = ⊎_elim
      (λ (inside : i < used). inside)
      (λ (past : used ≤ i). let s = some in let z = level_none ns i (omega (arith, s, past)) (zero_count (node_of ns i) (free_node i past)) in let a = h.1 in absurd (omega (arith, z, a)))
      (cases_lt i used)

  alone : (l i j q : ℕ) → i < j → IsAt t l i → IsAt t l j → Covers t i q → Covers t j q → ⊥
  alone l i j q less hi hj ci cj = all_alone words rows each level size (used - 1) es b room l i j q less (let e = end in let k = linked l j hj in omega (arith, e, k)) hi hj ci cj

  top_at : IsAt t level (used - 1)
  top_at = let o = one in subst (IsAt t level) (stays (used - 1)) (row_at words level (used - 1) size es b.sizes b.rises room b.some b.pieces 0 (omega (arith, o)))
    where
      stays : (m : ℕ) → m + 0 ≡ m
      stays m = omega arith

  root_at : IsAt t level t.root
  root_at = subst (IsAt t level) (sym root_is) top_at

  root_level : slice_index t.levels t.root ≡ level + 1
  root_level = root_at.1

  good_rows : Good rows t
  good_rows = record {
    sized = levels_long ns;
    first = all_zeroth words rows each level size (used - 1) es b room;
    root = (level, root_at, subst (λ (x : ℕ). low t x ≡ 0) (sym root_is) top_low);
    nodes = λ l i h. let x = node i (linked l i h) in let e : x.level ≡ l = (let p = x.at.1 in let q = h.1 in omega (arith, p, q)) in subst (λ (m : ℕ). IsNode rows t m i) e x.node;
    alone = λ l i j q hi hj ci cj. ⊎_elim
        (λ (less : i < j). absurd (alone l i j q less hi hj ci cj))
        (λ (more : j ≤ i). ⊎_elim
        (λ (same : i ≡ j). same)
        (λ (other : i ≢ j). absurd (alone l j i q (omega (arith, more, other)) hj hi cj ci))
        (cases_eq i j))
        (cases_lt i j);
    legal = tt;
  }
    where
      top_low : low t (used - 1) ≡ 0
      top_low = let o = one in let z : 0 < level_nodes (length es) size = omega (arith, o) in
          subst (λ (x : ℕ). low t x ≡ 0) (plus_none (used - 1)) ((b.pieces 0 z).low ∙ low_zero es (0 * size) (none_of size))
        where
          plus_none : (m : ℕ) → m + 0 ≡ m
          plus_none m = omega arith

          none_of : (m : ℕ) → 0 * m ≡ 0
          none_of m = omega arith

  pub base_is : leaf_entries ns ≡ rows
  base_is = leaves_are ns rows each parts (let c = cover in let m = mul-le-mul_right each fits in let l = ap (λ (k : ℕ). k * each) nodes_long in omega (arith, c, m, l))
    where
      cover : length rows ≤ used * each
      cover = subst (λ (k : ℕ). length rows ≤ k * each) end (all_cover words rows each level size (used - 1) es b room)

      parts : (i : ℕ) → i < length ns → leaf_part (node_of ns i) ≡ take each (drop (i * each) rows)
      parts i h = ⊎_elim
          (λ (inside : i < used). all_leafy words rows each level size (used - 1) es b room i (let e = end in omega (arith, e, inside)))
          (λ (past : used ≤ i). nothing (eqb (level_of (node_of ns i)) 0) (entries_of (node_of ns i)) (zero_entries (node_of ns i) (free_node i past))
          ∙ sym (ap (take each) (drop_all (i * each) rows (let c = cover in let m = mul-le-mul_right each past in omega (arith, c, m))) ∙ take_all each [] (omega arith)))
          (cases_lt i used)
        where
          nothing : (c : Bool) (xs : List Entry) → xs ≡ [] → cond c xs [] ≡ []
          nothing true xs e = e
          nothing false xs e = refl

  pub good : Good (leaf_entries ns) t
  good = subst (λ (xs : List Entry). Good xs t) (sym base_is) good_rows

  pub low_versions : HasLowVersions t
  low_versions i = let z = fresh i in omega (arith, z)
    where
      fresh : (i : ℕ) → version ns i ≡ 0
      fresh i = ⊎_elim (λ (inside : i < used). (node i inside).version) (λ (past : used ≤ i). free_node i past 0) (cases_lt i used)

  pub rest : IsAtRest (opener words)
  rest = record {
    writes = refl;
    same = refl;
    wide = λ i h. let inside : i < nodes = (let l = nodes_long in omega (arith, h, l)) in ap length (node_in words nodes i long inside) ∙ length-part words nodes i long inside;
    even = λ i h. let v = low_versions i in omega (arith, v);
  }

  pub can_open : CanOpen words
  can_open = record { count = (nodes, long); rest = rest; good = good }

  pub free_from : IsFreeFrom used t
  free_from = record {
    most = (some, let l = nodes_long in omega (arith, l, fits));
    linked = linked;
    fresh = λ i h. free_node i h 0;
    top = λ l i h. let a = all_above words rows each level size (used - 1) es b room l i (let e = end in let k = linked l i h in omega (arith, e, k)) h in let r = root_level in omega (arith, a, r);
    tall = let d = b.deep in let r = root_level in let s = some in omega (arith, d, r, s);
  }

  pub told_all : IsTold t
  told_all l i h = let k = linked l i h in ⊎_elim
      (λ (below : i < used - 1). inr (b.told l i below h))
      (λ (top : used - 1 ≤ i). inl (let e : i ≡ used - 1 = omega (arith, k, top) in e ∙ sym root_is))
      (cases_lt i (used - 1))

  pub clean_all : IsClean t
  clean_all i h = ⊎_elim
      (λ (inside : i < used). all_clear words rows each level size (used - 1) es b room i (let e = end in omega (arith, e, inside)))
      (λ (past : used ≤ i). zero_clear (node_of ns i) (rest.wide i h) (free_node i past))
      (cases_lt i used)

  pub new_all : IsNew t
  new_all i = let v = low_versions i in omega (arith, v)

  pub paid : IsPaid used (length rows) t
  paid =
      let p = pays words rows each sizes rises level size (used - 1) es grown room in
      let o = one in let e = end in
      let w = sum_by-take-drop weight ns used in
      let z = no_weights (drop used ns) (λ i. subst Zero (sym (get_or-drop used ns i [])) (free_node (used + i) (omega arith))) in
      let s = ap (weigh words rows each) e in record {
        nodes = let q = p.nodes in omega (arith, q, w, z, s, e);
        leaf = λ r. let x = root_level in let q = p.leaf (omega (arith, r, x)) o in omega (arith, q, w, z, s, e);
      }

  -- how full its nodes are

  pub leaf_rows : (i : ℕ) → IsAt t 0 i → entries_of (node_of ns i) ≡ take each (drop (i * each) rows)
  leaf_rows i h =
      let k = linked 0 i h in
      let x = node i k in let y : x.level ≡ 0 = (let p = x.at.1 in let q = h.1 in omega (arith, p, q)) in
      sym (ap (λ (c : Bool). cond c (entries_of (node_of ns i)) []) (eq-eqb (level_of (node_of ns i)) 0 (x.node.height ∙ y)))
      ∙ all_leafy words rows each level size (used - 1) es b room i (let e = end in omega (arith, e, k))

  pub inner_full : (l i : ℕ) → IsAt t (l + 1) i → IsSome (right_of (node_of ns i)) → count_of (node_of ns i) ≡ 16
  inner_full l i h s = all_inner words rows each level size (used - 1) es b room l i (let e = end in let k = linked (l + 1) i h in omega (arith, e, k)) h s

  pub last_rest : (l i : ℕ) → IsAt t (l + 1) i → right_of (node_of ns i) ≡ None → 16 * (nodes_at (length rows) each (l + 1) - 1) + count_of (node_of ns i) ≡ nodes_at (length rows) each l
  last_rest l i h none = all_last words rows each level size (used - 1) es b room l i (let e = end in let k = linked (l + 1) i h in omega (arith, e, k)) h none
