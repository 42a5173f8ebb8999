-- A tree level by level: what its nodes are.
use Rattle.std.proofs.Common.{◌≡◌, ◌≢◌, ◌⊎◌, ℕ, zero, suc, ◌+◌, ◌-◌, ◌*◌, ◌<◌, ◌≤◌, Bool, cond, eqb, List, [], ◌∷◌, length, take, drop, get_or, IsSome, Some, None, refl, sym, ap, ◌∙◌, subst, arith, inl, inr, ⊎_elim, eq-eqb}
use Rattle.std.proofs.Math.Nat.{mul-le-mul_right}
use Rattle.std.proofs.lemmas.Bool.{cases_eq, cases_lt, ne_eqb, true≢false}
use Rattle.std.proofs.lemmas.List.{drop_all, take_all}
use Rattle.std.specs.List.{Contains}
use Rattle.olfit_nodes.specs.declared.head.Link.{Link}
use Rattle.olfit_nodes.specs.Nodes.{Entry, count_of, entries_of, level_of, right_of, IsClear, Rises}
use Rattle.olfit_rule.specs.declared.view.Moment.{Moment}
use Rattle.olfit_rule.specs.Tree.{node_of, low, version, Covers, IsAt, IsNode}
use Rattle.olfit_rule.specs.Rule.{nodes_in, opening_of}
use Rattle.olfit_tree.specs.Build.{ArePieces, IsTree, leads, level_nodes, low_at, nodes_at, right_at}
use Rattle.olfit_change.specs.States.{HasEntryAbove}
use Rattle.olfit_tree.proofs.Growing.{length-leads}
use Rattle.olfit_tree.proofs.Levels.{LeadBelow, count_is, entry_in, lead_is, lead_rises, leads_below, one_covers, row_at, row_node}
use Rattle.olfit_tree.proofs.Rows.{low_zero}
use Rattle.olfit_tree.proofs.Sizes.{begins, covers, goes_on, level_some}

-- the entries of a leaf, and none of another node
abbrev pub leaf_part : List ℕ → List Entry
leaf_part w = cond (eqb (level_of w) 0) (entries_of w) []

-- a node of a tree
pub record IsBuilt (words : List ℕ) (rows : List Entry) (most i : ℕ) : Type 0 where
  pub level : ℕ
  pub low_enough : level ≤ most
  pub at : IsAt (opening_of words) level i
  pub node : IsNode rows (opening_of words) level i
  pub version : version (nodes_in words) i ≡ 0

module _ (words : List ℕ) (rows : List Entry) (each : ℕ) where
  abbrev t : Moment
  t = opening_of words

  abbrev ns : List (List ℕ)
  ns = nodes_in words

  -- what is known of the nodes up to a level, and of its entries
  pub record Built (level size first : ℕ) (es : List Entry) : Type 0 where
    pub sizes : (size ≡ 8) ⊎ (size ≡ 16)
    pub rises : Rises es
    pub some : (first ≡ 0) ⊎ (0 < length es)
    pub bottom : level ≡ 0 → (first ≡ 0) × (size ≡ each) × (rows ≡ es)
    pub tall : level ≢ 0 → (size ≡ 16) × (length rows ≤ first * each)
    pub leading : (below : ℕ) → level ≡ below + 1 → LeadBelow t below es
    pub pieces : ArePieces ns level first size es (level_nodes (length es) size)
    pub lower : (i : ℕ) → i < first → IsBuilt words rows (level - 1) i
    pub above : (l i : ℕ) → i < first → IsAt t l i → l < level
    pub alone : (l i j q : ℕ) → i < j → j < first → IsAt t l i → IsAt t l j → Covers t i q → Covers t j q → ⊥
    pub leafy : (i : ℕ) → i < first → leaf_part (node_of ns i) ≡ take each (drop (i * each) rows)
    pub inner : (l i : ℕ) → i < first → IsAt t (l + 1) i → IsSome (right_of (node_of ns i)) → count_of (node_of ns i) ≡ 16
    pub wide : level_nodes (length es) size ≡ nodes_at (length rows) each level
    pub under : (below : ℕ) → level ≡ below + 1 → length es ≡ nodes_at (length rows) each below
    pub last : (l i : ℕ) → i < first → IsAt t (l + 1) i → right_of (node_of ns i) ≡ None → 16 * (nodes_at (length rows) each (l + 1) - 1) + count_of (node_of ns i) ≡ nodes_at (length rows) each l
    pub told : (l i : ℕ) → i < first → IsAt t l i → HasEntryAbove t l i
    pub clear : (i : ℕ) → i < first → IsClear (node_of ns i)
    pub zeroth : (0 < first) → IsAt t 0 0 × (low t 0 ≡ 0)
    pub deep : level ≤ first

  module _ (level size first : ℕ) (es : List Entry) (b : Built level size first es) (room : first + level_nodes (length es) size ≤ length ns) where
    abbrev n : ℕ
    n = level_nodes (length es) size

    split : (P : ℕ → Type 0) (i : ℕ) → i < first + n → (i < first → P i) → ((k : ℕ) → k < n → P (first + k)) → P i
    split P i h lo hi = ⊎_elim
        (λ (less : i < first). lo less)
        (λ (most : first ≤ i). let e : first + (i - first) ≡ i = omega (arith, most) in subst P e (hi (i - first) (omega (arith, h, most))))
        (cases_lt i first)

    at_row : (k : ℕ) → k < n → IsAt t level (first + k)
    at_row k h = row_at words level first size es b.sizes b.rises room b.some b.pieces k h

    pub level_is : (l k : ℕ) → k < n → IsAt t l (first + k) → l ≡ level
    level_is l k h a = let x = (at_row k h).1 in let y = a.1 in omega (arith, x, y)

    pub all_nodes : (i : ℕ) → i < first + n → IsBuilt words rows level i
    all_nodes i h = split (IsBuilt words rows level) i h
        (λ less. let x = b.lower i less in record { level = x.level; low_enough = let m = x.low_enough in omega (arith, m); at = x.at; node = x.node; version = x.version })
        (λ k hk. record {
          level = level;
          low_enough = omega arith;
          at = at_row k hk;
          node = row_node words level first size es b.sizes b.rises room b.some b.pieces rows k hk (λ z. (b.bottom z).2) b.leading;
          version = (b.pieces k hk).version;
        })

    pub all_alone : (l i j q : ℕ) → i < j → j < first + n → IsAt t l i → IsAt t l j → Covers t i q → Covers t j q → ⊥
    all_alone l i j q less h hi hj ci cj = ⊎_elim
        (λ (lo : j < first). b.alone l i j q less lo hi hj ci cj)
        (λ (up : first ≤ j).
        let ej : j ≡ first + (j - first) = omega (arith, up) in
        let kj : j - first < n = omega (arith, h, up) in
        let lj = level_is l (j - first) kj (subst (IsAt t l) ej hj) in ⊎_elim
        (λ (lo : i < first). let a = b.above l i lo hi in omega (arith, a, lj))
        (λ (high : first ≤ i).
        let ei : i ≡ first + (i - first) = omega (arith, high) in
        one_covers words level first size es b.sizes b.rises room b.some b.pieces (i - first) (j - first) q (omega (arith, less, high)) kj
        (subst (λ (x : ℕ). Covers t x q) ei ci) (subst (λ (x : ℕ). Covers t x q) ej cj))
        (cases_lt i first))
        (cases_lt j first)

    pub all_above : (l i : ℕ) → i < first + n → IsAt t l i → l ≤ level
    all_above l i h a = let x = all_nodes i h in let y = x.at.1 in let z = a.1 in let m = x.low_enough in omega (arith, y, z, m)

    pub all_cover : length rows ≤ (first + n) * each
    all_cover = ⊎_elim
        (λ (z : level ≡ 0).
        let o = b.bottom z in let c = covers (length es) size b.sizes in
        let l : length rows ≡ length es = ap (λ (xs : List Entry). length xs) o.2 in
        let e : n * size ≡ (first + n) * each = (λ j. begun o.0 j * o.1 j) in
        omega (arith, c, l, e))
        (λ (not : level ≢ 0). let c = (b.tall not).1 in let m = mul-le-mul_right each (far first n) in omega (arith, c, m))
        (cases_eq level 0)
      where
        begun : first ≡ 0 → n ≡ first + n
        begun z = omega (arith, z)

        far : (a b : ℕ) → a ≤ a + b
        far a b = omega arith

    pub all_leafy : (i : ℕ) → i < first + n → leaf_part (node_of ns i) ≡ take each (drop (i * each) rows)
    all_leafy i h = split (λ (x : ℕ). leaf_part (node_of ns x) ≡ take each (drop (x * each) rows)) i h (b.leafy i) row
      where
        row : (k : ℕ) → k < n → leaf_part (node_of ns (first + k)) ≡ take each (drop ((first + k) * each) rows)
        row k hk = ⊎_elim
            (λ (z : level ≡ 0).
            let o = b.bottom z in let p = b.pieces k hk in
            let e : k ≡ first + k = (let f = o.0 in omega (arith, f)) in
            ap (λ (c : Bool). cond c (entries_of (node_of ns (first + k))) []) (eq-eqb (level_of (node_of ns (first + k))) 0 (p.height ∙ z))
            ∙ (p.rows ∙ (λ j. take (o.1 j) (drop (e j * o.1 j) (sym o.2 j)))))
            (λ (not : level ≢ 0).
            let p = b.pieces k hk in
            let c = (b.tall not).1 in let m = mul-le-mul_right each (far first k) in
            ap (λ (d : Bool). cond d (entries_of (node_of ns (first + k))) []) (ne_eqb (level_of (node_of ns (first + k))) 0 (λ z. not (sym p.height ∙ z)))
            ∙ sym (ap (take each) (drop_all ((first + k) * each) rows (omega (arith, c, m))) ∙ take_all each [] (omega arith)))
            (cases_eq level 0)
          where
            far : (a b : ℕ) → a ≤ a + b
            far a b = omega arith

    pub all_inner : (l i : ℕ) → i < first + n → IsAt t (l + 1) i → IsSome (right_of (node_of ns i)) → count_of (node_of ns i) ≡ 16
    all_inner l i h = split (λ (x : ℕ). IsAt t (l + 1) x → IsSome (right_of (node_of ns x)) → count_of (node_of ns x) ≡ 16) i h (b.inner l i) row
      where
        within : (xs : List Entry) (p next : ℕ) → IsSome (right_at xs p next) → p < length xs
        within [] p next s = absurd (true≢false (sym s))
        within (x ∷ xs) zero next s = omega arith
        within (x ∷ xs) (suc p) next s = let r = within xs p next s in omega (arith, r)

        row : (k : ℕ) → k < n → IsAt t (l + 1) (first + k) → IsSome (right_of (node_of ns (first + k))) → count_of (node_of ns (first + k)) ≡ 16
        row k hk a s =
            let e = level_is (l + 1) k hk a in
            let tall = (b.tall (λ z. omega (arith, e, z))).0 in
            let c = count_is words level first size es b.sizes b.rises room b.some b.pieces k hk in
            let w = within es (k * size + size) (first + k + 1) (subst IsSome (b.pieces k hk).right s) in omega (arith, tall, c, w)

    pub all_clear : (i : ℕ) → i < first + n → IsClear (node_of ns i)
    all_clear i h = split (λ (x : ℕ). IsClear (node_of ns x)) i h (b.clear i) (λ k hk. (b.pieces k hk).clear)

    pub all_last : (l i : ℕ) → i < first + n → IsAt t (l + 1) i → right_of (node_of ns i) ≡ None → 16 * (nodes_at (length rows) each (l + 1) - 1) + count_of (node_of ns i) ≡ nodes_at (length rows) each l
    all_last l i h = split (λ (x : ℕ). IsAt t (l + 1) x → right_of (node_of ns x) ≡ None → 16 * (nodes_at (length rows) each (l + 1) - 1) + count_of (node_of ns x) ≡ nodes_at (length rows) each l) i h (b.last l i) row
      where
        lost : (link : Link) → Some link ≡ None → ⊥
        lost link c = cc

        beyond : (xs : List Entry) (p next : ℕ) → right_at xs p next ≡ None → length xs ≤ p
        beyond [] p next e = omega arith
        beyond (x ∷ xs) zero next e = absurd (lost _ e)
        beyond (x ∷ xs) (suc p) next e = let r = beyond xs p next e in omega (arith, r)

        row : (k : ℕ) → k < n → IsAt t (l + 1) (first + k) → right_of (node_of ns (first + k)) ≡ None → 16 * (nodes_at (length rows) each (l + 1) - 1) + count_of (node_of ns (first + k)) ≡ nodes_at (length rows) each l
        row k hk a none =
            let e = level_is (l + 1) k hk a in
            let tall = (b.tall (λ z. omega (arith, e, z))).0 in
            let c = count_is words level first size es b.sizes b.rises room b.some b.pieces k hk in
            let end = beyond es (k * size + size) (first + k + 1) (sym (b.pieces k hk).right ∙ none) in
            let wide : n ≡ nodes_at (length rows) each (l + 1) = subst (λ (m : ℕ). n ≡ nodes_at (length rows) each m) (sym e) b.wide in
            let under = b.under l (sym e) in
            let times : k * size ≡ 16 * k = (let e : k * 16 ≡ 16 * k = omega arith in ap (λ (z : ℕ). k * z) tall ∙ e) in
            let start : k * size ≤ length es = ⊎_elim (λ (z : k ≡ 0). omega (arith, z, times)) (λ (less : k * size < length es). omega (arith, less)) (begins (length es) size b.sizes k hk) in ⊎_elim
            (λ (more : k + 1 < n). let on = goes_on (length es) size b.sizes k more in absurd (omega (arith, on, end)))
            (λ (done : n ≤ k + 1). omega (arith, done, hk, c, end, start, times, tall, wide, under))
            (cases_lt (k + 1) n)

    pub all_zeroth : IsAt t 0 0 × (low t 0 ≡ 0)
    all_zeroth = ⊎_elim
        (λ (z : first ≡ 0). ⊎_elim
        (λ (bottom : level ≡ 0). let e : first + 0 ≡ 0 = omega (arith, z) in let s = (level_some (length es) size b.sizes).0 in (
          subst (λ (l : ℕ). IsAt t l 0) bottom (subst (IsAt t level) e (at_row 0 s)),
          subst (λ (x : ℕ). low t x ≡ 0) e ((b.pieces 0 s).low ∙ low_zero es (0 * size) (none_of_it size)),
        ))
        (λ (not : level ≢ 0). let d = b.deep in absurd (omega (arith, d, z, not)))
        (cases_eq level 0))
        (λ (not : first ≢ 0). b.zeroth (omega (arith, not)))
        (cases_eq first 0)
      where
        none_of_it : (m : ℕ) → 0 * m ≡ 0
        none_of_it m = omega arith

    -- the next level has an entry for each of them
    all_told : (size' first' : ℕ) (above : List Entry) → (size' ≡ 8) ⊎ (size' ≡ 16) → Rises above → first' + level_nodes (length above) size' ≤ length ns → (first' ≡ 0) ⊎ (0 < length above) → above ≡ leads first size es n
        → ArePieces ns (suc level) first' size' above (level_nodes (length above) size') → (l i : ℕ) → i < first + n → IsAt t l i → HasEntryAbove t l i
    all_told size' first' above sizes' rises' room' some' is pieces' l i h =
        split (λ (x : ℕ). IsAt t l x → HasEntryAbove t l x) i h (b.told l i) row
      where
        row : (k : ℕ) → k < n → IsAt t l (first + k) → HasEntryAbove t l (first + k)
        row k hk a =
            let same = level_is l k hk a in
            let long : length above ≡ n = ap (λ (xs : List Entry). length xs) is ∙ length-leads first size es n in
            let up = entry_in words (suc level) first' size' above sizes' rises' room' some' pieces' k (omega (arith, long, hk)) in
            let lead : get_or above k (0, 0) ≡ (low_at es (k * size), first + k) = ap (λ (xs : List Entry). get_or xs k (0, 0)) is ∙ lead_is words level first size es b.sizes b.rises room b.some b.pieces k (0, 0) hk in
            let named : get_or above k (0, 0) ≡ (low t (first + k), first + k) = lead ∙ (λ j. (sym (b.pieces k hk).low j, first + k)) in
            let next : suc level ≡ l + 1 = omega (arith, same) in
            (up.0, subst (λ (m : ℕ). IsAt t m up.0) next up.1, subst (λ (x : Entry). Contains (entries_of (node_of ns up.0)) x) named up.2)

  pub built : (each ≡ 8) ⊎ (each ≡ 16) → Rises rows → (level size first : ℕ) (es : List Entry) → IsTree ns each rows level size first es → first + level_nodes (length es) size ≤ length ns → Built level size first es
  built sizes rises zero size first es tree room =
      let f = tree.1 in record {
        sizes = subst (λ (s : ℕ). (s ≡ 8) ⊎ (s ≡ 16)) (sym tree.0) sizes;
        rises = subst Rises (sym tree.2) rises;
        some = inl f;
        bottom = λ z. (f, tree.0, sym tree.2);
        tall = λ not. absurd (not refl);
        leading = λ below is. absurd (omega (arith, is));
        pieces = tree.3;
        lower = λ i h. absurd (omega (arith, h, f));
        above = λ l i h a. absurd (omega (arith, h, f));
        alone = λ l i j q less h hi hj ci cj. omega (arith, h, f);
        leafy = λ i h. absurd (omega (arith, h, f));
        inner = λ l i h a s. absurd (omega (arith, h, f));
        wide = λ j. level_nodes (length (tree.2 j)) (tree.0 j);
        under = λ below is. absurd (omega (arith, is));
        last = λ l i h a s. absurd (omega (arith, h, f));
        told = λ l i h a. absurd (omega (arith, h, f));
        clear = λ i h. absurd (omega (arith, h, f));
        zeroth = λ h. absurd (omega (arith, h, f));
        deep = omega arith;
      }
  built sizes rises (suc below) size first es tree room =
      let under = tree.1.2 in let start = tree.1.1 in let lower = tree.1.0 in
      let e = tree.1.5 in let is = tree.1.6 in
      let room' : start + level_nodes (length under) lower ≤ length ns = omega (arith, room, e) in
      let b = built sizes rises below lower start under tree.1.3 room' in
      let lead : LeadBelow t below es = subst (LeadBelow t below) (sym is) (leads_below words below start lower under b.sizes b.rises room' b.some b.pieces) in
      let cover = all_cover below lower start under b room' in
      let long : length es ≡ nodes_at (length rows) each below = ap (λ (xs : List Entry). length xs) is ∙ (length-leads start lower under (level_nodes (length under) lower) ∙ b.wide) in
      let up : Rises es = subst Rises (sym is) (lead_rises words below start lower under b.sizes b.rises room' b.some b.pieces) in
      let s = (level_some (length under) lower b.sizes).0 in record {
        sizes = inr tree.0;
        rises = subst Rises (sym is) (lead_rises words below start lower under b.sizes b.rises room' b.some b.pieces);
        some = inr lead.some;
        bottom = λ z. absurd (omega (arith, z));
        tall = λ not. (tree.0, subst (λ (f : ℕ). length rows ≤ f * each) (sym e) cover);
        leading = λ l x. let same : below ≡ l = omega (arith, x) in subst (λ (m : ℕ). LeadBelow t m es) same lead;
        pieces = tree.2;
        lower = λ i h. let x = all_nodes below lower start under b room' i (omega (arith, h, e)) in record { level = x.level; low_enough = let m = x.low_enough in omega (arith, m); at = x.at; node = x.node; version = x.version };
        above = λ l i h a. let x = all_above below lower start under b room' l i (omega (arith, h, e)) a in omega (arith, x);
        alone = λ l i j q less h hi hj ci cj. all_alone below lower start under b room' l i j q less (omega (arith, h, e)) hi hj ci cj;
        leafy = λ i h. all_leafy below lower start under b room' i (omega (arith, h, e));
        inner = λ l i h a s. all_inner below lower start under b room' l i (omega (arith, h, e)) a s;
        wide = λ j. level_nodes (long j) (tree.0 j);
        under = λ l x. let same : below ≡ l = omega (arith, x) in subst (λ (m : ℕ). length es ≡ nodes_at (length rows) each m) same long;
        last = λ l i h a s. all_last below lower start under b room' l i (omega (arith, h, e)) a s;
        told = λ l i h a. all_told below lower start under b room' size first es (inr tree.0) up room (inr lead.some) is tree.2 l i (omega (arith, h, e)) a;
        clear = λ i h. all_clear below lower start under b room' i (omega (arith, h, e));
        zeroth = λ h. all_zeroth below lower start under b room';
        deep = let d = b.deep in omega (arith, d, e, s);
      }
