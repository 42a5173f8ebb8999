-- The nodes of one level over its entries.
use Rattle.std.proofs.Common.{◌≡◌, ◌≢◌, ◌⊎◌, ℕ, ◌+◌, ◌-◌, ◌*◌, ◌<◌, ◌≤◌, List, length, get_or, take, drop, refl, sym, ap, ◌∙◌, subst, arith, inl, inr, ⊎_elim}
use Rattle.std.specs.Prelude.{min}
use Rattle.std.specs.Option.{ForSome}
use Rattle.std.specs.List.{All, Contains}
use Rattle.std.proofs.lemmas.Bool.{cases_eq}
use Rattle.std.proofs.lemmas.List.{get_or_default}
use Rattle.std.proofs.lemmas.List.FromFn.{get_or-map-range_with_len}
use Rattle.olfit_nodes.specs.declared.head.Link.{Link}
use Rattle.olfit_nodes.specs.Nodes.{Entry, count_of, entries_of, right_of, Rises}
use Rattle.olfit_nodes.proofs.Places.{length-entries}
use Rattle.olfit_rule.specs.declared.view.Moment.{Moment}
use Rattle.olfit_rule.specs.Maps.{map_of}
use Rattle.olfit_rule.specs.Tree.{node_of, low, Covers, IsAt, IsInner, IsNode}
use Rattle.olfit_rule.specs.Rule.{nodes_in, opening_of}
use Rattle.olfit_tree.specs.Build.{ArePieces, leads, level_nodes, low_at}
use Rattle.olfit_tree.proofs.Growing.{length-leads}
use Rattle.olfit_tree.proofs.Marks.{level_at}
use Rattle.olfit_tree.proofs.Rows.{first_is, key, key_less, low_key, low_less, low_most, low_zero, piece_at, piece_long, piece_map, piece_rises, right_is, right_some}
use Rattle.olfit_tree.proofs.Sizes.{apart, begins, follows, goes_on, next_start, piece_of, size_some}

-- what the entries of a level above the leaves lead to
pub record LeadBelow (t : Moment) (below : ℕ) (es : List Entry) : Type 0 where
  pub some : 0 < length es
  pub zero_first : key es 0 ≡ 0
  pub each : (k : ℕ) → k < length es → IsAt t below (get_or es k (0, 0)).1 × (low t (get_or es k (0, 0)).1 ≡ key es k)

module _ (words : List ℕ) (level first each : ℕ) (es : List Entry) (size : (each ≡ 8) ⊎ (each ≡ 16)) (rises : Rises es)
    (room : first + level_nodes (length es) each ≤ length (nodes_in words)) (some : (first ≡ 0) ⊎ (0 < length es))
    (pieces : ArePieces (nodes_in words) level first each es (level_nodes (length es) each)) where
  abbrev t : Moment
  t = opening_of words

  abbrev n : ℕ
  n = level_nodes (length es) each

  abbrev node : ℕ → List ℕ
  node i = node_of (nodes_in words) (first + i)

  none_of : (i m : ℕ) → i ≡ 0 → i * m ≡ 0
  none_of i m z = ap (λ (k : ℕ). k * m) z ∙ omega arith

  -- a node but the first one begins within the entries
  pub starts : (i : ℕ) → i < n → i * each ≢ 0 → i * each < length es
  starts i h not = ⊎_elim
      (λ (z : i ≡ 0). absurd (not (none_of i each z)))
      (λ (l : i * each < length es). l)
      (begins (length es) each size i h)

  pub count_is : (i : ℕ) → i < n → count_of (node i) ≡ min each (length es - i * each)
  count_is i h = sym (length-entries (node i)) ∙ (ap (λ (xs : List Entry). length xs) (pieces i h).rows ∙ piece_long es (i * each) each)

  filled : (i : ℕ) → i < n → i * each < length es → 0 < count_of (node i)
  filled i h l = let c = count_is i h in let s = (size_some (length es) each size).0 in omega (arith, c, s, l)

  counted : (i : ℕ) → i < n → (first + i ≡ 0) ⊎ (0 < count_of (node i))
  counted i h = ⊎_elim
      (λ (z : i ≡ 0). ⊎_elim
      (λ (f : first ≡ 0). inl (omega (arith, f, z)))
      (λ (l : 0 < length es). inr (filled i h (let m = none_of i each z in omega (arith, m, l))))
      some)
      (λ (l : i * each < length es). inr (filled i h l))
      (begins (length es) each size i h)

  pub row_at : (i : ℕ) → i < n → IsAt t level (first + i)
  row_at i h = let within : first + i < length (nodes_in words) = omega (arith, room, h) in
      (within, let l = level_at (nodes_in words) (first + i) within (counted i h) in let p = (pieces i h).height in omega (arith, l, p))

  covers_low : (i q : ℕ) → i < n → Covers t (first + i) q → low_at es (i * each) ≤ q
  covers_low i q h c = let a = c.above in let l = (pieces i h).low in omega (arith, a, l)

  covers_below : (i q : ℕ) → i < n → Covers t (first + i) q → i * each + each < length es → q < key es (i * each + each)
  covers_below i q h c more = c.below (record { key = key es (i * each + each); node = first + i + 1 }) ((pieces i h).right ∙ right_is es (i * each + each) (first + i + 1) more)

  -- the entries of a node belong there
  inside_row : (i k : ℕ) → i < n → k < each → i * each + k < length es → Covers t (first + i) (key es (i * each + k))
  inside_row i k h small within = record {
    above = let l = (pieces i h).low in let m = low_most es (i * each) (i * each + k) rises (omega arith) within in omega (arith, l, m);
    below = λ link is.
        let r = right_some es (i * each + each) (first + i + 1) link (sym (pieces i h).right ∙ is) in
        let e = r.1 in let s = key_less es (i * each + k) (i * each + each) rises (omega (arith, small)) r.0 in omega (arith, e, s);
  }

  all_inside : (i : ℕ) → i < n → All (λ (e : Entry). Covers t (first + i) e.0) (entries_of (node i))
  all_inside i h = subst (All (λ (e : Entry). Covers t (first + i) e.0)) (sym (pieces i h).rows) so
    where
      so : All (λ (e : Entry). Covers t (first + i) e.0) (take each (drop (i * each) es))
      so k d within =
          let l = piece_long es (i * each) each in
          subst (λ (e : Entry). Covers t (first + i) e.0) (sym (piece_at es (i * each) each k d (omega (arith, l, within))
          ∙ default es (i * each + k) d (omega (arith, l, within)))) (inside_row i k h (omega (arith, l, within)) (omega (arith, l, within)))
        where
          default : (xs : List Entry) (j : ℕ) (d : Entry) → j < length xs → get_or xs j d ≡ get_or xs j (0, 0)
          default xs j d h = get_or_default xs j d (0, 0) h

  -- the low key of a node but the first
  low_later : (i : ℕ) → i < n → i * each ≢ 0 → low t (first + i) ≡ key es (i * each)
  low_later i h not = (pieces i h).low ∙ low_key es (i * each) not

  rights : (i : ℕ) → i < n → ForSome (right_of (node i)) (λ (link : Link). IsAt t level link.node × (low t link.node ≡ link.key) × (low t (first + i) < link.key))
  rights i h link is =
      let r = right_some es (i * each + each) (first + i + 1) link (sym (pieces i h).right ∙ is) in
      let more = follows (length es) each size i r.0 in
      let start = next_start (length es) each size i in
      let positive = (size_some (length es) each size).0 in
      let at : first + (i + 1) ≡ link.node = (let e = r.2 in omega (arith, e)) in
      let lows : low t (first + (i + 1)) ≡ link.key = low_later (i + 1) more (λ z. omega (arith, z, start, positive)) ∙ (ap (key es) start ∙ r.1) in (
        subst (IsAt t level) at (row_at (i + 1) more),
        subst (λ (j : ℕ). low t j ≡ link.key) at lows,
        let l = (pieces i h).low in let s = low_less es (i * each) (i * each + each) rises (omega (arith, positive)) r.0 in let e = r.1 in omega (arith, l, s, e),
      )

  -- a key belongs into one of them
  pub one_covers : (i j q : ℕ) → i < j → j < n → Covers t (first + i) q → Covers t (first + j) q → ⊥
  one_covers i j q less h ci cj =
      let more = goes_on (length es) each size i (omega (arith, less, h)) in
      let below = covers_below i q (omega (arith, less, h)) ci more in
      let positive = (size_some (length es) each size).0 in
      let far = apart (length es) each size i j less in
      let not : j * each ≢ 0 = λ z. omega (arith, z, far, positive) in
      let inside = starts j h not in
      let above = covers_low j q h cj in let l = low_key es (j * each) not in
      ⊎_elim
      (λ (e : i * each + each ≡ j * each). let k = ap (key es) e in omega (arith, below, above, l, k))
      (λ (other : i * each + each ≢ j * each). let k = key_less es (i * each + each) (j * each) rises (omega (arith, far, other)) inside in omega (arith, below, above, l, k))
      (cases_eq (i * each + each) (j * each))

  pub row_node : (rows : List Entry) (i : ℕ) → i < n → (level ≡ 0 → rows ≡ es) → ((below : ℕ) → level ≡ below + 1 → LeadBelow t below es) → IsNode rows t level (first + i)
  row_node rows i h leaves under = record {
    height = (pieces i h).height;
    few = let c = count_is i h in let s = (size_some (length es) each size).1 in omega (arith, c, s);
    rises = subst Rises (sym (pieces i h).rows) (piece_rises es (i * each) each rises);
    inside = all_inside i h;
    right = rights i h;
    leaf = λ z q c. ap (λ (xs : List Entry). map_of xs q) (pieces i h).rows
        ∙ (piece_map es (i * each) each q rises (covers_low i q h c) (starts i h) (covers_below i q h c)
        ∙ ap (λ (xs : List Entry). map_of xs q) (sym (leaves z)));
    inner = λ below is. subst (IsInner t below (first + i)) (sym (pieces i h).rows) (inner_row below (under below is));
  }
    where
      inner_row : (below : ℕ) → LeadBelow t below es → IsInner t below (first + i) (take each (drop (i * each) es))
      inner_row below u =
          let positive = (size_some (length es) each size).0 in
          let l = piece_long es (i * each) each in
          let begun : i * each < length es = ⊎_elim (λ (z : i * each ≡ 0). let s = u.some in omega (arith, z, s)) (λ (not : i * each ≢ 0). starts i h not) (cases_eq (i * each) 0) in record {
            first = first_is (take each (drop (i * each) es)) (λ (e : Entry). e.0 ≡ low t (first + i)) (λ _.
                let e = ap (λ (x : Entry). x.0) (piece_at es (i * each) each 0 (0, 0) positive) in let z = ap (key es) (plus_none (i * each)) in let p = (pieces i h).low in ⊎_elim
                (λ (zero : i * each ≡ 0). let lo = low_zero es (i * each) zero in let ff = ap (key es) zero in let f = u.zero_first in omega (arith, e, z, p, lo, ff, f))
                (λ (not : i * each ≢ 0). let lo = low_key es (i * each) not in omega (arith, e, z, p, lo))
                (cases_eq (i * each) 0));
            some = omega (arith, l, positive, begun);
            children = λ k d within.
                subst (λ (e : Entry). IsAt t below e.1 × (low t e.1 ≡ e.0))
                (sym (piece_at es (i * each) each k d (omega (arith, l, within)) ∙ get_or_default es (i * each + k) d (0, 0) (omega (arith, l, within))))
                (u.each (i * each + k) (omega (arith, l, within)));
          }
        where
          plus_none : (m : ℕ) → m + 0 ≡ m
          plus_none m = omega arith

  -- each entry of the level lies in one of them
  pub entry_in : (k : ℕ) → k < length es → (above : ℕ) × IsAt t level above × Contains (entries_of (node_of (nodes_in words) above)) (get_or es k (0, 0))
  entry_in k h =
      let p = piece_of (length es) each size k h in
      let j : ℕ = p.0 in let inside = p.1 in let start = p.2 in let end = p.3 in
      let e : Entry = get_or es k (0, 0) in
      let long = piece_long es (j * each) each in
      let here : j * each + (k - j * each) ≡ k = omega (arith, start) in
      let there : Contains (take each (drop (j * each) es)) e = (
        k - j * each,
        omega (arith, long, start, end, h),
        piece_at es (j * each) each (k - j * each) e (omega (arith, start, end)) ∙ (ap (λ (i : ℕ). get_or es i e) here ∙ get_or_default es k e (0, 0) h),
      ) in
      (first + j, row_at j inside, subst (λ (xs : List Entry). Contains xs e) (sym (pieces j inside).rows) there)

  -- the entries that lead to them
  pub lead_is : (k : ℕ) (d : Entry) → k < n → get_or (leads first each es n) k d ≡ (low_at es (k * each), first + k)
  lead_is k d h = get_or-map-range_with_len (λ (i : ℕ). (low_at es (i * each), first + i)) 0 n k k d h (omega arith)

  pub lead_rises : Rises (leads first each es n)
  lead_rises i j d less inside =
      let l = length-leads first each es n in
      let hj : j < n = omega (arith, l, inside) in let hi : i < n = omega (arith, less, hj) in
      let positive = (size_some (length es) each size).0 in
      let far = apart (length es) each size i j less in
      let not : j * each ≢ 0 = λ z. omega (arith, z, far, positive) in
      let s = low_less es (i * each) (j * each) rises (omega (arith, far, positive)) (starts j hj not) in
      let k = low_key es (j * each) not in
      let x = ap (λ (e : Entry). e.0) (lead_is i d hi) in let y = ap (λ (e : Entry). e.0) (lead_is j d hj) in omega (arith, s, k, x, y)

  pub leads_below : LeadBelow t level (leads first each es n)
  leads_below =
      let l = length-leads first each es n in
      let positive : 0 < n = omega arith in record {
        some = omega (arith, l, positive);
        zero_first = ap (λ (e : Entry). e.0) (lead_is 0 (0, 0) positive) ∙ low_zero es (0 * each) (none_of 0 each refl);
        each = λ k h. let hk : k < n = omega (arith, l, h) in
            subst (λ (e : Entry). IsAt t level e.1 × (low t e.1 ≡ e.0)) (sym (lead_is k (0, 0) hk)) (row_at k hk, (pieces k hk).low);
      }
