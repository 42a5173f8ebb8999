-- A tree that grows level by level.
use Rattle.std.proofs.Common.{◌≡◌, ◌⊎◌, ℕ, suc, ◌+◌, ◌-◌, ◌*◌, ◌<◌, ◌≤◌, ◌^◌, List, [], ◌++◌, length, refl, sym, ap, ◌∙◌, subst, arith, inr, append_assoc}
use Rattle.std.proofs.lemmas.List.FromFn.{length-map-range_with_len}
use Rattle.olfit_nodes.specs.Nodes.{Entry}
use Rattle.olfit_rule.specs.Rule.{nodes_in}
use Rattle.olfit_tree.specs.Build.{ArePieces, HasPut, HoldsTree, IsTree, leads, level_nodes, low_at, nodes_above, nodes_with}
use Rattle.olfit_tree.proofs.Sizes.{above_none, above_step, level_some}

-- the tree up to the level below this one, whose nodes these entries lead to
pub record Grows (rows : List Entry) (each level : ℕ) (entries : List Entry) (words : List ℕ) : Type 0 where
  pub below : ℕ
  pub size : ℕ
  pub first : ℕ
  pub under : List Entry
  pub next : level ≡ suc below
  pub sizes : (size ≡ 8) ⊎ (size ≡ 16)
  pub entries_are : entries ≡ leads first size under (level_nodes (length under) size)
  pub long : length words ≡ (first + level_nodes (length under) size) * 64
  pub tree : (rest : List ℕ) → IsTree (nodes_in (words ++ rest)) each rows below size first under
  pub count : first + level_nodes (length under) size + nodes_above (level_nodes (length under) size) (level_nodes (length under) size) ≡ nodes_with (length rows) each
  pub low : below ≤ first

pub length-leads : (first size : ℕ) (under : List Entry) (n : ℕ) → length (leads first size under n) ≡ n
length-leads first size under n = length-map-range_with_len (λ (i : ℕ). (low_at under (i * size), first + i)) 0 n

module _ (rows : List Entry) (each : ℕ) where
  pub grows_first : (first : ℕ) (entries : List Entry) (old new : List ℕ) → (each ≡ 8) ⊎ (each ≡ 16) → old ≡ [] → HasPut 0 first each rows old new (level_nodes (length rows) each)
      → entries ≡ leads first each rows (level_nodes (length rows) each) → Grows rows each 1 entries new
  grows_first first entries old new sizes none put is =
      let f = put.from in let z : length old ≡ 0 = ap (λ (w : List ℕ). length w) none in
      let at : first ≡ 0 = omega (arith, f, z) in record {
        below = 0;
        size = each;
        first = first;
        under = rows;
        next = refl;
        sizes = sizes;
        entries_are = is;
        long = put.long;
        tree = λ rest. (refl, at, refl, put.pieces rest);
        count = omega (arith, at);
        low = omega arith;
      }

  module _ (level : ℕ) (entries : List Entry) (words : List ℕ) (g : Grows rows each level entries words) where
    abbrev n : ℕ
    n = level_nodes (length g.under) g.size

    pub entries_long : length entries ≡ n
    entries_long = ap (λ (xs : List Entry). length xs) g.entries_are ∙ length-leads g.first g.size g.under n

    pub above_is : 1 < length entries → nodes_above n n ≡ level_nodes (length entries) 16 + nodes_above (level_nodes (length entries) 16) (level_nodes (length entries) 16)
    above_is more = subst (λ (m : ℕ). nodes_above m m ≡ level_nodes (length entries) 16 + nodes_above (level_nodes (length entries) 16) (level_nodes (length entries) 16)) entries_long (above_step (length entries) more)

    pub grows_more : (first : ℕ) (above : List Entry) (new : List ℕ) → 1 < length entries → HasPut level first 16 entries words new (level_nodes (length entries) 16)
        → above ≡ leads first 16 entries (level_nodes (length entries) 16) → Grows rows each (level + 1) above new
    grows_more first above new more put is =
        let f = put.from in let l = g.long in
        let at : first ≡ g.first + n = omega (arith, f, l) in record {
          below = suc g.below;
          size = 16;
          first = first;
          under = entries;
          next = let x = g.next in omega (arith, x);
          sizes = inr refl;
          entries_are = is;
          long = put.long;
          tree = λ rest. (
            refl,
            (
              g.size,
              g.first,
              g.under,
              subst (λ (w : List ℕ). IsTree (nodes_in w) each rows g.below g.size g.first g.under) (sym (ap (λ (w : List ℕ). w ++ rest) put.kept.1 ∙ append_assoc words put.kept.0 rest)) (g.tree (put.kept.0 ++ rest)),
              (let e = entries_long in omega (arith, e, more)),
              at,
              g.entries_are,
            ),
            subst (λ (m : ℕ). ArePieces (nodes_in (new ++ rest)) m first 16 entries (level_nodes (length entries) 16)) g.next (put.pieces rest),
          );
          count = let a = above_is more in let k = g.count in omega (arith, a, k, at);
          low = let k = g.low in let s = (level_some (length g.under) g.size g.sizes).0 in omega (arith, k, s, at);
        }

    pub grows_end : length entries ≤ 1 → HoldsTree words each (nodes_with (length rows) each) rows
    grows_end few =
        let e = entries_long in let s = (level_some (length g.under) g.size g.sizes).0 in
        let one : n ≡ 1 = omega (arith, e, s, few) in
        let z = above_none n (omega (arith, one)) in
        let k = g.count in
        let last : nodes_with (length rows) each - 1 ≡ g.first = omega (arith, k, z, one) in record {
          long = let l = g.long in omega (arith, l, k, z);
          count = refl;
          tree = (g.below, g.size, g.under, one, λ rest. subst (λ (f : ℕ). IsTree (nodes_in (words ++ rest)) each rows g.below g.size f g.under) (sym last) (g.tree rest));
        }

    -- there is room for the next level
    pub room_more : 1 < length entries → nodes_with (length rows) each < 2 ^ 32 → (x : ℕ) × (length words ≡ x * 64) × (x + level_nodes (length entries) 16 < 2 ^ 32)
    room_more more few = (g.first + n, g.long, let a = above_is more in let k = g.count in omega (arith, a, k, few))

    pub few_entries : nodes_with (length rows) each < 2 ^ 32 → (length entries < 2 ^ 32) × (level < 2 ^ 32)
    few_entries few = let e = entries_long in let k = g.count in let l = g.low in let x = g.next in let s = (level_some (length g.under) g.size g.sizes).0 in (omega (arith, e, k, few), omega (arith, k, l, x, s, few))

-- each level has fewer nodes than the one below
pub fewer : (first : ℕ) (entries above : List Entry) → 1 < length entries → above ≡ leads first 16 entries (level_nodes (length entries) 16) → length above < length entries
fewer first entries above more is = let e = ap (λ (xs : List Entry). length xs) is in let l = length-leads first 16 entries (level_nodes (length entries) 16) in omega (arith, e, l, more)
