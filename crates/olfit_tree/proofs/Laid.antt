-- What the writer of an index knows once it is built.
use Rattle.std.proofs.Common.{◌≡◌, ◌⊎◌, ℕ, ◌+◌, ◌-◌, ◌*◌, ◌<◌, ◌≤◌, ◌^◌, List, [], ◌∷◌, ◌++◌, length, take, drop, replicate, sym, ap, ◌∙◌, subst, arith}
use Rattle.std.specs.Prelude.{max}
use Rattle.std.proofs.lemmas.List.{length-map}
use Rattle.atomic_table.specs.Seated.{TableId}
use Rattle.atomic_table.specs.declared.shared.Seat.{Seat}
use Rattle.key_space.specs.declared.key.Key.{Key}
use Rattle.olfit_nodes.specs.Nodes.{Entry, count_of, Rises}
use Rattle.olfit_rule.specs.declared.view.View.{View}
use Rattle.olfit_rule.specs.Rule.{CanOpen, IsAtRest, opener, nodes_in}
use Rattle.olfit_rule.specs.Tree.{node_of, Good, leaf_entries}
use Rattle.olfit_walk.specs.Looks.{entries_of_keys}
use Rattle.olfit_change.specs.Room.{IsPaid}
use Rattle.olfit_change.specs.States.{HasLowVersions, IsFreeFrom, IsTold, IsClean, IsBetweenCalls}
use Rattle.olfit_tree.specs.Build.{HoldsTree, nodes_at, nodes_over, nodes_with, per_leaf}
use Rattle.olfit_tree.specs.Index.{IsNew, IsPacked}
use Rattle.olfit_tree.proofs.Opened.{base_is, can_open, clean_all, last_rest, new_all, told_all, free_from, good, inner_full, leaf_rows, long, low_versions, nodes_long, paid, rest}
use Rattle.olfit_tree.proofs.Sizes.{over_few, room_for, size_of}

module _ (wanted nodes : ℕ) (sorted : List (Key × ℕ)) (each : ℕ) (some : 0 < wanted) (few : length sorted < 2 ^ 32) (small : wanted < 2 ^ 32) (limit : nodes ≡ max wanted (nodes_over (length sorted)))
    (size : each ≡ per_leaf wanted (length sorted)) where
  pub few_nodes : (length sorted < 2 ^ 32) × (nodes < 2 ^ 32)
  few_nodes = (few, let o = over_few (length sorted) few in omega (arith, o, limit, small))

  pub room_is : nodes_with (length sorted) each ≤ nodes
  room_is = let r = room_for wanted (length sorted) some in let e = ap (nodes_with (length sorted)) size in omega (arith, r, e, limit)

  sizes : (each ≡ 8) ⊎ (each ≡ 16)
  sizes = subst (λ (s : ℕ). (s ≡ 8) ⊎ (s ≡ 16)) (sym size) (size_of wanted (length sorted))

  abbrev rows : List Entry
  rows = entries_of_keys sorted

  rows_long : length rows ≡ length sorted
  rows_long = length-map sorted _

  module _ (rises : Rises rows) (words : List ℕ) (used : ℕ) (laid : (tree : List ℕ) × HoldsTree tree each used rows × (words ≡ tree ++ replicate ((nodes - used) * 64) 0 ++ (used - 1) ∷ [])) where
    fits : used ≤ nodes
    fits = let c = laid.1.count in let r = room_is in let e = ap (λ (n : ℕ). nodes_with n each) rows_long in omega (arith, c, r, e)

    pub laid_opens : CanOpen words
    laid_opens = can_open words laid.0 nodes used each rows sizes rises laid.1 fits laid.2

    pub laid_long : length words ≡ nodes * 64 + 1
    laid_long = long words laid.0 nodes used each rows sizes rises laid.1 fits laid.2

    pub laid_base : leaf_entries (nodes_in words) ≡ rows
    laid_base = base_is words laid.0 nodes used each rows sizes rises laid.1 fits laid.2

    module _ (v : View) (is : v ≡ opener words) where
      pub base_rows : v.base ≡ rows
      base_rows = ap (λ (w : View). w.base) is ∙ laid_base

      pub built_is : length sorted ≡ length v.base
      built_is = let e = ap (λ (xs : List Entry). length xs) base_rows in let l = rows_long in omega (arith, e, l)

      pub paid_is : IsPaid used (length sorted + 0) v.seen
      paid_is = subst (λ (w : View). IsPaid used (length sorted + 0) w.seen) (sym is)
          (subst (λ (n : ℕ). IsPaid used n (opener words).seen) (let l = rows_long in omega (arith, l)) (paid words laid.0 nodes used each rows sizes rises laid.1 fits laid.2))

      pub works_is : (table : TableId) (seat : Seat ℕ View) → seat.table_id ≡ table → seat.me.0 ≡ v → table.words ≡ nodes * 64 + 1 → IsBetweenCalls table nodes used seat
      works_is table seat own me sized =
          let m = me ∙ is in record {
            ready = record {
              table_is = own;
              rest = subst IsAtRest (sym m) (rest words laid.0 nodes used each rows sizes rises laid.1 fits laid.2);
              good = subst (λ (w : View). Good w.base w.seen) (sym m) (good words laid.0 nodes used each rows sizes rises laid.1 fits laid.2);
              count = ap (λ (w : View). length w.seen.image) m ∙ nodes_long words laid.0 nodes used each rows sizes rises laid.1 fits laid.2;
              sized = (omega (arith, some, limit), few_nodes.1, sized);
            };
            free = subst (λ (w : View). IsFreeFrom used w.seen) (sym m) (free_from words laid.0 nodes used each rows sizes rises laid.1 fits laid.2);
            told = subst (λ (w : View). IsTold w.seen) (sym m) (told_all words laid.0 nodes used each rows sizes rises laid.1 fits laid.2);
            clean = subst (λ (w : View). IsClean w.seen) (sym m) (clean_all words laid.0 nodes used each rows sizes rises laid.1 fits laid.2);
            versions = subst (λ (w : View). HasLowVersions w.seen) (sym m) (low_versions words laid.0 nodes used each rows sizes rises laid.1 fits laid.2);
          }

      pub told_is : IsTold v.seen
      told_is = subst (λ (w : View). IsTold w.seen) (sym is) (told_all words laid.0 nodes used each rows sizes rises laid.1 fits laid.2)

      pub clean_is : IsClean v.seen
      clean_is = subst (λ (w : View). IsClean w.seen) (sym is) (clean_all words laid.0 nodes used each rows sizes rises laid.1 fits laid.2)

      pub new_is : IsNew v.seen
      new_is = subst (λ (w : View). IsNew w.seen) (sym is) (new_all words laid.0 nodes used each rows sizes rises laid.1 fits laid.2)

      pub packed_is : (table : TableId) → IsPacked wanted (record { table = table; base = v.base; now = v.seen; used = used; inserts = 0 })
      packed_is table = subst (λ (w : View). IsPacked wanted (record { table = table; base = w.base; now = w.seen; used = used; inserts = 0 })) (sym is) record {
        leaves = λ i h. leaf_rows words laid.0 nodes used each rows sizes rises laid.1 fits laid.2 i h
            ∙ (λ j. take (per j) (drop (i * per j) (sym laid_base j)));
        inner = λ l i h s. inner_full words laid.0 nodes used each rows sizes rises laid.1 fits laid.2 l i h s;
        last = λ l i h s. subst (λ (n : ℕ). 16 * (n - 1) + count_of (node_of (nodes_in words) i) ≡ nodes_at (length (leaf_entries (nodes_in words))) (per_leaf wanted (length (leaf_entries (nodes_in words)))) l) (sized (l + 1))
            (subst (λ (n : ℕ). 16 * (nodes_at (length rows) each (l + 1) - 1) + count_of (node_of (nodes_in words) i) ≡ n) (sized l) (last_rest words laid.0 nodes used each rows sizes rises laid.1 fits laid.2 l i h s));
      }
        where
          per : each ≡ per_leaf wanted (length (leaf_entries (nodes_in words)))
          per = size ∙ ap (per_leaf wanted) (sym (ap (λ (xs : List Entry). length xs) laid_base ∙ rows_long))

          sized : (l : ℕ) → nodes_at (length rows) each l ≡ nodes_at (length (leaf_entries (nodes_in words))) (per_leaf wanted (length (leaf_entries (nodes_in words)))) l
          sized l = λ j. nodes_at (length (sym laid_base j)) (per j) l
