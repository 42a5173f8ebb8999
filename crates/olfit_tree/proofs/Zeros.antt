-- Words that are all zero are those of an index with no key.
use Rattle.std.proofs.Common.{◌≡◌, ℕ, zero, suc, ◌+◌, ◌-◌, ◌*◌, ◌/◌, ◌%◌, ◌<◌, ◌≤◌, Bool, true, false, cond, eqb, List, [], ◌∷◌, ◌++◌, length, get_or, map, take, drop, replicate, Some, None, sym, refl, ap, ◌∙◌, subst, arith, inl, ⊎_elim, get_or-drop, length-drop}
use Rattle.std.specs.Prelude.{slice_index, sum_by}
use Rattle.std.specs.Option.{ForSome}
use Rattle.std.specs.List.{All, range_with_len}
use Rattle.std.proofs.lemmas.Bool.{cases_lt}
use Rattle.std.proofs.lemmas.List.{length-map}
use Rattle.std.proofs.lemmas.List.Sums.{sum_by-cons}
use Rattle.olfit_nodes.specs.declared.head.Link.{Link}
use Rattle.olfit_nodes.specs.Nodes.{Entry, number_of, entry_at, entries_of, count_of, level_of, low_of, right_of, IsClear, Rises}
use Rattle.olfit_rule.specs.declared.view.Moment.{Moment}
use Rattle.olfit_rule.specs.Maps.{map_of}
use Rattle.olfit_rule.specs.Tree.{node_of, Good, Covers, IsAt, IsNode, leaf_entries, levels_of, mark_of}
use Rattle.olfit_rule.specs.Rule.{CanOpen, IsAtRest, opener, opening_of}
use Rattle.olfit_rule.proofs.Opens.{length-nodes_in, length-part, node_in}
use Rattle.olfit_change.specs.Room.{weight, IsPaid}
use Rattle.olfit_change.specs.States.{IsFreeFrom, IsTold, IsClean, HasLowVersions}
use Rattle.olfit_tree.specs.Index.{IsNew}
use Rattle.olfit_change.proofs.Weights.{weight_none}

abbrev pub Zero : List ℕ → Type 0
Zero ws = (k : ℕ) → get_or ws k 0 ≡ 0

zeros : (n : ℕ) → Zero (replicate n 0)
zeros zero k = refl
zeros (suc n) zero = refl
zeros (suc n) (suc k) = zeros n k

zero_drop : (n : ℕ) (ws : List ℕ) → Zero ws → Zero (drop n ws)
zero_drop n ws z k = get_or-drop n ws k 0 ∙ z (n + k)

zero_take : (n : ℕ) (ws : List ℕ) → Zero ws → Zero (take n ws)
zero_take zero ws z k = refl
zero_take (suc n) [] z k = refl
zero_take (suc n) (w ∷ ws) z zero = z 0
zero_take (suc n) (w ∷ ws) z (suc k) = zero_take n ws (λ j. z (suc j)) k

-- what such a node is

pub zero_count : (ws : List ℕ) → Zero ws → count_of ws ≡ 0
zero_count ws z = ap (λ (x : ℕ). x % 65536) (z 6)

zero_level : (ws : List ℕ) → Zero ws → level_of ws ≡ 0
zero_level ws z = ap (λ (x : ℕ). x / 65536) (z 6)

zero_low : (ws : List ℕ) → Zero ws → low_of ws ≡ 0
zero_low ws z = λ j. number_of (z 1 j) (z 2 j)

zero_right : (ws : List ℕ) → Zero ws → right_of ws ≡ None
zero_right ws z = ap (λ (x : ℕ). cond (eqb x 0) None (Some record { key = number_of (slice_index ws 3) (slice_index ws 4); node = x - 1 })) (z 5)

pub zero_entries : (ws : List ℕ) → Zero ws → entries_of ws ≡ []
zero_entries ws z = ap (λ (n : ℕ). map (entry_at ws) (range_with_len 0 n)) (zero_count ws z)

zero_mark : (ws : List ℕ) → Zero ws → mark_of ws ≡ 0
zero_mark ws z = ap (λ (n : ℕ). cond (eqb n 0) 0 (level_of ws + 1)) (zero_count ws z)

zeros_of : (n : ℕ) (ws : List ℕ) → length ws ≡ n → Zero ws → ws ≡ replicate n 0
zeros_of zero [] long z = refl
zeros_of zero (w ∷ ws) long z = absurd (omega (arith, long))
zeros_of (suc n) [] long z = absurd (omega (arith, long))
zeros_of (suc n) (w ∷ ws) long z = λ j. z 0 j ∷ zeros_of n ws (omega (arith, long)) (λ k. z (suc k)) j

pub zero_clear : (ws : List ℕ) → length ws ≡ 64 → Zero ws → IsClear ws
zero_clear ws long z = zeros_of 9 (drop 55 ws) (let d = length-drop 55 ws in omega (arith, d, long)) (zero_drop 55 ws z)

-- lists of such nodes

abbrev pub Zeros : List (List ℕ) → Type 0
Zeros ns = (i : ℕ) → Zero (node_of ns i)

tail : (w : List ℕ) (ns : List (List ℕ)) → Zeros (w ∷ ns) → Zeros ns
tail w ns z i = z (suc i)

no_entries : (ns : List (List ℕ)) → Zeros ns → leaf_entries ns ≡ []
no_entries [] z = refl
no_entries (w ∷ ns) z = (λ j. cond (eqb (level_of w) 0) (zero_entries w (z 0) j) [] ++ no_entries ns (tail w ns z) j) ∙ nothing (eqb (level_of w) 0)
  where
    nothing : (b : Bool) → cond {A = List Entry} b [] [] ++ [] ≡ []
    nothing true = refl
    nothing false = refl

pub no_weights : (ns : List (List ℕ)) → Zeros ns → sum_by weight ns ≡ 0
no_weights [] z = refl
no_weights (w ∷ ns) z =
    let s = sum_by-cons weight w ns in let c = zero_count w (z 0) in let e = weight_none w (omega (arith, c)) in let r = no_weights ns (tail w ns z) in omega (arith, s, e, r)

no_marks : (ns : List (List ℕ)) → Zeros ns → (i : ℕ) → slice_index (map mark_of ns) i ≡ 0
no_marks [] z i = refl
no_marks (w ∷ ns) z zero = zero_mark w (z 0)
no_marks (w ∷ ns) z (suc i) = no_marks ns (tail w ns z) i

first_level : (ns : List (List ℕ)) → Zeros ns → 0 < length ns → slice_index (levels_of ns) 0 ≡ 1
first_level [] z some = absurd (omega arith)
first_level (w ∷ ns) z some = ap (λ (x : ℕ). x + 1) (zero_level w (z 0))

other_levels : (ns : List (List ℕ)) → Zeros ns → (i : ℕ) → slice_index (levels_of ns) (suc i) ≡ 0
other_levels [] z i = refl
other_levels (w ∷ ns) z i = no_marks ns (tail w ns z) i

pub levels_long : (ns : List (List ℕ)) → length (levels_of ns) ≡ length ns
levels_long [] = refl
levels_long (w ∷ ns) = ap suc (length-map ns mark_of)

module _ (words : List ℕ) (n : ℕ) (all : Zero words) (long : length words ≡ n * 64 + 1) (some : 0 < n) where
  abbrev t : Moment
  t = opening_of words

  pub nodes_long : length t.image ≡ n
  nodes_long = length-nodes_in words n long

  each : Zeros t.image
  each i = ⊎_elim
      (λ (inside : i < n). subst Zero (sym (node_in words n i long inside)) (zero_take 64 (drop (i * 64) words) (zero_drop (i * 64) words all)))
      (λ (outside : n ≤ i). subst Zero (sym (past t.image i (omega (arith, outside, nodes_long)))) (λ k. refl))
      (cases_lt i n)
    where
      past : (ns : List (List ℕ)) (i : ℕ) → length ns ≤ i → node_of ns i ≡ []
      past [] i h = refl
      past (w ∷ ns) zero h = absurd (omega arith)
      past (w ∷ ns) (suc i) h = past ns i (omega arith)

  root_is : t.root ≡ 0
  root_is = all (length words / 64 * 64)

  at_first : IsAt t 0 0
  at_first = (omega (arith, nodes_long, some), first_level t.image each (omega (arith, nodes_long, some)))

  only : (l i : ℕ) → IsAt t l i → (i ≡ 0) × (l ≡ 0)
  only l zero h = let a = h.1 in let b = at_first.1 in (refl, omega (arith, a, b))
  only l (suc i) h = let a = h.1 in let b = other_levels t.image each i in absurd (omega (arith, a, b))

  pub base_is : leaf_entries t.image ≡ []
  base_is = no_entries t.image each

  no_right : (P : Link → Type 0) (i : ℕ) → ForSome (right_of (node_of t.image i)) P
  no_right P i link is = absurd (lost link (sym (zero_right (node_of t.image i) (each i)) ∙ is))
    where
      lost : (m : Link) → None ≡ Some m → ⊥
      lost m e = cc

  node_first : IsNode (leaf_entries t.image) t 0 0
  node_first =
      let e = zero_entries (node_of t.image 0) (each 0) in record {
        height = zero_level (node_of t.image 0) (each 0);
        few = let c = zero_count (node_of t.image 0) (each 0) in omega (arith, c);
        rises = subst Rises (sym e) (λ i j d lt inside. absurd (omega arith));
        inside = subst (All (λ (x : Entry). Covers t 0 x.0)) (sym e) (λ i d h. absurd (omega arith));
        right = no_right _ 0;
        leaf = λ z q c. ap (λ (xs : List Entry). map_of xs q) (e ∙ sym base_is);
        inner = λ b is. absurd (omega (arith, is));
      }

  pub good_zeros : Good (leaf_entries t.image) t
  good_zeros = record {
    sized = levels_long t.image;
    first = (at_first, zero_low (node_of t.image 0) (each 0));
    root = (0, subst (IsAt t 0) (sym root_is) at_first, zero_low (node_of t.image t.root) (each t.root));
    nodes = λ l i h. let o = only l i h in subst (λ (m : ℕ). IsNode (leaf_entries t.image) t m i) (sym o.1) (subst (IsNode (leaf_entries t.image) t 0) (sym o.0) node_first);
    alone = λ l i j q hi hj ci cj. (only l i hi).0 ∙ sym (only l j hj).0;
    legal = tt;
  }

  pub rest_zeros : IsAtRest (opener words)
  rest_zeros = record {
    writes = refl;
    same = refl;
    wide = λ i h. let inside : i < n = omega (arith, h, nodes_long) in ap length (node_in words n i long inside) ∙ length-part words n i long inside;
    even = λ i h. ap (λ (x : ℕ). x % 2) (each i 0);
  }

  pub can_open : CanOpen words
  can_open = record { count = (n, long); rest = rest_zeros; good = good_zeros }

  root_level : slice_index t.levels t.root ≡ 1
  root_level = ap (λ (r : ℕ). slice_index t.levels r) root_is ∙ at_first.1

  pub free_zeros : IsFreeFrom 1 t
  free_zeros = record {
    most = (omega arith, omega (arith, nodes_long, some));
    linked = λ l i h. let o = (only l i h).0 in omega (arith, o);
    fresh = λ i h. each i 0;
    top = λ l i h. let o = (only l i h).1 in let r = root_level in omega (arith, o, r);
    tall = let r = root_level in omega (arith, r);
  }

  pub told_zeros : IsTold t
  told_zeros l i h = inl ((only l i h).0 ∙ sym root_is)

  pub clean_zeros : IsClean t
  clean_zeros i h = zero_clear (node_of t.image i) (rest_zeros.wide i h) (each i)

  pub new_zeros : IsNew t
  new_zeros i = each i 0

  pub low_zeros : HasLowVersions t
  low_zeros i = let z = each i 0 in omega (arith, z)

  pub paid_zeros : IsPaid 1 0 t
  paid_zeros = let w = no_weights t.image each in record { nodes = omega (arith, w); leaf = λ _. omega (arith, w) }

pub zeros_are : (n : ℕ) (words : List ℕ) → words ≡ replicate n 0 → (k : ℕ) → get_or words k 0 ≡ 0
zeros_are n words is = subst Zero (sym is) (zeros n)
