-- The rule holds at the opening.
use Rattle.std.proofs.Common.{◌≡◌, ℕ, zero, suc, ◌+◌, ◌*◌, ◌/◌, ◌<◌, List, [], ◌∷◌, length, get_or, drop, refl, sym, ap, ◌∙◌, subst, arith, le_refl, get_or-take, get_or-drop, length-drop}
use mathlib.Core.Option.{some, some-injective, some-ne-none}
use lib.ListN.{get_elem?}
use Rattle.std.proofs.lemmas.List.{length-take-le}
use Rattle.std.proofs.lemmas.List.FromFn.{length-map-range_with_len, get_or-map-range_with_len}
use Rattle.atomic_table.specs.Table.{opening}
use Rattle.olfit_rule.specs.declared.view.View.{View}
use Rattle.olfit_rule.specs.Tree.{node_of, leaf_entries}
use Rattle.olfit_rule.specs.Rule.{Lies, Knows, Kept, CanOpen, part, nodes_in, opening_of, opener}
use Rattle.olfit_rule.proofs.Lasting.{later_same}

pub length-nodes_in : (words : List ℕ) (n : ℕ) → length words ≡ n * 64 + 1 → length (nodes_in words) ≡ n
length-nodes_in words n is = let e = length-map-range_with_len (part words) 0 (length words / 64) in omega arith

pub node_in : (words : List ℕ) (n i : ℕ) → length words ≡ n * 64 + 1 → i < n → node_of (nodes_in words) i ≡ part words i
node_in words n i is h = get_or-map-range_with_len (part words) 0 (length words / 64) i i [] (omega arith) (omega arith)

pub length-part : (words : List ℕ) (n i : ℕ) → length words ≡ n * 64 + 1 → i < n → length (part words i) ≡ 64
length-part words n i is h = let e = length-drop (i * 64) words in length-take-le 64 (drop (i * 64) words) (omega arith)

lies_open : (words : List ℕ) (n : ℕ) → length words ≡ n * 64 + 1 → Lies words (nodes_in words) (opening_of words).root
lies_open words n is =
    let size = length-nodes_in words n is in
    let same : length (nodes_in words) ≡ length words / 64 = omega arith in record {
      count = omega arith;
      last = ap (λ (z : ℕ). get_or words (z * 64) 0) same;
      wide = λ i h. ap (λ (x : List ℕ). length x) (node_in words n i is (omega arith)) ∙ length-part words n i is (omega arith);
      each = λ i k h small. sym (ap (λ (x : List ℕ). get_or x k 0) (node_in words n i is (omega arith)) ∙ (get_or-take 64 (drop (i * 64) words) k 0 small ∙ get_or-drop (i * 64) words k 0));
    }

one_seat : (words : List ℕ) (j : ℕ) (v : View) → get_elem? (opener words ∷ []) j ≡ some v → Knows (nodes_in words) (opening_of words) (leaf_entries (nodes_in words)) 0 j v
one_seat words zero v e = subst (Knows (nodes_in words) (opening_of words) (leaf_entries (nodes_in words)) 0 0) (some-injective _ _ e) record {
  own = λ _. (refl, refl, refl);
  built = λ _. (refl, refl);
  later = later_same (opening_of words);
  told = ([], refl);
  last = omega arith;
}
one_seat words (suc j) v e = absurd (some-ne-none v (sym e))

pub opens : (words : List ℕ) → CanOpen words → Kept (opening words [] (opener words))
opens words can = record {
  nodes = nodes_in words;
  now = opening_of words;
  base = leaf_entries (nodes_in words);
  writer = 0;
  lies = lies_open words can.count.0 can.count.1;
  counts = record { count = refl; unlatched = λ i _. refl; older = λ i. le_refl _ };
  good = can.good;
  seats = one_seat words;
}
