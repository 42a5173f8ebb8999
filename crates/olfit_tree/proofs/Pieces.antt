-- The nodes of a level behind the words so far.
use Rattle.std.proofs.Common.{◌≡◌, ℕ, ◌+◌, ◌-◌, ◌*◌, ◌/◌, ◌<◌, List, [], ◌++◌, length, take, drop, sym, ap, ◌∙◌, subst, arith, append_assoc, append-nil, below_more, length-append, length-drop}
use Rattle.std.specs.Prelude.{min}
use Rattle.std.proofs.lemmas.List.{drop_at, take_at, take_min}
use Rattle.std.proofs.lemmas.List.FromFn.{get_or-map-range_with_len}
use Rattle.olfit_nodes.specs.Nodes.{Entry}
use Rattle.olfit_rule.specs.Tree.{node_of}
use Rattle.olfit_rule.specs.Rule.{part, nodes_in}
use Rattle.olfit_tree.specs.Build.{HasPut, IsPiece}

-- the entries from a place on, up to a number of them or to the end
pub rows_of : (xs : List Entry) (start each : ℕ) → take (min (length xs) (start + each) - start) (drop start xs) ≡ take each (drop start xs)
rows_of xs start each =
    let l = length-drop start xs in
    let e : min (length xs) (start + each) - start ≡ min each (length (drop start xs)) = omega (arith, l) in
    ap (λ (n : ℕ). take n (drop start xs)) e ∙ take_min each (drop start xs)

-- a node inside
pub node_at : (ws : List ℕ) (i : ℕ) → i < length ws / 64 → node_of (nodes_in ws) i ≡ part ws i
node_at ws i h = get_or-map-range_with_len (part ws) 0 (length ws / 64) i i [] h (omega arith)

-- the node put last
pub node_put : (ws node rest : List ℕ) (n : ℕ) → length ws ≡ n * 64 → length node ≡ 64 → node_of (nodes_in (ws ++ node ++ rest)) n ≡ node
node_put ws node rest n long wide =
    let a = length-append (ws ++ node) rest in let b = length-append ws node in
    node_at (ws ++ node ++ rest) n (omega (arith, a, b, long, wide))
    ∙ (ap (λ (w : List ℕ). take 64 (drop (n * 64) w)) (append_assoc ws node rest)
    ∙ (ap (λ (w : List ℕ). take 64 w) (drop_at ws (node ++ rest) (n * 64) long) ∙ take_at node rest 64 wide))

-- none was put yet
pub put_none : (level first each : ℕ) (entries : List Entry) (ws : List ℕ) → length ws ≡ first * 64 → HasPut level first each entries ws ws 0
put_none level first each entries ws long = record {
  kept = ([], sym (append-nil ws));
  from = long;
  long = omega (arith, long);
  pieces = λ rest i h. absurd (omega (arith, h));
}

-- one more
pub put_more : (level first each : ℕ) (entries : List Entry) (old ws node : List ℕ) (i : ℕ) → HasPut level first each entries old ws i → IsPiece level first each entries i node → HasPut level first each entries old (ws ++ node) (i + 1)
put_more level first each entries old ws node i put piece = record {
  kept = (put.kept.0 ++ node, ap (λ (w : List ℕ). w ++ node) put.kept.1 ∙ append_assoc old put.kept.0 node);
  from = put.from;
  long = let a = length-append ws node in let l = put.long in let w = piece.wide in omega (arith, a, l, w);
  pieces = λ rest. below_more _ _
      (λ j h. subst (λ (w : List ℕ). IsPiece level first each entries j (node_of (nodes_in w) (first + j))) (sym (append_assoc ws node rest)) (put.pieces (node ++ rest) j h))
      (subst (IsPiece level first each entries i) (sym (node_put ws node rest (first + i) put.long piece.wide)) piece);
}
