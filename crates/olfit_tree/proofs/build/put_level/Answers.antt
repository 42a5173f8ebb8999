use Rattle.std.proofs.Common.{◌≡◌, ◌∙◌, ◌+◌, ◌*◌, ◌/◌, length, ◌∷◌, ◌++◌, [], ℕ, List, arith, sym, subst}
use Rattle.std.proofs.lemmas.List.FromFn.{map-range_with_len_more}
use Rattle.olfit_nodes.specs.Nodes.{Entry}
use Rattle.olfit_tree.specs.Build.{HasPut, leads, level_nodes, low_at}
use Rattle.olfit_tree.proofs.Pieces.{put_more}
use Rattle.olfit_tree.proofs.build.put_level.Goals as goal

pub loop-i-preserved : goal.loop-i-preserved
loop-i-preserved c =
    let first : ℕ = c.len-first.result / 64 in
    let each = c.args.each in
    let xs : List Entry = c.args.entries.now in (
      subst (λ (w : List ℕ). HasPut c.args.level first each xs c.args.words.now.items w (c.loop-i.i + 1)) (sym c.in_ok-extend_from_slice.ensures.items)
          (put_more c.args.level first each xs c.args.words.now.items c.loop-i.words.items c.piece-node.result c.loop-i.i c.loop-i.invariant.0 c.piece-node.ensures),
      c.in_ok-push.ensures.items
          ∙ ((λ j. c.loop-i.invariant.1 j ++ ((c.low.ensures ∙ c.piece-node.ensures.low) j, first + c.loop-i.i) ∷ [])
          ∙ sym (map-range_with_len_more (λ (i : ℕ). (low_at xs (i * each), first + i)) 0 c.loop-i.i c.loop-i.i (omega arith))),
    )

pub returns : goal.returns
returns c =
    let first : ℕ = c.len-first.result / 64 in
    let all : c.loop-i.i ≡ level_nodes (length c.args.entries.now) c.args.each = (let a = c.loop-i.auto.i-end in let b = c.loop-i-test.false in let e = c.nodes_of_level-i-end.ensures in omega (arith, a, b, e)) in (
      first,
      subst (HasPut c.args.level first c.args.each c.args.entries.now c.args.words.now.items c.loop-i.words.items) all c.loop-i.invariant.0,
      subst (λ (n : ℕ). c.loop-i.above.items ≡ leads first c.args.each c.args.entries.now n) all c.loop-i.invariant.1,
    )
