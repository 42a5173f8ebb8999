use Rattle.std.proofs.Common.{◌≡◌, ◌+◌, ℕ, arith, ap}
use Rattle.olfit_tree.specs.Build.{nodes_above, level_nodes}
use Rattle.olfit_tree.proofs.Sizes.{above_step, over_few}
use Rattle.olfit_tree.proofs.build.nodes_needed.Goals as goal

pub nodes_of_level-level-requires-in-loop-level-clause-few : goal.nodes_of_level-level-requires-in-loop-level-clause-few
nodes_of_level-level-requires-in-loop-level-clause-few c =
    let a = c.loop-level.invariant.0 in let b = c.loop-level.invariant.1 in let f = over_few c.args.rows c.requires in omega (arith, a, b, f)

pub overflow_add-nodes : goal.overflow_add-nodes
overflow_add-nodes c =
    let a = c.loop-level.invariant.0 in let f = over_few c.args.rows c.requires in let s = above_step c.loop-level.level c.loop-level-test.true in
    let r = c.nodes_of_level-level-in-loop-level.ensures in omega (arith, a, f, s, r)

pub loop-level-preserved : goal.loop-level-preserved
loop-level-preserved c =
    let a = c.loop-level.invariant.0 in let s = above_step c.loop-level.level c.loop-level-test.true in
    let r = c.nodes_of_level-level-in-loop-level.ensures in
    let n : ℕ = level_nodes c.loop-level.level 16 in
    let e : c.loop-level.nodes + c.nodes_of_level-level-in-loop-level.result + nodes_above c.nodes_of_level-level-in-loop-level.result c.nodes_of_level-level-in-loop-level.result ≡ c.loop-level.nodes + n + nodes_above n n =
    ap (λ (z : ℕ). c.loop-level.nodes + z + nodes_above z z) r in
    (omega (arith, a, s, e), omega arith, omega (arith, r))
