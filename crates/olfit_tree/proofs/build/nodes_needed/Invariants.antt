use Rattle.std.proofs.Common.{◌-◌, ◌+◌, ◌≡◌, ◌≤◌, ◌<◌}
use Rattle.olfit_tree.specs.Build.{nodes_above, nodes_over}
use Rattle.olfit_tree.proofs.build.nodes_needed.Given as goal

abbrev pub invariant-loop-level : goal.invariant-loop-level
invariant-loop-level l = (l.nodes + nodes_above l.level l.level ≡ nodes_over l.fn.rows) × (l.level ≤ l.nodes) × (0 < l.level)

abbrev pub decreases-loop-level : goal.decreases-loop-level
decreases-loop-level l = l.level - 1
