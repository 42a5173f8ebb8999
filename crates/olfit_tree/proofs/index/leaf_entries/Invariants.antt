use Rattle.std.proofs.Common.{◌-◌, ◌^◌}
use Rattle.olfit_rule.specs.Tree.{low}
use Rattle.olfit_walk.specs.Looks.{entries_of_keys}
use Rattle.olfit_change.specs.States.{Stays}
use Rattle.olfit_tree.proofs.Chains.{Gathered}
use Rattle.olfit_tree.proofs.index.leaf_entries.Given as goal

abbrev pub invariant-chain : goal.invariant-chain
invariant-chain l = record {
  same : Stays l.fn.me l.me;
  gathered : Gathered (entries_of_keys l.all.items) l.node l.fn.me.me.0;
}

abbrev pub decreases-chain : goal.decreases-chain
decreases-chain l = 2 ^ 128 - low l.fn.me.me.0.seen l.node
