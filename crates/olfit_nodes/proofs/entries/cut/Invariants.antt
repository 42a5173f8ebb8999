use Rattle.std.proofs.Common.{◌≡◌, ◌-◌, map}
use Rattle.std.specs.List.{range_with_len}
use Rattle.olfit_nodes.specs.Nodes.{entry_at}
use Rattle.olfit_nodes.proofs.entries.cut.Given as goal

abbrev pub invariant-loop-i : goal.invariant-loop-i
invariant-loop-i l = l.upper.items ≡ map (entry_at l.words) (range_with_len l.place (l.i - l.place))
