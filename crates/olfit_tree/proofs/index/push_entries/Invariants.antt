use Rattle.std.proofs.Common.{◌≡◌, ◌++◌, map}
use Rattle.std.specs.List.{range_with_len}
use Rattle.olfit_nodes.specs.Nodes.{entry_at}
use Rattle.olfit_walk.specs.Looks.{entries_of_keys}
use Rattle.olfit_tree.proofs.index.push_entries.Given as goal

abbrev pub invariant-loop-place : goal.invariant-loop-place
invariant-loop-place l = entries_of_keys l.all.items ≡ entries_of_keys l.fn.all.items ++ map (entry_at l.words) (range_with_len 0 l.place)
