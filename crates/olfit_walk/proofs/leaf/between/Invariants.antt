use Rattle.std.proofs.Common.{◌≡◌, ◌≤◌, length, map}
use Rattle.std.specs.List.{filter, range_with_len}
use Rattle.olfit_nodes.specs.Nodes.{entry_at}
use Rattle.olfit_walk.specs.Looks.{entries_of_keys, is_between}
use Rattle.olfit_walk.proofs.leaf.between.Given as goal

abbrev pub invariant-loop-place : goal.invariant-loop-place
invariant-loop-place l = record {
  few : length l.entries.items ≤ l.place;
  items : entries_of_keys l.entries.items ≡ filter (is_between l.from.number l.upto.number) (map (entry_at l.words) (range_with_len 0 l.place));
}
