use Rattle.std.proofs.Common.{◌≡◌, ◌≤◌, map, nat_le}
use Rattle.std.specs.List.{count_by, range_with_len}
use Rattle.olfit_nodes.specs.Nodes.{Entry, entry_at}
use Rattle.olfit_nodes.proofs.entries.place_of.Given as goal

abbrev pub invariant-loop-place : goal.invariant-loop-place
invariant-loop-place l = record {
  few : l.below ≤ l.place;
  counted : l.below ≡ count_by (λ (e : Entry). nat_le e.0 l.key) (map (entry_at l.words) (range_with_len 0 l.place));
}
