use Rattle.std.proofs.Common.{◌≡◌}
use Rattle.test_index.proofs.chunks.pieces_of_two_leaves.Given as goal

abbrev pub invariant-loop-lo : goal.invariant-loop-lo
invariant-loop-lo g l = l.reader.table ≡ l.index.table
