use Rattle.std.proofs.Common.{◌≡◌}
use Rattle.test_index.proofs.chunks.read_all.Given as goal

abbrev pub invariant-loop-pieces : goal.invariant-loop-pieces
invariant-loop-pieces g l = l.reader.table ≡ l.index.table
