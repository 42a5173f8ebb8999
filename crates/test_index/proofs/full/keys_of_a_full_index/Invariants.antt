use Rattle.std.proofs.Common.{◌≡◌}
use Rattle.test_index.proofs.full.keys_of_a_full_index.Given as goal

abbrev pub invariant-loop-call : goal.invariant-loop-call
invariant-loop-call g l = l.writer.table ≡ l.index.table
