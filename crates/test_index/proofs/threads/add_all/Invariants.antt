use Rattle.std.proofs.Common.{◌≡◌}
use Rattle.test_index.proofs.threads.add_all.Given as goal

abbrev pub invariant-loop-c : goal.invariant-loop-c
invariant-loop-c l = l.writer.table ≡ l.index.table
