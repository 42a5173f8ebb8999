use Rattle.std.proofs.Common.{◌≡◌}
use Rattle.test_index.proofs.threads.keep_all.Given as goal

abbrev pub invariant-loop-n : goal.invariant-loop-n
invariant-loop-n l = l.writer.table ≡ l.index.table
