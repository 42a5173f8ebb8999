use Rattle.std.proofs.Common.{◌≡◌}
use Rattle.test_index.proofs.threads.look_all.Given as goal

abbrev pub invariant-loop-n : goal.invariant-loop-n
invariant-loop-n l = l.reader.table ≡ l.index.table
