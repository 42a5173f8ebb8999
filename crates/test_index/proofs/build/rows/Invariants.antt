use Rattle.std.proofs.Common.{◌+◌, ◌*◌}
use Rattle.test_index.proofs.Rising.{AreRows}
use Rattle.test_index.proofs.build.rows.Given as goal

abbrev pub invariant-loop-n : goal.invariant-loop-n
invariant-loop-n l = AreRows l.rows.items l.n (l.n * 3 + 1)
