use Rattle.std.proofs.Common.{◌≡◌}
use Rattle.bench.proofs.indexed.fill.Given as goal

abbrev pub invariant-loop-number : goal.invariant-loop-number
invariant-loop-number l = l.writer.table ≡ l.index.table
