use Rattle.std.proofs.Common.{◌≡◌}
use Rattle.bench.proofs.indexed.readers.Given as goal

abbrev pub invariant-loop : goal.invariant-loop
invariant-loop l = l.writer.table ≡ l.index.table
