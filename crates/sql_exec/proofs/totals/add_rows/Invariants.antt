use Rattle.std.proofs.Common.{◌≡◌, ◌++◌, length, take}
use Rattle.key_space.specs.Plays.{Rows}
use Rattle.sql_exec.specs.Selects.{sums_of}
use Rattle.sql_exec.proofs.totals.add_rows.Given as goal

abbrev pub invariant-loop-row : goal.invariant-loop-row
invariant-loop-row l = record {
  len : length l.sums ≡ length l.p.totals;
  sums : (before : Rows) → l.fn.sums ≡ sums_of l.p before → l.sums ≡ sums_of l.p (before ++ take l.row-index l.piece);
}
