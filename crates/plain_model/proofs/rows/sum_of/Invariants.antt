use Rattle.std.proofs.Common.{◌≡◌, ◌*◌, take, pos}
use Rattle.std.specs.Prelude.{◌≤ℤ◌, ◌+ℤ◌, ◌^◌}
use Rattle.plain_model.specs.Meaning.{sum_of}
use Rattle.plain_model.proofs.rows.sum_of.Given as goal

abbrev pub invariant-loop-row : goal.invariant-loop-row
invariant-loop-row l = record {
  value : l.sum ≡ sum_of l.columns l.name (take l.row-index l.rows);
  low : pos 0 ≤ℤ (l.sum +ℤ pos (2 ^ 63 * l.row-index));
  high : l.sum ≤ℤ pos (2 ^ 63 * l.row-index);
}
