use Rattle.std.proofs.Common.{◌≡◌, min, max, map, drop}
use Rattle.std.specs.Prelude.{fold}
use Rattle.row_types.specs.Keys.{row_key}
use Rattle.sql_check.proofs.range.range_of_rows.Given as goal

abbrev pub invariant-loop-row : goal.invariant-loop-row
invariant-loop-row l = record {
  low : fold min l.least (map (row_key l.marks) (drop l.row-index l.rest)) ≡ fold min l.first (map (row_key l.marks) l.rest);
  high : fold max l.greatest (map (row_key l.marks) (drop l.row-index l.rest)) ≡ fold max l.first (map (row_key l.marks) l.rest);
}
