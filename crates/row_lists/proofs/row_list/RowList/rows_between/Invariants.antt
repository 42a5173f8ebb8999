use Rattle.std.proofs.Common.{◌≡◌, ◌<◌, length, map}
use Rattle.std.specs.Map.Iter.{deref_pair}
use Rattle.row_lists.specs.Held.{rows_of, most_rows}
use Rattle.row_lists.proofs.row_list.RowList.rows_between.Given as goal

abbrev pub invariant-loop-key : goal.invariant-loop-key
invariant-loop-key l = record {
  rows_are : l.rows.items ≡ rows_of (map deref_pair l.yielded);
  few : length l.rows.items < most_rows;
}
