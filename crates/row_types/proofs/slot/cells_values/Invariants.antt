use Rattle.std.proofs.Common.{◌≡◌, ◌+◌, ◌++◌, take, drop, None}
use Rattle.row_types.specs.Slot.{widths, cells_fault}
use Rattle.row_types.specs.Reading.{cells_values}
use Rattle.row_types.proofs.slot.cells_values.Given as goal

abbrev pub invariant-loop-column : goal.invariant-loop-column
invariant-loop-column l = record {
  place : l.at ≡ widths (take l.column-index l.columns);
  sound : cells_fault (l.at + 1) (drop l.column-index l.columns) (drop l.at l.bytes) ≡ None;
  values : l.values.items ++ cells_values (drop l.column-index l.columns) (drop l.at l.bytes) ≡ cells_values l.columns l.bytes;
}
