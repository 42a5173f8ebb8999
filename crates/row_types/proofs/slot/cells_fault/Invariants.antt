use Rattle.std.proofs.Common.{◌≡◌, ◌+◌, take, drop}
use Rattle.row_types.specs.Slot.{widths, cells_fault}
use Rattle.row_types.proofs.slot.cells_fault.Given as goal

abbrev pub invariant-loop-column : goal.invariant-loop-column
invariant-loop-column l = record {
  place : l.at ≡ widths (take l.column-index l.columns);
  rest : cells_fault (l.at + 1) (drop l.column-index l.columns) (drop l.at l.bytes) ≡ cells_fault 1 l.columns l.bytes;
}
