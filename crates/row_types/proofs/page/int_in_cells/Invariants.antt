use Rattle.std.proofs.Common.{◌≡◌, ◌-◌, ◌≤◌, take, drop}
use Rattle.row_types.specs.Slot.{widths}
use Rattle.row_types.specs.Reading.{cells_values}
use Rattle.row_types.specs.Keys.{int_at}
use Rattle.row_types.proofs.page.int_in_cells.Given as goal

abbrev pub invariant-loop-i : goal.invariant-loop-i
invariant-loop-i l = record {
  before : l.i ≤ l.place;
  at-is : l.at ≡ widths (take l.i l.columns);
  left : int_at (cells_values l.columns l.bytes) l.place
      ≡ int_at (cells_values (drop l.i l.columns) (drop l.at l.bytes)) (l.place - l.i);
}
