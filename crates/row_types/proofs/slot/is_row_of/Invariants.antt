use Rattle.std.proofs.Common.{◌↔◌, drop}
use Rattle.row_types.specs.Slot.{IsRowOf}
use Rattle.row_types.proofs.slot.is_row_of.Given as goal

abbrev pub invariant-loop-i : goal.invariant-loop-i
invariant-loop-i l = IsRowOf (drop l.i l.columns) (drop l.i l.values) ↔ IsRowOf l.columns l.values
