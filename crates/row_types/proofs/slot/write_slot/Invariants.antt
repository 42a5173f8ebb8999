use Rattle.std.proofs.Common.{◌≡◌, ◌+◌, ◌∷◌, take}
use Rattle.row_types.specs.Slot.{widths, cells_text}
use Rattle.row_types.proofs.slot.write_slot.Given as goal

abbrev pub invariant-loop-i : goal.invariant-loop-i
invariant-loop-i l = record {
  place : l.at ≡ 1 + widths (take l.i l.columns);
  front : take l.at l.into ≡ 1 ∷ cells_text (take l.i l.columns) (take l.i l.values);
}
