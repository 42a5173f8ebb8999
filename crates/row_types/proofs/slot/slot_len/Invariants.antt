use Rattle.std.proofs.Common.{◌≡◌, ◌+◌, ◌*◌, ◌≤◌, take}
use Rattle.row_types.specs.Slot.{widths}
use Rattle.row_types.proofs.slot.slot_len.Given as goal

abbrev pub invariant-loop-column : goal.invariant-loop-column
invariant-loop-column l = record {
  value : l.bytes ≡ 1 + widths (take l.column-index l.columns);
  small : l.bytes ≤ 1 + 131072 * l.column-index;
}
