use Rattle.std.proofs.Common.{◌≡◌, map, take}
use Rattle.row_types.specs.Keys.{int_at}
use Rattle.plain_model.proofs.rows.key_numbers.Given as goal

abbrev pub invariant-loop-mark : goal.invariant-loop-mark
invariant-loop-mark l = l.numbers.items ≡ map (int_at l.row) (take l.mark-index l.marks)
