use Rattle.std.proofs.Common.{◌≡◌, take, map}
use Rattle.row_types.specs.Keys.{int_at}
use Rattle.row_types.proofs.schema.Schema.key_values.Given as goal

abbrev pub invariant-loop-mark : goal.invariant-loop-mark
invariant-loop-mark l = l.numbers.items ≡ map (int_at l.row) (take l.mark-index l.marks)
