use Rattle.std.proofs.Common.{◌≡◌, take}
use Rattle.std.specs.Prelude.{filter, nat_lt}
use Rattle.row_types.specs.Keys.{row_key}
use Rattle.plain_model.proofs.rows.below.Given as goal

abbrev pub invariant-loop-row : goal.invariant-loop-row
invariant-loop-row l = l.low.items ≡ filter (λ other. nat_lt (row_key l.marks other) l.key.number) (take l.row-index l.rows)
