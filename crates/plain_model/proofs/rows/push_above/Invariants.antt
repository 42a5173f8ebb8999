use Rattle.std.proofs.Common.{◌≡◌, ◌++◌, take}
use Rattle.std.specs.Prelude.{filter, nat_lt}
use Rattle.row_types.specs.Keys.{row_key}
use Rattle.plain_model.proofs.rows.push_above.Given as goal

abbrev pub invariant-loop-row : goal.invariant-loop-row
invariant-loop-row l = l.all.items ≡ l.fn.all.items ++ filter (λ other. nat_lt l.key.number (row_key l.marks other)) (take l.row-index l.rows)
