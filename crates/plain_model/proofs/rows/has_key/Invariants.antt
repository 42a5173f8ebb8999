use Rattle.std.proofs.Common.{◌≡◌, drop}
use Rattle.std.specs.Prelude.{is_some}
use Rattle.key_space.specs.Plays.{row_at}
use Rattle.plain_model.proofs.rows.has_key.Given as goal

abbrev pub invariant-loop-row : goal.invariant-loop-row
invariant-loop-row l = is_some (row_at l.marks (drop l.row-index l.rows) l.key.number) ≡ is_some (row_at l.marks l.rows l.key.number)
