use Rattle.std.proofs.Common.{◌≡◌, drop}
use Rattle.plain_model.specs.Meaning.{is_out_of_range}
use Rattle.plain_model.proofs.rows.is_out_of_range.Given as goal

abbrev pub invariant-loop-row : goal.invariant-loop-row
invariant-loop-row l = is_out_of_range l.columns l.changes (drop l.row-index l.found) ≡ is_out_of_range l.columns l.changes l.found
