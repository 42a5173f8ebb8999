use Rattle.std.proofs.Common.{◌≡◌, drop}
use Rattle.plain_model.specs.Meaning.{duplicate, with_rows}
use Rattle.plain_model.proofs.rows.inserts.Given as goal

abbrev pub invariant-loop-row : goal.invariant-loop-row
invariant-loop-row l = record {
  rest : duplicate l.marks l.all.items (drop l.row-index l.new) ≡ duplicate l.marks l.rows l.new;
  added : with_rows l.marks l.all.items (drop l.row-index l.new) ≡ with_rows l.marks l.rows l.new;
}
