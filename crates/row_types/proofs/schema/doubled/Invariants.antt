use Rattle.std.proofs.Common.{◌≡◌, take, drop, []}
use Rattle.std.specs.List.{AllByRecursion}
use Rattle.row_types.specs.Text.{IsName}
use Rattle.row_types.specs.Schema.{doubled_from}
use Rattle.row_types.proofs.schema.doubled.Given as goal

abbrev pub invariant-loop-i : goal.invariant-loop-i
invariant-loop-i l = record {
  rest : doubled_from l.i (take l.i l.columns) (drop l.i l.columns) ≡ doubled_from 0 [] l.columns;
  named : AllByRecursion (λ c. IsName c.name) (take l.i l.columns);
}
