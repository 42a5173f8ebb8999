use Rattle.std.proofs.Common.{◌≡◌, ◌-◌, []}
use Rattle.row_types.specs.SchemaReading.{tables_from}
use Rattle.row_types.proofs.schema_text.schema_of.Given as goal

abbrev pub invariant-loop : goal.invariant-loop
invariant-loop l = tables_from (l.count - l.counter) l.schema l.rest ≡ tables_from l.count [] l.initial.rest
