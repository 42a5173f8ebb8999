use Rattle.std.proofs.Common.{◌≡◌, ◌-◌}
use Rattle.row_types.specs.SchemaReading.{columns_from}
use Rattle.row_types.proofs.ReadingSchemas.{with_front}
use Rattle.row_types.proofs.schema_text.columns_from.Given as goal

abbrev pub invariant-loop : goal.invariant-loop
invariant-loop l = with_front l.columns (columns_from (l.count - l.counter) l.rest) ≡ columns_from l.count l.bytes
