use Rattle.std.proofs.Common.{Some, None, Ok, ap, subst, inl, arith}
use Rattle.row_types.specs.SchemaReading.{FailsToRead, schema_at}
use Rattle.row_types.proofs.SchemaTextLaws.{schema_takes, reads_only}
use Rattle.row_types.proofs.schema.Schema.read_schema.Goals as goal

pub returns-in-Ok-clause-found : goal.returns-in-Ok-clause-found
returns-in-Ok-clause-found c = schema_takes c.args.from.now c.in-Ok.schema (λ i. omega (arith, c.type_inv.from i)) c.in-Ok.ensures

pub returns-in-Ok-clause-only : goal.returns-in-Ok-clause-only
returns-in-Ok-clause-only c = λ tables is text. inl (ap (λ o. Ok o) (reads_only c.args.from.now (Some c.in-Ok.schema) tables c.in-Ok.ensures is text))

pub returns-in-Err-Invalid-clause-only : goal.returns-in-Err-Invalid-clause-only
returns-in-Err-Invalid-clause-only c =
    let none = subst (λ e. FailsToRead e (schema_at c.args.from.now)) c.in-Err-Invalid.field-0-is c.in-Err-Invalid.ensures in
    λ tables is text. inl (ap (λ o. Ok o) (reads_only c.args.from.now None tables none is text))
