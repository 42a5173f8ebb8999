use Rattle.std.proofs.lemmas.Result.{err_from_is_err_and}
use Rattle.row_types.specs.SchemaReading.{columns_from}
use Rattle.row_types.proofs.ReadingSchemas.{columns_go_on, columns_end, columns_done}
use Rattle.row_types.proofs.schema_text.columns_from.Goals as goal

pub returns-in_err-column : goal.returns-in_err-column
returns-in_err-column c =
    let r = c.from_residual in
    let p = err_from_is_err_and r.result r.ensures.1 in
    rw (p.1, p.2) (columns_end c.loop.columns c.args.count c.loop.counter c.loop.rest.now (columns_from c.args.count c.args.bytes.now) c.in_err-column.field-0.0 c.loop-test.true c.in_err-column.ensures c.loop.invariant)

pub loop-preserved : goal.loop-preserved
loop-preserved c =
    rw c.in_ok-push.ensures.ok (columns_go_on c.loop.columns c.args.count c.loop.counter c.loop.rest.now (columns_from c.args.count c.args.bytes.now) c.in_ok-column.column c.in_ok-column.after.now c.loop-test.true c.in_ok-column.ensures c.loop.invariant)

pub returns : goal.returns
returns c = columns_done c.loop.columns c.args.count c.loop.counter c.loop.rest.now (columns_from c.args.count c.args.bytes.now) c.loop-test.false c.loop.invariant
