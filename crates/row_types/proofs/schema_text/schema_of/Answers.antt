use Rattle.std.proofs.Common.{◌≡◌, [], length, eqb, false, arith}
use Rattle.std.proofs.lemmas.Grind.{common_steps}
use Rattle.std.proofs.lemmas.Result.{err_from_is_err_and}
use Rattle.row_types.specs.SchemaReading.{tables_from}
use Rattle.row_types.proofs.ReadingSchemas.{tables_go_on, tables_end, tables_refused, tables_done, schema_fails, schema_whole, schema_trailing}
use Rattle.row_types.proofs.schema_text.schema_of.Goals as goal

pub returns-in_err-table : goal.returns-in_err-table
returns-in_err-table c =
    let r = c.from_residual-in_err-table in
    let p = err_from_is_err_and r.result r.ensures.1 in
    let count = c.in_ok-count.count in
    let rest = c.in_ok-count.rest.now in
    let e = c.in_err-table.field-0.0 in
    rw (p.1, p.2) (schema_fails c.args.bytes.now count rest c.in_ok-count.ensures e (tables_end c.loop.schema count c.loop.counter c.loop.rest.now (tables_from count [] rest) e c.loop-test.true c.in_err-table.ensures c.loop.invariant))

pub returns-in_err-add_next : goal.returns-in_err-add_next
returns-in_err-add_next c =
    let r = c.from_residual-in_err-add_next in
    let p = err_from_is_err_and r.result r.ensures.1 in
    let count = c.in_ok-count.count in
    let rest = c.in_ok-count.rest.now in
    let e = c.in_err-add_next.field-0.0 in
    rw (p.1, p.2) (schema_fails c.args.bytes.now count rest c.in_ok-count.ensures e (tables_refused c.loop.schema count c.loop.counter c.loop.rest.now (tables_from count [] rest) e c.in_ok-table.table c.in_ok-table.after.now c.loop-test.true c.in_ok-table.ensures c.in_err-add_next.ensures.cases c.loop.invariant))

pub loop-preserved : goal.loop-preserved
loop-preserved c =
    let count = c.in_ok-count.count in
    let rest = c.in_ok-count.rest.now in
    let says = c.in_ok-add_next.ensures.cases in
    rw says.1 (tables_go_on c.loop.schema count c.loop.counter c.loop.rest.now (tables_from count [] rest) c.in_ok-table.table c.in_ok-table.after.now c.loop-test.true c.in_ok-table.ensures says.0 c.loop.invariant)

pub returns-then-not-is_empty : goal.returns-then-not-is_empty
returns-then-not-is_empty c =
    let count = c.in_ok-count.count in
    let rest = c.in_ok-count.rest.now in
    let all = tables_done c.loop.schema count c.loop.counter c.loop.rest.now (tables_from count [] rest) c.loop-test.false c.loop.invariant in
    let more : eqb (length c.loop.rest.now) 0 ≡ false = grind (arith, common_steps) in
    schema_trailing c.args.bytes.now count rest c.in_ok-count.ensures c.loop.schema c.loop.rest.now all more

pub returns : goal.returns
returns c =
    let count = c.in_ok-count.count in
    let rest = c.in_ok-count.rest.now in
    let all = tables_done c.loop.schema count c.loop.counter c.loop.rest.now (tables_from count [] rest) c.loop-test.false c.loop.invariant in
    let none : length c.loop.rest.now ≡ 0 = grind (arith, common_steps) in
    schema_whole c.args.bytes.now count rest c.in_ok-count.ensures c.loop.schema c.loop.rest.now all none
