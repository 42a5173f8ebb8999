use Rattle.std.proofs.Common.{◌≡◌, ◌<◌, length, sym, ap, subst, arith, to_z, of_z}
use Rattle.std.specs.Int.{w64}
use Rattle.std.proofs.lemmas.Int.{to_z-of_z}
use Rattle.op_log.specs.Changes.{headed, IsReadAs}
use Rattle.op_log.specs.declared.change.RowChange.TheVariants.{Put, Del}
use Rattle.op_log.specs.declared.change.ChangeFault.TheVariants.{BadChange}
use Rattle.op_log.proofs.ChangeLaws.{put_found, del_found, put_only, put_none, del_only, del_none, bad_table, bad_kind, ReadsAll, ok_put, ok_del, err_read}
use Rattle.op_log.proofs.read.change_at.Goals as goal

pub returns-then-tables-table-clause-only : goal.returns-then-tables-table-clause-only
returns-then-tables-table-clause-only c =
    bad_table c.args.schema.now c.args.kind c.args.table c.args.rest.now c.ranges.table.fits (omega (arith, c.if-tables-table.true, ap length c.tables.ensures.value))

pub returns-in-Ok-clause-found : goal.returns-in-Ok-clause-found
returns-in-Ok-clause-found c =
    let is : c.args.kind ≡ 1 = omega (arith, c.if-kind-eq-PUT.true) in
    let inside : c.args.table < length c.args.schema.now = omega (arith, c.if-tables-table.false, ap length c.tables.ensures.value) in
    subst (λ k. IsReadAs c.args.schema.now (headed k c.args.table c.args.rest.now) (Put c.args.table c.in-Ok.row) c.put_len.result) (sym is)
    (put_found c.args.schema.now c.args.table c.put_len.result c.args.rest.now c.in-Ok.row inside c.ranges.table.fits c.put_len.ensures.value c.in-Ok.ensures.found)

pub returns-in-Ok-clause-only : goal.returns-in-Ok-clause-only
returns-in-Ok-clause-only c =
    let is : c.args.kind ≡ 1 = omega (arith, c.if-kind-eq-PUT.true) in
    subst (λ k. ReadsAll c.args.schema.now k c.args.table c.args.rest.now (ok_put c.args.table c.in-Ok.row c.put_len.result)) (sym is)
    (put_only c.args.schema.now c.args.table c.args.rest.now c.ranges.table.fits c.in-Ok.row c.put_len.result c.put_len.ensures.value c.in-Ok.ensures.only)

pub returns-in-Err-clause-only : goal.returns-in-Err-clause-only
returns-in-Err-clause-only c =
    let is : c.args.kind ≡ 1 = omega (arith, c.if-kind-eq-PUT.true) in
    subst (λ k. ReadsAll c.args.schema.now k c.args.table c.args.rest.now (err_read c.in-Err.fault)) (sym is)
    (put_none c.args.schema.now c.args.table c.args.rest.now c.ranges.table.fits c.in-Err.fault c.in-Err.ensures.only)

pub returns-in-Some-clause-found : goal.returns-in-Some-clause-found
returns-in-Some-clause-found c =
    let n = c.in-Some.number in
    let found = c.in-Some.ensures.found in
    let is : c.args.kind ≡ 2 = omega (arith, c.if-kind-eq-DEL.true) in
    let inside : c.args.table < length c.args.schema.now = omega (arith, c.if-tables-table.false, ap length c.tables.ensures.value) in
    let here = del_found c.args.schema.now c.args.table c.del_len.result c.args.rest.now n inside c.ranges.table.fits c.del_len.ensures found.0 found.1 found.2 in
    subst (λ k. IsReadAs c.args.schema.now (headed k c.args.table c.args.rest.now) (Del c.args.table (to_z w64 (of_z w64 n))) c.del_len.result) (sym is)
    (subst (λ m. IsReadAs c.args.schema.now (headed 2 c.args.table c.args.rest.now) (Del c.args.table m) c.del_len.result) (sym (to_z-of_z w64 n found.0)) here)

pub returns-in-Some-clause-only : goal.returns-in-Some-clause-only
returns-in-Some-clause-only c =
    let n = c.in-Some.number in
    let found = c.in-Some.ensures.found in
    let is : c.args.kind ≡ 2 = omega (arith, c.if-kind-eq-DEL.true) in
    let all = del_only c.args.schema.now c.args.table c.args.rest.now c.ranges.table.fits n c.del_len.result c.del_len.ensures c.in-Some.ensures.only in
    subst (λ k. ReadsAll c.args.schema.now k c.args.table c.args.rest.now (ok_del c.args.table (to_z w64 (of_z w64 n)) c.del_len.result)) (sym is)
    (subst (λ m. ReadsAll c.args.schema.now 2 c.args.table c.args.rest.now (ok_del c.args.table m c.del_len.result)) (sym (to_z-of_z w64 n found.0)) all)

pub returns-in-None-clause-only : goal.returns-in-None-clause-only
returns-in-None-clause-only c =
    let is : c.args.kind ≡ 2 = omega (arith, c.if-kind-eq-DEL.true) in
    subst (λ k. ReadsAll c.args.schema.now k c.args.table c.args.rest.now (err_read BadChange)) (sym is)
    (del_none c.args.schema.now c.args.table c.args.rest.now c.ranges.table.fits c.in-None.ensures.only)

pub returns-clause-only : goal.returns-clause-only
returns-clause-only c =
    bad_kind c.args.schema.now c.args.kind c.args.table c.args.rest.now c.ranges.table.fits (λ e. absurd (omega (arith, e, c.if-kind-eq-PUT.false))) (λ e. absurd (omega (arith, e, c.if-kind-eq-DEL.false)))
