use Rattle.std.proofs.Common.{rules, ◌≡◌, ◌∙◌, ℕ, List, Bool, true, false, Some, Ok, Err, refl, sym, ap, subst}
use Rattle.std.specs.List.{AllByRecursion}
use Rattle.row_types.specs.declared.definition.TableDef.{TableDef}
use Rattle.row_types.specs.Keys.{row_key}
use Rattle.row_types.specs.Schema.{keys_at, keys_of}
use Rattle.key_space.specs.Plays.{Rows}
use Rattle.sql_check.specs.declared.plan.Plan.TheVariants.{Insert}
use Rattle.plain_model.specs.declared.stop.Stop.{Stop}
use Rattle.plain_model.specs.declared.stop.Stop.TheVariants.{OutOfMemory as NoMemory}
use Rattle.plain_model.specs.CallPlays.{tables_of}
use Rattle.plain_model.specs.Meaning.{key_numbers, table_at}
use Rattle.sql_exec.specs.declared.act.Changes.TheVariants.{Duplicate}
use Rattle.sql_exec.specs.Bodies.{InsertedSoFar, InsertsOne, here}
use Rattle.sql_exec.specs.Fits.{IsNamed}
use Rattle.sql_exec.specs.Parts.{Changed}
use Rattle.sql_exec.proofs.ChangeLoops.{insert_stops, insert_twice, insert_twice_unsaid, inserts_on}
use Rattle.sql_exec.proofs.Inserting.{none_inserted}
use Rattle.sql_exec.proofs.OneTable.{stays}
use Rattle.sql_exec.proofs.insert.insert_all.Goals as goal

pub loop-row-init : goal.loop-row-init
loop-row-init g c =
    let calls = g.R.RowCalls.calls c.args.rows.now in
    let defs = g.R.RowCalls.defs c.args.rows.now in
    let n = c.args.p.now.table in
    let list : Rows = c.as_slice-list.result.now in
    record {
      schema = refl;
      so_far = record {
        forward = here;
        can = c.requires.can;
        named = subst (AllByRecursion (IsNamed defs n (Some c.args.range))) (sym c.as_slice-list.ensures) c.requires.named;
        plain = λ first plays. stays n (InsertedSoFar (keys_at defs n) list 0) (tables_of first calls) (tables_of first calls) refl (none_inserted (keys_at defs n) list (table_at (tables_of first calls) n).rows);
        put = refl;
        taken = refl;
      };
    }

pub returns-in_err-insert_one-clause-changed : goal.returns-in_err-insert_one-clause-changed
returns-in_err-insert_one-clause-changed g c =
    let calls = g.R.RowCalls.calls in
    let n = c.args.p.now.table in
    let row = c.row-item.result in
    let inv = c.loop-row.invariant in
    let stop : Stop = c.in_err-insert_one.field-0.0 in
    let is : c.from_residual.result ≡ Err stop = search rules in
    insert_stops c.args.p.now (sym c.as_slice-list.ensures) row c.loop-row-test.true c.row-item.is inv.so_far stop c.from_residual.result is
    (subst (λ (ds : List TableDef). InsertsOne n (row_key (keys_at ds n) row) row (calls c.loop-row.rows) (Err stop) (calls c.insert_one.new.rows)) inv.schema c.in_err-insert_one.ensures.calls)

pub returns-in_err-key_numbers-clause-changed : goal.returns-in_err-key_numbers-clause-changed
returns-in_err-key_numbers-clause-changed g c =
    let calls = g.R.RowCalls.calls in
    let n = c.args.p.now.table in
    let row = c.row-item.result in
    let inv = c.loop-row.invariant in
    let is : c.from_residual-in_err-key_numbers.result ≡ Err NoMemory = search rules in
    insert_twice_unsaid c.args.p.now (sym c.as_slice-list.ensures) row c.loop-row-test.true c.row-item.is inv.so_far c.from_residual-in_err-key_numbers.result is
    (subst (λ (ds : List TableDef). InsertsOne n (row_key (keys_at ds n) row) row (calls c.loop-row.rows) (Ok false) (calls c.insert_one.new.rows)) inv.schema
    (subst (λ (b : Bool). InsertsOne n (row_key (keys_at (g.R.RowCalls.defs c.loop-row.rows) n) row) row (calls c.loop-row.rows) (Ok b) (calls c.insert_one.new.rows)) c.if-not-branch.true c.in_ok-insert_one.ensures.calls))

pub returns-then-not-branch-clause-changed : goal.returns-then-not-branch-clause-changed
returns-then-not-branch-clause-changed g c =
    let calls = g.R.RowCalls.calls in
    let defs = g.R.RowCalls.defs c.args.rows.now in
    let n = c.args.p.now.table in
    let row = c.row-item.result in
    let inv = c.loop-row.invariant in
    let marked : c.as_slice-marks.result.now ≡ keys_at defs n = c.as_slice-marks.ensures ∙ sym (ap keys_of c.table.ensures.value) ∙ ap (λ (ds : List TableDef). keys_at ds n) (c.schema.ensures ∙ c.in_ok-insert_one.ensures.schema ∙ inv.schema) in
    subst (λ key. Changed defs n (Insert c.args.p.now) (calls c.args.rows.now) (Ok (Duplicate key)) (calls c.insert_one.new.rows)) (sym (c.in_ok-key_numbers.ensures ∙ ap (λ (ks : List ℕ). key_numbers ks row) marked))
    (insert_twice c.args.p.now (sym c.as_slice-list.ensures) row c.loop-row-test.true c.row-item.is inv.so_far
    (subst (λ (ds : List TableDef). InsertsOne n (row_key (keys_at ds n) row) row (calls c.loop-row.rows) (Ok false) (calls c.insert_one.new.rows)) inv.schema
    (subst (λ (b : Bool). InsertsOne n (row_key (keys_at (g.R.RowCalls.defs c.loop-row.rows) n) row) row (calls c.loop-row.rows) (Ok b) (calls c.insert_one.new.rows)) c.if-not-branch.true c.in_ok-insert_one.ensures.calls)))

pub loop-row-preserved : goal.loop-row-preserved
loop-row-preserved g c =
    let calls = g.R.RowCalls.calls in
    let n = c.args.p.now.table in
    let row = c.row-item.result in
    let inv = c.loop-row.invariant in record {
      schema = c.in_ok-insert_one.ensures.schema ∙ inv.schema;
      so_far = inserts_on c.args.p.now (sym c.as_slice-list.ensures) row c.loop-row-test.true c.row-item.is inv.so_far
          (subst (λ (ds : List TableDef). InsertsOne n (row_key (keys_at ds n) row) row (calls c.loop-row.rows) (Ok true) (calls c.insert_one.new.rows)) inv.schema
          (subst (λ (b : Bool). InsertsOne n (row_key (keys_at (g.R.RowCalls.defs c.loop-row.rows) n) row) row (calls c.loop-row.rows) (Ok b) (calls c.insert_one.new.rows)) c.if-not-branch.false c.in_ok-insert_one.ensures.calls));
    }
