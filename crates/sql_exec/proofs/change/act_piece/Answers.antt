use Rattle.std.proofs.Common.{rules, ◌≡◌, List, Option, Some, None, Result, Ok, Err, ℕ, refl, sym, subst}
use Rattle.row_types.specs.declared.definition.TableDef.{TableDef}
use Rattle.plain_model.specs.declared.stop.Stop.{Stop}
use Rattle.plain_model.proofs.CallLaws.{write_reads}
use Rattle.sql_exec.specs.declared.act.Passed.{Passed}
use Rattle.sql_exec.specs.Bodies.{OnlyForward, here, stopped}
use Rattle.sql_exec.specs.Pieces.{ActsAll, ActsPiece}
use Rattle.sql_exec.proofs.Piecing.{acts_made, acts_refused, acts_stop, can_still, forward_piece, no_piece}
use Rattle.sql_exec.proofs.change.act_piece.Goals as goal

pub chunk-requires-clause-locked : goal.chunk-requires-clause-locked
chunk-requires-clause-locked g c = write_reads (g.R.RowCalls.calls c.args.rows.now) c.args.table c.args.range.lo.number c.args.range.hi.number c.requires.can.1

pub returns-in_err-piece-clause-forward : goal.returns-in_err-piece-clause-forward
returns-in_err-piece-clause-forward g c = subst (OnlyForward (g.R.RowCalls.calls c.args.rows.now)) (sym c.in_err-piece.ensures.told) (stopped _ _ _ refl here)

pub returns-in_err-piece-clause-acts : goal.returns-in_err-piece-clause-acts
returns-in_err-piece-clause-acts g c =
    let calls = g.R.RowCalls.calls in
    let defs = g.R.RowCalls.defs c.args.rows.now in
    let n = c.args.table in
    let stop : Stop = c.in_err-piece.field-0.0 in
    let is : c.from_residual.result ≡ Err stop = search rules in
    subst (λ (r : Result (Option Passed) Stop). ActsPiece defs n c.args.plan c.args.range (calls c.args.rows.now) r (calls c.chunk.new.self)) (sym is)
    (no_piece defs n c.args.plan c.args.range stop (calls c.args.rows.now) (calls c.chunk.new.self) c.in_err-piece.ensures.told c.in_err-piece.ensures.cause)

pub returns-in_err-count-clause-forward : goal.returns-in_err-count-clause-forward
returns-in_err-count-clause-forward g c = forward_piece c.args.table c.args.range.lo.number c.in_ok-piece.piece.upto.number c.in_ok-piece.piece.rows (g.R.RowCalls.calls c.args.rows.now) (g.R.RowCalls.calls c.chunk.new.self) (g.R.RowCalls.calls c.act_all.new.rows) c.in_ok-piece.ensures.told c.act_all.ensures.forward

pub returns-in_err-count-clause-acts : goal.returns-in_err-count-clause-acts
returns-in_err-count-clause-acts g c =
    let calls = g.R.RowCalls.calls in
    let defs = g.R.RowCalls.defs c.args.rows.now in
    let n = c.args.table in
    let plan = c.args.plan in
    let range = c.args.range in
    let old = calls c.args.rows.now in
    let mid = calls c.chunk.new.self in
    let new = calls c.act_all.new.rows in
    let piece = c.in_ok-piece.piece in
    let stop : Stop = c.in_err-count.field-0.0 in
    let is : c.from_residual-in_err-count.result ≡ Err stop = search rules in
    let acts : ActsAll defs n plan piece.rows mid (Err stop) new = subst (λ l. ActsAll defs n plan l mid (Err stop) new) c.as_slice.ensures (subst (λ (ds : List TableDef). ActsAll ds n plan c.as_slice.result.now mid (Err stop) new) c.in_ok-piece.ensures.schema c.in_err-count.ensures.acts) in
    subst (λ (r : Result (Option Passed) Stop). ActsPiece defs n plan range old r new) (sym is)
    (acts_stop defs n plan c.requires.plan range piece.upto.number piece.rows old mid new c.in_ok-piece.ensures.low c.in_ok-piece.ensures.high c.in_ok-piece.ensures.told c.act_all.ensures.forward stop acts)

pub returns-in-Some-clause-forward : goal.returns-in-Some-clause-forward
returns-in-Some-clause-forward g c = forward_piece c.args.table c.args.range.lo.number c.in_ok-piece.piece.upto.number c.in_ok-piece.piece.rows (g.R.RowCalls.calls c.args.rows.now) (g.R.RowCalls.calls c.chunk.new.self) (g.R.RowCalls.calls c.act_all.new.rows) c.in_ok-piece.ensures.told c.act_all.ensures.forward

pub returns-in-Some-clause-can : goal.returns-in-Some-clause-can
returns-in-Some-clause-can g c =
    let calls = g.R.RowCalls.calls in
    let forward = forward_piece c.args.table c.args.range.lo.number c.in_ok-piece.piece.upto.number c.in_ok-piece.piece.rows (calls c.args.rows.now) (calls c.chunk.new.self) (calls c.act_all.new.rows) c.in_ok-piece.ensures.told c.act_all.ensures.forward in
    can_still (calls c.args.rows.now) (calls c.act_all.new.rows) c.args.table c.args.range.lo.number c.args.range.hi.number forward c.requires.can c.in_ok-count.ensures.can.0

pub returns-in-Some-clause-acts : goal.returns-in-Some-clause-acts
returns-in-Some-clause-acts g c =
    let calls = g.R.RowCalls.calls in
    let defs = g.R.RowCalls.defs c.args.rows.now in
    let n = c.args.table in
    let plan = c.args.plan in
    let mid = calls c.chunk.new.self in
    let new = calls c.act_all.new.rows in
    let piece = c.in_ok-piece.piece in
    let result : Result (Option ℕ) Stop = Ok (Some c.in-Some.count) in
    let acts : ActsAll defs n plan piece.rows mid result new = subst (λ l. ActsAll defs n plan l mid result new) c.as_slice.ensures (subst (λ (ds : List TableDef). ActsAll ds n plan c.as_slice.result.now mid result new) c.in_ok-piece.ensures.schema
    (subst (λ (o : Option ℕ). ActsAll (g.R.RowCalls.defs c.chunk.new.self) n plan c.as_slice.result.now mid (Ok o) new) c.in-Some.is c.in_ok-count.ensures.acts)) in
    acts_made defs n plan c.requires.plan c.args.range piece.upto.number piece.rows (calls c.args.rows.now) mid new c.in_ok-piece.ensures.low c.in_ok-piece.ensures.high c.in_ok-piece.ensures.told c.act_all.ensures.forward (record { upto = piece.upto; count = c.in-Some.count }) refl acts

pub returns-clause-forward : goal.returns-clause-forward
returns-clause-forward g c = forward_piece c.args.table c.args.range.lo.number c.in_ok-piece.piece.upto.number c.in_ok-piece.piece.rows (g.R.RowCalls.calls c.args.rows.now) (g.R.RowCalls.calls c.chunk.new.self) (g.R.RowCalls.calls c.act_all.new.rows) c.in_ok-piece.ensures.told c.act_all.ensures.forward

pub returns-clause-can : goal.returns-clause-can
returns-clause-can g c =
    let calls = g.R.RowCalls.calls in
    let forward = forward_piece c.args.table c.args.range.lo.number c.in_ok-piece.piece.upto.number c.in_ok-piece.piece.rows (calls c.args.rows.now) (calls c.chunk.new.self) (calls c.act_all.new.rows) c.in_ok-piece.ensures.told c.act_all.ensures.forward in
    can_still (calls c.args.rows.now) (calls c.act_all.new.rows) c.args.table c.args.range.lo.number c.args.range.hi.number forward c.requires.can c.in_ok-count.ensures.can.0

pub returns-clause-acts : goal.returns-clause-acts
returns-clause-acts g c =
    let calls = g.R.RowCalls.calls in
    let defs = g.R.RowCalls.defs c.args.rows.now in
    let n = c.args.table in
    let plan = c.args.plan in
    let mid = calls c.chunk.new.self in
    let new = calls c.act_all.new.rows in
    let piece = c.in_ok-piece.piece in
    let result : Result (Option ℕ) Stop = Ok None in
    let acts : ActsAll defs n plan piece.rows mid result new = subst (λ l. ActsAll defs n plan l mid result new) c.as_slice.ensures (subst (λ (ds : List TableDef). ActsAll ds n plan c.as_slice.result.now mid result new) c.in_ok-piece.ensures.schema
    (subst (λ (o : Option ℕ). ActsAll (g.R.RowCalls.defs c.chunk.new.self) n plan c.as_slice.result.now mid (Ok o) new) c.in-None.is c.in_ok-count.ensures.acts)) in
    acts_refused defs n plan c.requires.plan c.args.range piece.upto.number piece.rows (calls c.args.rows.now) mid new c.in_ok-piece.ensures.low c.in_ok-piece.ensures.high c.in_ok-piece.ensures.told c.act_all.ensures.forward acts
