use Rattle.std.proofs.Common.{◌≡◌, [], ◌∷◌, Result, Err, sym, subst, rules}
use Rattle.row_types.specs.declared.block.Block.TheVariants.{Alone}
use Rattle.plain_model.specs.declared.reply.Reply.{Reply}
use Rattle.plain_model.specs.declared.stop.Stop.{Stop}
use Rattle.engine_txn.specs.Progress.{Answered, RunsBegun}
use Rattle.engine_txn.proofs.Endings.{alone_answered, alone_broken_end, alone_stopped}
use Rattle.engine_txn.proofs.block.run_alone.Goals as goal

pub returns-in_err-end-in-Ok-clause-runs : goal.returns-in_err-end-in-Ok-clause-runs
returns-in_err-end-in-Ok-clause-runs g c = λ text read.
    let defs = g.B.RowCalls.defs c.args.calls.now in
    let begun = g.B.RowCalls.calls c.args.calls.now in
    let mid = g.B.RowCalls.calls c.run_statement.new.calls in
    let new = g.B.RowCalls.calls c.end.new.calls in
    let stop = c.in_err-end-in-Ok.field-0.0 in
    let broken = alone_broken_end defs text c.args.statement begun mid c.requires.begun read c.run_statement.ensures.works c.in-Ok.reply stop new c.in-Ok.ensures.calls c.in-Ok.ensures.runs c.in-Ok.ensures.means c.in-Ok.ensures.cause c.in_err-end-in-Ok.ensures.calls in
    let is : c.from_residual.result ≡ Err stop = search rules in
    subst (λ (r : Result Reply Stop). RunsBegun defs (Alone text) begun (λ reply. reply ∷ []) r new) (sym is) broken

pub returns-in_ok-end-in-Ok-clause-runs : goal.returns-in_ok-end-in-Ok-clause-runs
returns-in_ok-end-in-Ok-clause-runs g c = λ text read.
    let defs = g.B.RowCalls.defs c.args.calls.now in
    let begun = g.B.RowCalls.calls c.args.calls.now in
    let mid = g.B.RowCalls.calls c.run_statement.new.calls in
    let new = g.B.RowCalls.calls c.end.new.calls in
    let answered = alone_answered defs text c.args.statement begun mid c.requires.begun read c.run_statement.ensures.works c.in-Ok.reply c.in_ok-end-in-Ok.field-0 new c.in-Ok.ensures.calls c.in-Ok.ensures.runs c.in-Ok.ensures.means c.in-Ok.ensures.cause c.in_ok-end-in-Ok.ensures.calls in
    subst (λ (r : Reply). Answered defs (Alone text) begun (r ∷ []) new) (sym c.reply.ensures) answered

pub returns-in-Err-clause-runs : goal.returns-in-Err-clause-runs
returns-in-Err-clause-runs g c = λ text read.
    let defs = g.B.RowCalls.defs c.args.calls.now in
    let begun = g.B.RowCalls.calls c.args.calls.now in
    let mid = g.B.RowCalls.calls c.run_statement.new.calls in
    let stopped = alone_stopped defs text c.args.statement begun mid c.requires.begun read c.run_statement.ensures.works c.in-Err.stop c.in-Err.ensures.calls c.in-Err.ensures.end in
    subst (λ (r : Result Reply Stop). RunsBegun defs (Alone text) begun (λ reply. reply ∷ []) r mid) (sym c.spent_reply.ensures) stopped
