use Rattle.std.proofs.Common.{false, List, [], ◌∷◌, Ok, sym, subst}
use Rattle.row_types.specs.declared.block.Block.TheVariants.{Alone}
use Rattle.row_types.specs.declared.definition.TableDef.{TableDef}
use Rattle.plain_model.specs.declared.stop.Stop.{Stop}
use Rattle.engine_txn.specs.declared.tried.Tried.{Tried}
use Rattle.engine_txn.specs.Steps.{Begins, FailsAs}
use Rattle.engine_txn.specs.Progress.{Answered, Broken, ReadAs}
use Rattle.engine_txn.specs.Tries.{Tries}
use Rattle.engine_txn.proofs.Outcomes.{alone_not_begun, begin_failed, begun_given_up, begun_said, no_memory, not_read, runs_behind_stop}
use Rattle.engine_txn.proofs.block.try_alone.Goals as goal

pub returns-in_default-clause-tries : goal.returns-in_default-clause-tries
returns-in_default-clause-tries g c = no_memory _ c.args.age (Alone c.args.text.now) (g.B.RowCalls.calls c.args.calls.now) c.requires.idle

pub give_up-requires-clause-halts : goal.give_up-requires-clause-halts
give_up-requires-clause-halts g c =
    let read = subst (ReadAs false c.args.text.now) c.in-Ok-Allowed.field-0-is c.in-Ok-Allowed.ensures.read in
    (c.in-Err-run_alone.ensures.runs c.args.text.now read).halts

pub give_up-requires-clause-running : goal.give_up-requires-clause-running
give_up-requires-clause-running g c =
    let read = subst (ReadAs false c.args.text.now) c.in-Ok-Allowed.field-0-is c.in-Ok-Allowed.ensures.read in
    runs_behind_stop c.in-Err-run_alone.stop _ (c.in-Err-run_alone.ensures.runs c.args.text.now read).cause

pub returns-in-Ok-Refused-clause-tries : goal.returns-in-Ok-Refused-clause-tries
returns-in-Ok-Refused-clause-tries g c =
    let read = subst (ReadAs false c.args.text.now) c.in-Ok-Refused.field-0-is c.in-Ok-Refused.ensures.read in
    not_read _ c.args.age c.args.text.now (g.B.RowCalls.calls c.args.calls.now) c.said.result c.in-Ok-Refused.refusal c.said.ensures read c.requires.idle

pub returns-in-Ok-Refused-begin-clause-tries : goal.returns-in-Ok-Refused-begin-clause-tries
returns-in-Ok-Refused-begin-clause-tries g c =
    let old = g.B.RowCalls.calls c.args.calls.now in
    let new = g.B.RowCalls.calls c.begin.new.calls in
    let read = subst (ReadAs false c.args.text.now) c.in-Ok-Allowed.field-0-is c.in-Ok-Allowed.ensures.read in
    let begins = subst (λ b. Begins c.args.age old (Ok b) new) c.in-Ok-Refused-begin.field-0-is c.in-Ok-Refused-begin.ensures.calls in
    alone_not_begun _ c.args.age c.args.text.now old c.said-in-Ok-Refused-begin.result c.in-Ok-Allowed.statement c.in-Ok-Refused-begin.refusal begins.0 new c.said-in-Ok-Refused-begin.ensures read begins.2 begins.1 c.requires.idle

pub returns-in-Ok-run_alone-clause-tries : goal.returns-in-Ok-run_alone-clause-tries
returns-in-Ok-run_alone-clause-tries g c =
    let defs = g.B.RowCalls.defs c.args.calls.now in
    let old = g.B.RowCalls.calls c.args.calls.now in
    let begun = g.B.RowCalls.calls c.begin.new.calls in
    let new = g.B.RowCalls.calls c.run_alone.new.calls in
    let block = Alone c.args.text.now in
    let list = c.in-Ok-run_alone.reply ∷ [] in
    let read = subst (ReadAs false c.args.text.now) c.in-Ok-Allowed.field-0-is c.in-Ok-Allowed.ensures.read in
    let begins = subst (λ b. Begins c.args.age old (Ok b) begun) c.in-Ok-Running.field-0-is c.in-Ok-Running.ensures.calls in
    let answered = subst (λ (ds : List TableDef). Answered ds block begun list new) c.begin.ensures.schema (c.in-Ok-run_alone.ensures.runs c.args.text.now read) in
    begun_said defs block (c.in-Ok-Allowed.statement, read) c.args.age c.in-Ok-Running.age old begun begins c.said-in-Ok-run_alone.result list new c.said-in-Ok-run_alone.ensures answered

pub returns-in-Err-run_alone-clause-tries : goal.returns-in-Err-run_alone-clause-tries
returns-in-Err-run_alone-clause-tries g c =
    let defs = g.B.RowCalls.defs c.args.calls.now in
    let old = g.B.RowCalls.calls c.args.calls.now in
    let begun = g.B.RowCalls.calls c.begin.new.calls in
    let mid = g.B.RowCalls.calls c.run_alone.new.calls in
    let new = g.B.RowCalls.calls c.give_up.new.calls in
    let block = Alone c.args.text.now in
    let stop = c.in-Err-run_alone.stop in
    let read = subst (ReadAs false c.args.text.now) c.in-Ok-Allowed.field-0-is c.in-Ok-Allowed.ensures.read in
    let begins = subst (λ b. Begins c.args.age old (Ok b) begun) c.in-Ok-Running.field-0-is c.in-Ok-Running.ensures.calls in
    let broken = subst (λ (ds : List TableDef). Broken ds block begun stop mid) c.begin.ensures.schema (c.in-Err-run_alone.ensures.runs c.args.text.now read) in
    begun_given_up defs block (c.in-Ok-Allowed.statement, read) c.args.age c.in-Ok-Running.age old begun begins c.give_up.result stop mid new broken c.give_up.ensures.calls

pub returns-in-Err-begin-clause-tries : goal.returns-in-Err-begin-clause-tries
returns-in-Err-begin-clause-tries g c =
    let old = g.B.RowCalls.calls c.args.calls.now in
    let new = g.B.RowCalls.calls c.begin.new.calls in
    let read = subst (ReadAs false c.args.text.now) c.in-Ok-Allowed.field-0-is c.in-Ok-Allowed.ensures.read in
    begin_failed _ c.args.age (Alone c.args.text.now) old c.in-Err-begin.stop c.failed.result new (c.in-Ok-Allowed.statement, read) c.in-Err-begin.ensures.calls.1 c.failed.ensures c.requires.idle c.in-Err-begin.ensures.calls.0

pub returns-in-Err-clause-tries : goal.returns-in-Err-clause-tries
returns-in-Err-clause-tries g c =
    let defs = g.B.RowCalls.defs c.args.calls.now in
    let old = g.B.RowCalls.calls c.args.calls.now in
    let block = Alone c.args.text.now in
    let is = subst (λ (stop : Stop). FailsAs stop c.failed-in-Err.result) c.in-Err.ensures.memory c.failed-in-Err.ensures in
    subst (λ (tried : Tried). Tries defs c.args.age block old tried old) (sym is) (no_memory defs c.args.age block old c.requires.idle)
