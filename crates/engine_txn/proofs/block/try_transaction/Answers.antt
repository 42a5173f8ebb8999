use Rattle.std.proofs.Common.{◌≡◌, List, [], ◌∷◌, ◌++◌, Ok, refl, ap, subst, ◌∙◌}
use Rattle.row_types.specs.declared.block.Block.TheVariants.{Transaction as Behind}
use Rattle.row_types.specs.declared.definition.TableDef.{TableDef}
use Rattle.plain_model.specs.declared.reply.Reply.{Reply}
use Rattle.plain_model.specs.declared.reply.Reply.TheVariants.{Refused}
use Rattle.plain_model.specs.Blocks.{without_block}
use Rattle.engine_txn.specs.declared.tried.Tried.TheVariants.{Said}
use Rattle.engine_txn.specs.Steps.{Begins}
use Rattle.engine_txn.specs.Progress.{Answered, Broken, rest_of}
use Rattle.engine_txn.proofs.Outcomes.{begin_failed, begun_given_up, begun_said, behind_not_begun, no_memory}
use Rattle.engine_txn.proofs.block.try_transaction.Goals as goal

pub returns-in_default-clause-tries : goal.returns-in_default-clause-tries
returns-in_default-clause-tries g c = no_memory _ c.args.age (Behind c.args.t.now) (g.B.RowCalls.calls c.args.calls.now) c.requires.idle

pub returns-in-Ok-Refused-clause-tries : goal.returns-in-Ok-Refused-clause-tries
returns-in-Ok-Refused-clause-tries g c =
    let old = g.B.RowCalls.calls c.args.calls.now in
    let new = g.B.RowCalls.calls c.begin.new.calls in
    let t = c.args.t.now in
    let refusal = c.in-Ok-Refused.refusal in
    let begins = subst (λ b. Begins c.args.age old (Ok b) new) c.in-Ok-Refused.field-0-is c.in-Ok-Refused.ensures.calls in
    let one : c.push_reserved.new.self.items ≡ Refused refusal ∷ [] = c.push_reserved.ensures.items ∙ ap (λ (l : List Reply). l ++ Refused refusal ∷ []) c.in-Ok.ensures.items in
    let says : c.add_no_block.new.replies.items ≡ Refused refusal ∷ without_block t.statements t.end = c.add_no_block.ensures ∙ ap (λ (l : List Reply). l ++ without_block (rest_of t l) t.end) one in
    behind_not_begun _ c.args.age t old (Said c.add_no_block.new.replies) refusal begins.0 new says begins.2 begins.1 c.requires.idle

pub returns-in-Ok-run_begun-clause-tries : goal.returns-in-Ok-run_begun-clause-tries
returns-in-Ok-run_begun-clause-tries g c =
    let defs = g.B.RowCalls.defs c.args.calls.now in
    let old = g.B.RowCalls.calls c.args.calls.now in
    let begun = g.B.RowCalls.calls c.begin.new.calls in
    let new = g.B.RowCalls.calls c.run_begun.new.calls in
    let block = Behind c.args.t.now in
    let list = c.run_begun.new.replies.items in
    let begins = subst (λ b. Begins c.args.age old (Ok b) begun) c.in-Ok-Running.field-0-is c.in-Ok-Running.ensures.calls in
    let answered = subst (λ (ds : List TableDef). Answered ds block begun list new) c.begin.ensures.schema c.in-Ok-run_begun.ensures.runs in
    begun_said defs block tt c.args.age c.in-Ok-Running.age old begun begins (Said c.run_begun.new.replies) list new refl answered

pub returns-in-Err-run_begun-clause-tries : goal.returns-in-Err-run_begun-clause-tries
returns-in-Err-run_begun-clause-tries g c =
    let defs = g.B.RowCalls.defs c.args.calls.now in
    let old = g.B.RowCalls.calls c.args.calls.now in
    let begun = g.B.RowCalls.calls c.begin.new.calls in
    let mid = g.B.RowCalls.calls c.run_begun.new.calls in
    let new = g.B.RowCalls.calls c.give_up.new.calls in
    let block = Behind c.args.t.now in
    let stop = c.in-Err-run_begun.stop in
    let begins = subst (λ b. Begins c.args.age old (Ok b) begun) c.in-Ok-Running.field-0-is c.in-Ok-Running.ensures.calls in
    let broken = subst (λ (ds : List TableDef). Broken ds block begun stop mid) c.begin.ensures.schema c.in-Err-run_begun.ensures.runs in
    begun_given_up defs block tt c.args.age c.in-Ok-Running.age old begun begins c.give_up.result stop mid new broken c.give_up.ensures.calls

pub returns-in-Err-clause-tries : goal.returns-in-Err-clause-tries
returns-in-Err-clause-tries g c =
    let old = g.B.RowCalls.calls c.args.calls.now in
    let new = g.B.RowCalls.calls c.begin.new.calls in
    begin_failed _ c.args.age (Behind c.args.t.now) old c.in-Err.stop c.failed.result new tt c.in-Err.ensures.calls.1 c.failed.ensures c.requires.idle c.in-Err.ensures.calls.0
