use Rattle.std.proofs.Common.{None}
use Rattle.key_space.specs.Plays.{Get}
use Rattle.plain_model.specs.Calls.{AskGet}
use Rattle.list_keeper.specs.Kept.{defs_in}
use Rattle.list_keeper.proofs.Left.{answered, running, uses_none}
use Rattle.list_keeper.proofs.state.State.get.Goals as goal

pub returns-clause-kept : goal.returns-clause-kept
returns-clause-kept c = λ calls kept.
    let s = c.args.self.now in
    let table = c.args.table in
    let key = c.args.key.number in
    let runs = running s.rows s.running s.bytes s.number calls c.requires.running kept in
    answered s.rows c.get-answer.new.self s.running s.bytes s.number calls c.get-answer.ensures.defs c.runs_on-self.result
    (AskGet table key) (Get table key) None c.get-answer.result
    c.requires.running c.runs_on-self.ensures (λ is. is) (uses_none (defs_in s) calls (AskGet table key)) (λ limit is. is) kept
    (c.get-answer.ensures.done _ _ runs) (c.get-answer.ensures.stopped _ _ runs)
