use Rattle.std.proofs.Common.{Some}
use Rattle.key_space.specs.Plays.{Del}
use Rattle.op_log.specs.Changes.{del_bytes}
use Rattle.plain_model.specs.Calls.{AskDel}
use Rattle.list_keeper.proofs.Left.{answered, running, uses_del}
use Rattle.list_keeper.specs.Kept.{defs_in}
use Rattle.list_keeper.proofs.state.State.del.Goals as goal

pub returns-clause-kept : goal.returns-clause-kept
returns-clause-kept c = λ calls kept.
    let s = c.args.self.now in
    let table = c.args.table in
    let key = c.args.key.number in
    let runs = running s.rows s.running s.bytes s.number calls c.requires.running kept in
    answered s.rows c.del-answer.new.self s.running s.bytes s.number calls c.del-answer.ensures.defs c.runs_on-self.result
    (AskDel table key) (Del table key) (Some del_bytes) c.del-answer.result
    c.requires.running c.runs_on-self.ensures (λ is. is) (uses_del (defs_in s) calls table key) (λ limit is. is) kept
    (c.del-answer.ensures.done _ _ runs) (c.del-answer.ensures.stopped _ _ runs)
