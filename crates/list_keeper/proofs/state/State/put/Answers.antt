use Rattle.std.proofs.Common.{Some}
use Rattle.key_space.specs.Plays.{Put}
use Rattle.op_log.specs.Changes.{put_bytes}
use Rattle.plain_model.specs.Calls.{AskPut}
use Rattle.list_keeper.proofs.Left.{answered, if_ok, running, uses_put}
use Rattle.list_keeper.specs.Kept.{defs_in}
use Rattle.list_keeper.proofs.state.State.put.Goals as goal

pub returns-clause-kept : goal.returns-clause-kept
returns-clause-kept c = λ calls kept.
    let s = c.args.self.now in
    let table = c.args.table in
    let row = c.args.row.now in
    let runs = running s.rows s.running s.bytes s.number calls c.requires.running kept in
    answered s.rows c.put-answer.new.self s.running s.bytes s.number calls c.put-answer.ensures.defs c.runs_on-self.result
    (AskPut table row) (λ done. Put table row) (Some (put_bytes (defs_in s) table)) c.put-answer.result
    c.requires.running c.runs_on-self.ensures (λ is. is) (uses_put (defs_in s) calls table row c.requires.table) (λ limit is. is) kept
    (if_ok _ c.put-answer.result (c.put-answer.ensures.done _ _ runs)) (c.put-answer.ensures.stopped _ _ runs)
