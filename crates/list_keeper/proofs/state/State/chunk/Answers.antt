use Rattle.std.proofs.Common.{None}
use Rattle.key_space.specs.Plays.{Part}
use Rattle.plain_model.specs.Calls.{AskChunk}
use Rattle.list_keeper.proofs.Left.{answered, running, uses_none}
use Rattle.list_keeper.specs.Kept.{defs_in}
use Rattle.list_keeper.proofs.state.State.chunk.Goals as goal

pub returns-clause-kept : goal.returns-clause-kept
returns-clause-kept c = λ calls kept.
    let s = c.args.self.now in
    let table = c.args.table in
    let range = c.args.range in
    let runs = running s.rows s.running s.bytes s.number calls c.requires.running kept in
    answered s.rows c.chunk-answer.new.self s.running s.bytes s.number calls c.chunk-answer.ensures.defs c.runs_on-self.result
    (AskChunk table range) (λ piece. Part table range.lo.number piece.upto.number piece.rows) None c.chunk-answer.result
    c.requires.running c.runs_on-self.ensures (λ is. is) (uses_none (defs_in s) calls (AskChunk table range)) (λ limit is. is) kept
    (c.chunk-answer.ensures.done _ _ runs) (c.chunk-answer.ensures.stopped _ _ runs)
