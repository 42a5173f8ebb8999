use Rattle.std.proofs.Common.{None}
use Rattle.key_space.specs.Plays.{UndoTo}
use Rattle.plain_model.specs.Calls.{AskUndoTo}
use Rattle.list_keeper.proofs.Left.{answered, if_ok, running, uses_none}
use Rattle.list_keeper.specs.Kept.{defs_in}
use Rattle.list_keeper.proofs.state.State.undo_to.Goals as goal

pub returns-clause-kept : goal.returns-clause-kept
returns-clause-kept c = λ calls kept is_mark.
    let s = c.args.self.now in
    let mark = c.args.mark in
    let runs = running s.rows s.running s.bytes s.number calls c.requires.running kept in
    answered s.rows c.undo_to-answer.new.self s.running s.bytes s.number calls c.undo_to-answer.ensures.defs c.runs_on-self.result
    (AskUndoTo mark) (λ done. UndoTo mark) None c.undo_to-answer.result
    c.requires.running c.runs_on-self.ensures (λ is. is) (uses_none (defs_in s) calls (AskUndoTo mark)) (λ limit is. is) kept
    (if_ok _ c.undo_to-answer.result (c.undo_to-answer.ensures.done _ _ runs is_mark)) (c.undo_to-answer.ensures.stopped _ _ runs)
