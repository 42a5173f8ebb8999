use Rattle.list_keeper.proofs.Left.{running, was_undone}
use Rattle.list_keeper.proofs.state.State.undo.Goals as goal

pub returns-clause-kept : goal.returns-clause-kept
returns-clause-kept c = λ calls kept.
    let s = c.args.self.now in
    let runs = running s.rows s.running s.bytes s.number calls c.requires.running kept in
    was_undone s.rows c.undo.new.self s.running s.bytes s.number calls c.undo.ensures.defs kept
    c.requires.running (c.undo.ensures.idle _ _ runs)
