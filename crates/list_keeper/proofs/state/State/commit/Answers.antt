use Rattle.std.proofs.Common.{arith}
use Rattle.list_keeper.proofs.Left.{has_committed, running}
use Rattle.list_keeper.proofs.state.State.commit.Goals as goal

pub overflow_add-self : goal.overflow_add-self
overflow_add-self c = omega (arith, c.requires.kept.1.few, c.batch_bytes.ensures.few)

pub returns-clause-kept : goal.returns-clause-kept
returns-clause-kept c = λ calls kept.
    let s = c.args.self.now in
    let idle = c.in_ok-commit.ensures.idle _ _ (running s.rows s.running s.bytes s.number calls c.requires.running kept) in
    has_committed s.rows c.commit.new.self s.running s.bytes s.number calls c.commit.ensures.defs kept
    c.batch_bytes.result c.requires.running idle idle.short (c.batch_bytes.ensures.value _ _ idle)
