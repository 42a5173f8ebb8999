use Rattle.std.proofs.Common.{◌∙◌}
use Rattle.list_keeper.proofs.Left.{has_begun, idle}
use Rattle.list_keeper.proofs.state.State.begin.Goals as goal

pub returns-clause-kept : goal.returns-clause-kept
returns-clause-kept c = λ age calls kept.
    let s = c.args.self.now in
    let forgot = c.forget.ensures.idle _ _ (idle s.rows s.running s.bytes s.number calls c.requires.idle kept) in
    has_begun s.rows c.begin.new.self s.running s.bytes s.number calls (c.begin.ensures.defs ∙ c.forget.ensures.defs) kept
    age c.in-Some.number c.requires.idle c.in-Some.ensures.1 c.if-self-gt-LOG_LIMIT.false (c.begin.ensures.running _ _ forgot)
