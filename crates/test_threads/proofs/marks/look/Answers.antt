use Rattle.std.proofs.Common.{◌++◌, sym, ap, ◌∙◌}
use Rattle.turnstile.specs.History.{entries}
use Rattle.turnstile.specs.Words.{history}
use Rattle.test_threads.proofs.marks.look.Goals as goal

pub leave_same-requires-clause-value : goal.leave_same-requires-clause-value
leave_same-requires-clause-value g c = let e = c.enter-turn.ensures.value in (e.0, e.1, e.2 ∙ ap (λ n. n.first.items.items ++ entries (history c.enter-turn.result)) (sym c.enter-turn.ensures.turnstile))
