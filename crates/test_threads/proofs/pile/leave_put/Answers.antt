use Rattle.std.proofs.Common.{◌++◌, ap, sym, ◌∙◌}
use Rattle.turnstile.specs.History.{entries}
use Rattle.turnstile.specs.Words.{at, history}
use Rattle.test_threads.proofs.pile.leave_put.Goals as goal

pub leave-requires-clause-value : goal.leave-requires-clause-value
leave-requires-clause-value g c = let v = c.requires.value in (v.0, v.1, v.2 ∙ ap (λ es. (at c.args.turn).first ++ (entries (history c.args.turn) ++ es)) (sym c.requires.added))
