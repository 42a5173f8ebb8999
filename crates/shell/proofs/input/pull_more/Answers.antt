use Rattle.std.proofs.Common.{List, ℕ, sym, subst}
use Rattle.io_edge.specs.Runs.{ReadsOn}
use Rattle.shell.proofs.InputSoFar.{one_more_piece}
use Rattle.shell.proofs.input.pull_more.Goals as goal

pub returns-clause-read : goal.returns-clause-read
returns-clause-read g c start so_far =
    let s = g.S.Source in
    let before = c.args.input.now.items in
    let added = one_more_piece s start c.args.source.now c.pull.new.self before c.pull.new.into c.in-Ok.n c.in-Ok.ensures.bound c.in-Ok.ensures.gives c.in-Ok.ensures.cause.still so_far in
    subst (λ (l : List ℕ). ReadsOn s start c.pull.new.self l) (sym c.in_ok-extend_from_slice.ensures.items) added
