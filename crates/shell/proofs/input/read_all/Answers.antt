use Rattle.std.proofs.Common.{◌+◌, ◌≤◌, length, take, ap, arith}
use Rattle.std.proofs.lemmas.List.{length-take}
use Rattle.shell.specs.Input.{StopsWithin, read_limit}
use Rattle.shell.proofs.InputSoFar.{read_to_end, read_enough, stops_since, at_false}
use Rattle.shell.proofs.Words.{at_this}
use Rattle.shell.proofs.input.read_all.Goals as goal

pub returns-then-not-branch : goal.returns-then-not-branch
returns-then-not-branch g c =
    let s = g.S.Source in
    let start = c.args.source.now in
    let none = at_false _ c.in_ok-pull_more.field-0 c.if-not-branch.true c.in_ok-pull_more.ensures.more in
    let so_far = c.in_ok-pull_more.ensures.read start c.loop-piece.invariant.0 in
    let end = read_to_end s start c.pull_more.new.source c.pull_more.new.input.items so_far (omega (arith, ap length none.0, c.loop-piece.input.ok.0, c.loop-piece.invariant.1)) none.1 in
    record { read = end.0; input = end.1; stopped = tt }

pub returns-in_err-pull_more-clause-stopped : goal.returns-in_err-pull_more-clause-stopped
returns-in_err-pull_more-clause-stopped g c =
    let s = g.S.Source in
    let start = c.args.source.now in
    let mid = c.loop-piece.source in
    let new = c.pull_more.new.source in
    let fault = c.in_err-pull_more.field-0.0 in
    let input = c.loop-piece.input.items in
    let most = length (take c.min-room.result c.loop-piece.piece) in
    let fits : length input + most ≤ read_limit = omega (arith, c.loop-piece.input.ok.0, length-take c.min-room.result c.loop-piece.piece) in
    at_this (λ e. StopsWithin s read_limit e start new) c.from_residual.result fault c.from_residual.ensures.1
    (stops_since s start mid input c.loop-piece.invariant.0 most read_limit fault new fits c.in_err-pull_more.ensures.stopped)

pub returns-clause-input : goal.returns-clause-input
returns-clause-input g c =
    (read_enough g.S.Source c.args.source.now c.loop-piece.source c.loop-piece.input.items c.loop-piece.invariant.0 (omega (arith, c.loop-piece.input.ok.0, c.loop-piece.invariant.1))).1
