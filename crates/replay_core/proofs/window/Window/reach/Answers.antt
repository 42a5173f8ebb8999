use Rattle.std.proofs.Common.{subst, arith}
use Rattle.std.proofs.lemmas.Result.{on_ok_weaker}
use Rattle.replay_core.specs.Windows.{Covers}
use Rattle.replay_core.proofs.window.Window.reach.Goals as goal

pub fill-requires-clause-window : goal.fill-requires-clause-window
fill-requires-clause-window g c = c.slide.ensures.window (g.D.Disk.content c.args.disk.now) c.args.size (omega (arith, c.requires.inside)) c.requires.window

pub returns-clause-covers : goal.returns-clause-covers
returns-clause-covers g c =
    let at = c.slide.ensures.at in
    on_ok_weaker c.fill.result
    (λ covers. subst (λ k. Covers k c.args.n c.fill.new.self) at (covers c.args.n (omega (arith, at, c.requires.inside)) c.requires.few))
    c.fill.ensures.covers
