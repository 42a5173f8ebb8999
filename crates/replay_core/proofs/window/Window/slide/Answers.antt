use Rattle.std.proofs.Common.{◌-◌, take, ap, ◌∙◌, arith}
use Rattle.replay_core.proofs.WindowLaws.{slid}
use Rattle.replay_core.proofs.window.Window.slide.Goals as goal

pub returns-clause-window : goal.returns-clause-window
returns-clause-window c = λ content size inside window.
    let old = c.args.self.now in
    record {
      whole = omega (arith, c.copy_within.ensures.len, window.whole);
      short = omega (arith, window.short);
      inside = omega (arith, window.inside, c.if-at-self.false, c.if-at-self-2.false);
      bytes = λ bytes known. ap (take (old.len - (c.args.at - old.at))) c.copy_within.ensures.items ∙ slid old.bytes.items bytes old.at old.len c.args.at (window.bytes bytes known) c.requires (omega (arith, c.if-at-self.false)) (omega (arith, c.if-at-self-2.false));
    }
