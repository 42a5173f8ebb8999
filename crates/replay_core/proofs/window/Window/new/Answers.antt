use Rattle.std.proofs.Common.{refl, arith}
use Rattle.replay_core.proofs.window.Window.new.Goals as goal

pub returns : goal.returns
returns c = λ content size. record {
  whole = omega (arith, c.in_ok-bytes.ensures.len);
  short = omega arith;
  inside = omega arith;
  bytes = λ bytes known. refl;
}
