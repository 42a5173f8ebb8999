use Rattle.std.proofs.Common.{inr, refl}
use Rattle.shell.proofs.call.call.Goals as goal

pub returns-in-Ok : goal.returns-in-Ok
returns-in-Ok g c = inr (inr (record {
  asks = c.if-not-is_run.ensures.0 refl;
  read = c.in-Ok.ensures.script.0;
  script = c.in-Ok.script;
  is = c.in-Ok.ensures.script.1;
  runs = c.run_script.ensures;
}))
