use Rattle.std.proofs.lemmas.Result.{on_ok_weaker}
use Rattle.lane_format.proofs.window.Window.reach.Goals as goal

pub returns-clause-covers : goal.returns-clause-covers
returns-clause-covers g c = on_ok_weaker c.fill.result (λ covers. covers c.args.n c.requires.inside c.requires.few) c.fill.ensures.covers
