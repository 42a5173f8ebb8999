use Rattle.std.proofs.Common.{rules, ap}
use Rattle.olfit_rule.specs.Rule.{Sat}
use Rattle.olfit_rule.proofs.Keeps.{own_loads}
use Rattle.olfit_rule.proofs.writer.own_word.Goals as goal

pub load-requires : goal.load-requires
load-requires c = (search rules, search rules, own_loads _ _ _ c.args.node c.args.word c.requires.inside.3 c.requires.inside.2 c.requires.own.1)

pub returns-clause-same : goal.returns-clause-same
returns-clause-same c = ((search rules, search rules, ap (λ (m : Sat). m.1) c.load.ensures.2.0), ap (λ (m : Sat). m.0) c.load.ensures.2.0)
