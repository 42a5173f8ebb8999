use Rattle.std.proofs.Common.{rules, refl}
use Rattle.olfit_rule.proofs.Keeps.{ends}
use Rattle.olfit_rule.proofs.writer.end_change.Goals as goal

pub store-requires : goal.store-requires
store-requires g c = (search rules, search rules, ends _ _ _ c.args.node c.args.new _ c.requires.inside.2 c.requires.own.1 c.requires.version c.requires.good c.requires.lasts)

pub returns-clause-view : goal.returns-clause-view
returns-clause-view g c = c.store.ensures.2.1 c.args.node refl
