use Rattle.std.proofs.Common.{rules, refl}
use Rattle.olfit_rule.proofs.Keeps.{writes}
use Rattle.olfit_rule.proofs.writer.write_word.Goals as goal

pub store-requires : goal.store-requires
store-requires c = (search rules, search rules, writes _ _ _ c.args.node c.args.word c.args.new c.requires.inside.3 c.requires.inside.2 c.requires.own.1 c.requires.latched.0 c.requires.latched.1)

pub returns-clause-view : goal.returns-clause-view
returns-clause-view c = c.store.ensures.2.1 c.args.node c.args.word refl c.requires.inside.2
