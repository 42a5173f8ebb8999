use Rattle.olfit_rule.specs.Rule.{IsSame, Partly}
use Rattle.olfit_rule.proofs.writer.rewrite.Given as goal

abbrev pub invariant-loop-i : goal.invariant-loop-i
invariant-loop-i g l = IsSame l.fn.me l.me × Partly l.node l.i l.words l.fn.me.me.0 l.me.me.0
