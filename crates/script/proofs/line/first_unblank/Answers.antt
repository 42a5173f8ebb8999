use Rattle.std.proofs.Common.{sym, ◌∙◌}
use Rattle.script.proofs.LineLaws.{unblank_at}
use Rattle.script.proofs.line.first_unblank.Goals as goal

pub returns-then-not-is_blank : goal.returns-then-not-is_blank
returns-then-not-is_blank c = unblank_at c.args.bytes.now c.loop-i.i c.loop-i-test.true c.loop-i.invariant (sym c.is_blank.ensures ∙ c.if-not-is_blank.true)
