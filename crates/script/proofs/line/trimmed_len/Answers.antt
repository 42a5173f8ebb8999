use Rattle.std.proofs.Common.{sym, ◌∙◌, arith}
use Rattle.script.proofs.LineLaws.{trim_all, trim_ends, trim_less}
use Rattle.script.proofs.line.trimmed_len.Goals as goal

pub loop-len-preserved : goal.loop-len-preserved
loop-len-preserved c = record {
  same = trim_less c.args.line.now c.loop-len.len c.loop-len-test.true c.loop-len.invariant.within (sym c.is_blank.ensures ∙ c.if-is_blank.true) c.loop-len.invariant.same;
  within = omega arith;
}

pub returns-else-is_blank-clause-trimmed : goal.returns-else-is_blank-clause-trimmed
returns-else-is_blank-clause-trimmed c = trim_ends c.args.line.now c.loop-len.len c.loop-len-test.true c.loop-len.invariant.within (sym c.is_blank.ensures ∙ c.if-is_blank.false) c.loop-len.invariant.same

pub returns-after-loop-len-clause-trimmed : goal.returns-after-loop-len-clause-trimmed
returns-after-loop-len-clause-trimmed c = trim_all c.args.line.now c.loop-len.len c.loop-len-test.false c.loop-len.invariant.same
