use Rattle.script.proofs.LineLaws.{line_at, line_to_end}
use Rattle.script.proofs.line.line_len.Goals as goal

pub returns-then-byte-eq10-clause-line : goal.returns-then-byte-eq10-clause-line
returns-then-byte-eq10-clause-line c some = line_at c.args.bytes.now c.loop-i.i c.loop-i-test.true c.loop-i.invariant c.if-byte-eq10.true

pub returns-clause-line : goal.returns-clause-line
returns-clause-line c some = line_to_end c.args.bytes.now c.loop-i.i c.loop-i-test.false c.loop-i.invariant some
