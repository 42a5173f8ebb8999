use Rattle.lane_writer.proofs.steps.put.Goals as goal

pub returns-then-odd-clause-durable : goal.returns-then-odd-clause-durable
returns-then-odd-clause-durable g c = rw c.if-odd.true c.put_down.ensures.durable

pub returns-else-odd-clause-durable : goal.returns-else-odd-clause-durable
returns-else-odd-clause-durable g c = rw c.if-odd.false c.put_down-else-odd.ensures.durable
