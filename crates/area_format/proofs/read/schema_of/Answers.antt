use Rattle.std.proofs.Common.{arith}
use Rattle.area_format.proofs.Bodies.{schema_read}
use Rattle.area_format.proofs.read.schema_of.Goals as goal

pub returns : goal.returns
returns c = schema_read c.args.text.now c.read_schema.result (λ i. omega (arith, c.type_inv.text i)) c.read_schema.ensures.found c.read_schema.ensures.only
