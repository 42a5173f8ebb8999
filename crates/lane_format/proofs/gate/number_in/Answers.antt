use Rattle.std.proofs.Common.{arith}
use Rattle.std.proofs.lemmas.Nat.{le_bytes_4}
use Rattle.lane_format.proofs.gate.number_in.Goals as goal

pub returns-clause-bytes : goal.returns-clause-bytes
returns-clause-bytes c = le_bytes_4 c.args.bytes.now c.from_le_bytes.result c.requires (λ i. omega (arith, c.type_inv.bytes i)) c.from_le_bytes.ensures
