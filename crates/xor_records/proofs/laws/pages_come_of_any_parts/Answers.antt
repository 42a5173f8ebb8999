use Rattle.xor_records.proofs.ReplayLaws.{any_parts}
use Rattle.xor_records.proofs.laws.pages_come_of_any_parts.Goals as goal

pub returns : goal.returns
returns c = any_parts
