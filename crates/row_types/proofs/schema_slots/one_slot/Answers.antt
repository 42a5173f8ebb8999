use Rattle.row_types.proofs.SlotLaws.{one_row}
use Rattle.row_types.proofs.schema_slots.one_slot.Goals as goal

pub returns : goal.returns
returns c = one_row
