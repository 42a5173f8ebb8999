use Rattle.row_types.specs.Schema.{columns_at}
use Rattle.op_log.proofs.ChangeLaws.{slot_front, read_row, read_bad}
use Rattle.op_log.proofs.read.row_at.Goals as goal

pub returns-in-Ok-Some-clause-only : goal.returns-in-Ok-Some-clause-only
returns-in-Ok-Some-clause-only c = λ row rest fits e.
    read_row c.in-Ok-Some.field-0 c.in-Ok-Some.row row c.in-Ok-Some.field-0-is
    (c.in-Ok-Some.ensures.only row fits (slot_front (columns_at c.args.schema.now c.args.table) c.args.bytes.now row rest c.slot_len-len.result c.slot_len-len.ensures.value fits e))

pub returns-in-Err-BadSlot-clause-only : goal.returns-in-Err-BadSlot-clause-only
returns-in-Err-BadSlot-clause-only c = λ row rest fits e.
    read_bad c.in-Err-BadSlot.field-0 c.in-Err-BadSlot.field-0-0 row c.in-Err-BadSlot.field-0-is
    (c.in-Err-BadSlot.ensures.only row fits (slot_front (columns_at c.args.schema.now c.args.table) c.args.bytes.now row rest c.slot_len-len.result c.slot_len-len.ensures.value fits e))
