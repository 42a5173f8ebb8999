use Rattle.std.proofs.Common.{◌≡◌, subst, arith}
use Rattle.std.proofs.lemmas.Grind.{common_steps}
use Rattle.row_types.proofs.Cells.{text_of_no_fault}
use Rattle.row_types.specs.Slot.{cell_fault}
use Rattle.row_types.proofs.slot.cell_value.Goals as goal

pub from_utf8_unchecked-text-requires : goal.from_utf8_unchecked-text-requires
from_utf8_unchecked-text-requires c =
    let sound = subst (λ k. cell_fault c.requires.sound.0 k c.args.bytes.now ≡ _) c.in-Text.is c.requires.sound.1 in
    let utf8 = text_of_no_fault c.requires.sound.0 c.in-Text.field-0 c.args.bytes.now sound in
    grind (arith, common_steps, utf8)
