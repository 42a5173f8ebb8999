use Rattle.std.proofs.Common.{◌≡◌, ◌-◌, ◌*◌, drop}
use Rattle.row_types.specs.Slot.{slot_len}
use Rattle.row_types.specs.Page.{slots, slots_fault}
use Rattle.row_types.proofs.page.page_fault.Given as goal

abbrev pub invariant-loop-k : goal.invariant-loop-k
invariant-loop-k l =
    slots_fault l.columns 0 (slots l.columns) l.page ≡ slots_fault l.columns l.k (slots l.columns - l.k)
    (drop (l.k * slot_len l.columns) l.page)
