use Rattle.slot_pages.specs.State.{IsPage}
use Rattle.test_rows.proofs.pages.a_slot_that_is_toggled_twice_is_as_before.Given as goal

abbrev pub invariant-loop-offset : goal.invariant-loop-offset
invariant-loop-offset g l = IsPage l.pool l.page
