use Rattle.slot_pages.specs.State.{IsPage}
use Rattle.test_rows.proofs.pages.the_first_free_slot_is_the_lowest_that_is_empty_and_not_held.Given as goal

abbrev pub invariant-loop-step : goal.invariant-loop-step
invariant-loop-step g l = IsPage l.pool l.page
