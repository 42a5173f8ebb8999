use Rattle.slot_pages.proofs.TwiceLaws.{twice}
use Rattle.slot_pages.proofs.laws.a_page_toggled_twice_is_as_before.Goals as goal

pub returns : goal.returns
returns c = twice
