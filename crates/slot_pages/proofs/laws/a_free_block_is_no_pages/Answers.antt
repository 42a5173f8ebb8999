use Rattle.slot_pages.proofs.PageKept.{free_is_no_pages}
use Rattle.slot_pages.proofs.laws.a_free_block_is_no_pages.Goals as goal

pub returns : goal.returns
returns c = free_is_no_pages
