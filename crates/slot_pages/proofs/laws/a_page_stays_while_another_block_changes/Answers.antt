use Rattle.slot_pages.proofs.PageKept.{page_beside, bytes_beside}
use Rattle.slot_pages.proofs.laws.a_page_stays_while_another_block_changes.Goals as goal

pub returns-clause-page : goal.returns-clause-page
returns-clause-page c = page_beside

pub returns-clause-bytes : goal.returns-clause-bytes
returns-clause-bytes c = bytes_beside
