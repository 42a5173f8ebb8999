use Rattle.std.proofs.Common.{refl}
use Rattle.block_pool.specs.Blocks.{zeros}
use Rattle.slot_pages.proofs.PageKept.{page_made, zeros_len}
use Rattle.slot_pages.proofs.page.Page.fresh.Goals as goal

pub returns-clause-kept : goal.returns-clause-kept
returns-clause-kept c =
    page_made c.args.pool.now c.take.new.self _ zeros c.in_ok-block.ensures.free c.in_ok-block.ensures.zeros
    zeros_len c.none_held.ensures refl
