use Rattle.std.proofs.Common.{refl, ◌∙◌}
use Rattle.block_pool.specs.Blocks.{zeros}
use Rattle.slot_pages.proofs.PageKept.{page_made, taken_holds, taken_written}
use Rattle.slot_pages.proofs.page.Page.from_image.Goals as goal

pub put-requires-clause-out : goal.put-requires-clause-out
put-requires-clause-out c = (
  zeros,
  taken_holds c.args.pool.now c.take.new.self c.in_ok-block.block c.in_ok-block.ensures.free c.in_ok-block.ensures.zeros,
)

pub returns-clause-pool : goal.returns-clause-pool
returns-clause-pool c = (
  c.in_ok-block.ensures.free,
  c.put.ensures ∙ taken_written c.args.pool.now c.take.new.self c.in_ok-block.block c.args.bytes.now c.args.bytes.now c.in_ok-block.ensures.zeros refl,
)

pub returns-clause-kept : goal.returns-clause-kept
returns-clause-kept c =
    page_made c.args.pool.now _ _ c.args.bytes.now c.in_ok-block.ensures.free
    (c.put.ensures ∙ taken_written c.args.pool.now c.take.new.self c.in_ok-block.block c.args.bytes.now c.args.bytes.now c.in_ok-block.ensures.zeros refl)
    c.requires c.none_held.ensures refl
