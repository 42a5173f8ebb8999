use Rattle.std.proofs.Common.{◌≡◌, ◌∙◌, ap, sym, length, set, Some, List, ℕ}
use Rattle.block_pool.proofs.FlatLaws.{one_written}
use Rattle.slot_pages.proofs.bytes.put.Goals as goal

pub returns : goal.returns
returns c =
    one_written c.args.pool.now c.args.block.now c.bytes_mut.result.now c.copy_from_slice.new.self c.bytes_mut.ensures.bytes c.bytes_mut.ensures.len (ap length c.copy_from_slice.ensures.after ∙ c.requires.len)
    ∙ ap (λ (w : List ℕ). set c.args.pool.now c.args.block.now (Some w)) c.copy_from_slice.ensures.after
