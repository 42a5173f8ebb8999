use Rattle.std.proofs.Common.{subst, sym}
use Rattle.block_pool.specs.Blocks.{Holds}
use Rattle.slot_pages.specs.State.{bytes_in}
use Rattle.slot_pages.proofs.page.Page.skip_taken.Goals as goal

pub bytes-requires : goal.bytes-requires
bytes-requires c = (
  bytes_in c.args.pool.now c.args.self.now,
  subst (λ s. Holds c.args.pool.now s.block (bytes_in c.args.pool.now c.args.self.now))
      (sym c.self.view_is) c.requires.page.out,
)
