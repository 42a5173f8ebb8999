use Rattle.std.proofs.Common.{ℕ, ◌<◌, length, subst, sym, refl}
use Rattle.block_pool.specs.Blocks.{Holds}
use Rattle.slot_pages.specs.State.{bytes_in, IsPage, LiesOutside}
use Rattle.slot_pages.proofs.PageKept.{page_after}
use Rattle.slot_pages.proofs.page.Page.toggle.Goals as goal

pub toggle_block-requires-clause-out : goal.toggle_block-requires-clause-out
toggle_block-requires-clause-out c = (
  bytes_in c.args.pool.now c.args.self.now,
  subst (λ s. Holds c.args.pool.now s.block (bytes_in c.args.pool.now c.args.self.now))
      (sym c.self.view_is) c.requires.page.out,
)

pub returns-clause-kept : goal.returns-clause-kept
returns-clause-kept c =
    let page = subst (λ s. IsPage c.args.pool.now s) (sym c.self.view_is) c.requires.page in
    let lent = bytes_in c.args.pool.now c.args.self.now in
    let out = subst (λ s. Holds c.args.pool.now s.block lent) (sym c.self.view_is) c.requires.page.out in
    page_after c.args.pool.now _ _ _ c.args.xor.now lent _ c.args.offset page out refl (c.toggle_block.ensures lent out) refl refl refl c.still_taken.ensures.least c.still_taken.ensures.same

pub returns-clause-known : goal.returns-clause-known
returns-clause-known c =
    subst
    (λ s. (k : ℕ) → k < s.taken → LiesOutside s.len c.args.offset (length c.args.xor.now) k
    → k < c.still_taken.result)
    c.self.view_is c.still_taken.ensures.most
