use Rattle.std.proofs.Common.{◌≡◌, ◌∙◌, ap, sym, length, set, Option, Some, List, ℕ}
use Rattle.block_pool.proofs.FlatLaws.{one_written}
use Rattle.fields.specs.Toggle.{byte_from, toggled}
use Rattle.fields.proofs.ToggleLaws.{length-toggled}
use Rattle.slot_pages.proofs.bytes.toggle_block.Goals as goal

pub returns : goal.returns
returns c = λ bytes holds.
    let pool = c.args.pool.now in
    let block = c.args.block.now in
    let lent = c.bytes_mut.result.now in
    let both : ◌≡◌ {A = Option (Option (List ℕ))} (Some (Some lent)) (Some (Some bytes)) = sym c.bytes_mut.ensures.bytes ∙ holds in
    let same : lent ≡ bytes = cc in
    let new : c.toggle.new.bytes ≡ toggled (byte_from c.args.offset) bytes c.args.xor.now = c.toggle.ensures ∙ ap (λ (l : List ℕ). toggled (byte_from c.args.offset) l c.args.xor.now) same in
    let size : length c.toggle.new.bytes ≡ 4096 = ap length c.toggle.ensures ∙ length-toggled (byte_from c.args.offset) lent c.args.xor.now ∙ c.bytes_mut.ensures.len in
    one_written pool block lent c.toggle.new.bytes c.bytes_mut.ensures.bytes c.bytes_mut.ensures.len size ∙ ap (λ (w : List ℕ). set pool block (Some w)) new
