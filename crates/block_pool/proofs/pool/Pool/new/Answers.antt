use Rattle.std.proofs.Common.{◌≡◌, ◌*◌, ap, ◌∙◌, length, rules, replicate, false, arith, List}
use Rattle.std.proofs.lemmas.List.{length-replicate}
use Rattle.block_pool.proofs.FlatLaws.{length-blocks_of}
use Rattle.block_pool.proofs.RegionLaws.{entries_none, kept_new}
use Rattle.block_pool.specs.Region.{blocks_of, entries}
use Rattle.block_pool.proofs.pool.Pool.new.Goals as goal

pub invariant_of-result : goal.invariant_of-result
invariant_of-result c =
    let n = c.args.n in
    let outs = c.in_ok-outs.outs.items in
    let marks : outs ≡ replicate n false = search rules in
    let count : length outs ≡ n = ap length marks ∙ length-replicate n false in
    let blocks = blocks_of (length outs) c.in_ok-region.region.items in
    let kept = kept_new n blocks outs c.in_ok-free.free.items (omega (arith, c.ranges.n)) marks (length-blocks_of (length outs) c.in_ok-region.region.items ∙ count) c.in_ok-free.ensures.len c.in_ok-free.ensures.falling in
    (kept, omega (arith, count, c.in_ok-free.ensures.room), omega (arith, count, c.in_ok-region.ensures.len, c.in_ok-region.region.ok.0))

pub returns : goal.returns
returns c =
    let n = c.args.n in
    let marks : c.in_ok-outs.outs.items ≡ replicate n false = search rules in
    let region = c.in_ok-region.region.items in
    ap (λ (o : List _). entries o (blocks_of (length o) region)) marks ∙ entries_none n (blocks_of (length (replicate n false)) region) (length-blocks_of (length (replicate n false)) region ∙ length-replicate n false)
