use Rattle.std.proofs.Common.{arith, ◌≡◌, ◌*◌, ◌∙◌, ap, ap₂, ℕ, List, take, drop, length}
use Rattle.std.proofs.lemmas.List.{length-take, length-drop}
use Rattle.block_pool.proofs.FlatLaws.{lies_inside, stands_there}
use Rattle.block_pool.proofs.pool.Pool.bytes.Goals as goal

pub part-requires : goal.part-requires
part-requires c =
    let less = lies_inside c.self.inside.outs.items c.self.inside.region.items c.args.self.now c.args.block.now _ c.self.invariant.2 c.self.view_is c.requires.1 in
    omega (arith, less.1, c.start.ensures.start, ap length c.deref.ensures.value)

pub returns-clause-bytes : goal.returns-clause-bytes
returns-clause-bytes c =
    let there : c.part.result.now ≡ take 4096 (drop (4096 * c.args.block.now) c.self.inside.region.items) =
    c.part.ensures ∙ ap₂ (λ (n : ℕ) (bytes : List ℕ). take 4096 (drop n bytes)) c.start.ensures.start c.deref.ensures.value in
    stands_there c.self.inside.outs.items c.self.inside.region.items c.args.self.now c.args.block.now _ c.part.result.now c.self.invariant.2 c.self.view_is c.requires.1 there

pub returns-clause-len : goal.returns-clause-len
returns-clause-len c =
    let less = lies_inside c.self.inside.outs.items c.self.inside.region.items c.args.self.now c.args.block.now _ c.self.invariant.2 c.self.view_is c.requires.1 in
    omega (arith, ap length c.part.ensures, length-take 4096 (drop c.start.result c.deref.result.now), length-drop c.start.result c.deref.result.now, ap length c.deref.ensures.value, c.start.ensures.start, less.1)
