use Rattle.std.proofs.Common.{arith, ◌≡◌, ◌*◌, ◌∙◌, ap, ap₂, ℕ, List, take, drop, length}
use Rattle.std.proofs.lemmas.List.{length-take, length-drop}
use Rattle.block_pool.proofs.RunLaws.{run_inside, run_there}
use Rattle.block_pool.proofs.pool.Pool.run_bytes.Goals as goal

there : (c : goal.After-part) → c.part.result.now ≡ take (4096 * c.args.run.now.count) (drop (4096 * c.args.run.now.first) c.self.inside.region.items)
there c =
    let region = c.self.inside.region.items in
    c.part.ensures ∙ ap₂ (λ (n : ℕ) (bytes : List ℕ). take c.len.result (drop n bytes)) c.start.ensures.start c.deref.ensures.value
    ∙ ap (λ (n : ℕ). take n (drop (4096 * c.args.run.now.first) region)) c.len.ensures.len

pub part-requires : goal.part-requires
part-requires c =
    let less = run_inside c.self.inside.outs.items c.self.inside.region.items c.args.self.now c.args.run.now _ c.self.invariant.2 c.self.view_is c.requires.1 in
    omega (arith, less.1, c.start.ensures.start, c.len.ensures.len, ap length c.deref.ensures.value)

pub returns-clause-bytes : goal.returns-clause-bytes
returns-clause-bytes c = run_there c.self.inside.outs.items c.self.inside.region.items c.args.self.now c.args.run.now _ c.part.result.now c.self.invariant.2 c.self.view_is c.requires.1 (there c)

pub returns-clause-len : goal.returns-clause-len
returns-clause-len c =
    let region = c.self.inside.region.items in
    let run = c.args.run.now in
    let less = run_inside c.self.inside.outs.items region c.args.self.now run _ c.self.invariant.2 c.self.view_is c.requires.1 in
    ap length (there c) ∙ omega (arith, length-take (4096 * run.count) (drop (4096 * run.first) region), length-drop (4096 * run.first) region, less.1)
