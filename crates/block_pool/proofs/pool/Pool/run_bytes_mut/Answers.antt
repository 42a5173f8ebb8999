use Rattle.std.proofs.Common.{arith, rules, ◌≡◌, ◌≤◌, ◌++◌, ◌*◌, ◌+◌, ◌-◌, ◌∙◌, ap, ap₂, refl, sym, subst, ℕ, List, take, drop, length}
use Rattle.std.proofs.lemmas.List.{length-take, length-drop}
use Rattle.block_pool.specs.Region.{blocks_of, entries}
use Rattle.block_pool.specs.Written.{written_over}
use Rattle.block_pool.proofs.FlatLaws.{kept_lent, lent_from}
use Rattle.block_pool.proofs.RunLaws.{run_inside, run_there}
use Rattle.block_pool.proofs.pool.Pool.run_bytes_mut.Goals as goal

pub slice_mut-requires-clause-in_bounds : goal.slice_mut-requires-clause-in_bounds
slice_mut-requires-clause-in_bounds c =
    let less = run_inside c.self.inside.outs.items c.self.inside.region.items c.args.self.now c.args.run.now _ c.self.invariant.2 c.self.view_is c.requires.1 in
    omega (arith, less.1, c.start-at.ensures.start, c.self.inside.region.ok.0)

pub invariant_of-self-lent : goal.invariant_of-self-lent
invariant_of-self-lent c = λ w.
    let less = run_inside c.self.inside.outs.items c.self.inside.region.items c.args.self.now c.args.run.now _ c.self.invariant.2 c.self.view_is c.requires.1 in
    let kept = kept_lent c.self.inside.outs.items c.self.inside.region.items c.self.inside.free.items c.self.inside.region.len c.start-at.result w c.self.invariant.0 c.self.invariant.2 (omega (arith, c.self.inside.region.ok.0)) (omega (arith, less.1, c.start-at.ensures.start)) in
    (kept.0, c.self.invariant.1, kept.1)

pub returns : goal.returns
returns c =
    let outs = c.self.inside.outs.items in
    let region = c.self.inside.region.items in
    let run = c.args.run.now in
    let less = run_inside outs region c.args.self.now run _ c.self.invariant.2 c.self.view_is c.requires.1 in
    let len : c.self.inside.region.len ≡ length region = omega (arith, c.self.inside.region.ok.0) in
    let size : c.start-at.result + c.len.result - c.start-at.result ≡ 4096 * run.count = omega (arith, c.len.ensures.len) in
    let as_written = λ (w : List ℕ) (n at : ℕ).
    entries outs (blocks_of (length outs) (take n (take at region ++ (w ++ drop (length w) (drop at region)) ++ drop (length (take at region ++ (w ++ drop (length w) (drop at region)))) region))) in
    let there : c.slice_mut.result.now ≡ take (4096 * run.count) (drop (4096 * run.first) region) =
    c.slice_mut.ensures.value ∙ ap₂ (λ (n at : ℕ). take n (drop at region)) size c.start-at.ensures.start in (
      (refl, λ w. ap₂ (as_written w) len c.start-at.ensures.start ∙ lent_from outs region c.args.self.now run.first w c.self.invariant.2 c.self.view_is (omega (arith, less.0))),
      record {
        writes_back = tt;
        bytes = run_there outs region c.args.self.now run _ _ c.self.invariant.2 c.self.view_is c.requires.1 there;
        len = ap length there ∙ omega (arith, length-take (4096 * run.count) (drop (4096 * run.first) region), length-drop (4096 * run.first) region, less.1);
      },
    )
