use Rattle.std.proofs.Common.{arith, ◌≡◌, ◌≤◌, ◌<◌, ◌*◌, ◌+◌, ◌-◌, ◌++◌, ◌∙◌, ap, ap₂, sym, subst, ℕ, List, Bool, true, Some, Err, Result, take, drop, length, get_or, replicate}
use Rattle.block_pool.specs.Blocks.{used}
use Rattle.block_pool.specs.Region.{IsKept, blocks_of, entries}
use Rattle.block_pool.specs.Runs.{IsFresh, Places}
use Rattle.block_pool.specs.declared.pool.PoolFull.{PoolFull}
use Rattle.block_pool.specs.declared.run.Run.{Run}
use Rattle.block_pool.proofs.RunLaws.{bytes_then, fresh_then, kept_as, kept_then, length-outs_then, marks_then, outs_then, pool_size, pool_then, region_then, size_then}
use Rattle.block_pool.proofs.pool.Pool.take_run.Goals as goal

pub returns-then-limit-from-clause-full : goal.returns-then-limit-from-clause-full
returns-then-limit-from-clause-full c =
    omega (arith, c.if-limit-from.true, c.from.ensures, c.from-2.ensures, c.used-used.ensures, c.len-limit.ensures, c.self.inside.outs.ok.0, pool_size c.self.inside.outs.items c.self.inside.region.items c.args.self.now c.self.view_is)

pub returns-then-limit-from-clause-tells : goal.returns-then-limit-from-clause-tells
returns-then-limit-from-clause-tells c =
    let size = pool_size c.self.inside.outs.items c.self.inside.region.items c.args.self.now c.self.view_is in
    let out : c.from-then-limit-from.result ≡ used c.args.self.now = omega (arith, c.from-then-limit-from.ensures, c.used-used.ensures) in
    let limit : c.len-limit.result ≡ length c.args.self.now = omega (arith, c.len-limit.ensures, c.self.inside.outs.ok.0, size) in
    ap₂ (λ (a b : ℕ). Err (record { used = a; limit = b })) out limit

fits : (c : goal.After-leave) → used c.args.self.now + c.args.n ≤ length c.self.inside.outs.items
fits c = omega (arith, c.if-limit-from.false, c.from.ensures, c.from-2.ensures, c.used-used.ensures, c.len-limit.ensures, c.self.inside.outs.ok.0)

marks : (c : goal.After-leave) → take c.self.inside.outs.len (c.mark.new.outs ++ drop (length c.mark.new.outs) c.self.inside.outs.items)
    ≡ outs_then c.self.inside.outs.items c.self.inside.region.items c.args.self.now c.args.n c.self.invariant.2 c.self.view_is c.requires (fits c)
marks c =
    marks_then c.self.inside.outs.items c.self.inside.region.items c.args.self.now c.args.n c.self.invariant.2 c.self.view_is c.requires (fits c) c.self.inside.outs.len c.used-used.result c.mark.new.outs (omega (arith, c.self.inside.outs.ok.0)) c.used-used.ensures
    (c.mark.ensures ∙ ap (λ (l : List Bool). take c.used-used.result l ++ replicate c.args.n true ++ drop (c.used-used.result + c.args.n) l) c.deref_mut.ensures.value)

bytes : (c : goal.After-leave) → take c.self.inside.region.len (c.clear.new.region ++ drop (length c.clear.new.region) c.self.inside.region.items)
    ≡ region_then c.self.inside.outs.items c.self.inside.region.items c.args.self.now c.args.n c.self.invariant.2 c.self.view_is c.requires (fits c)
bytes c =
    let place : c.start.result ≡ 4096 * used c.args.self.now = c.start.ensures.start ∙ ap (λ (run : Places). 4096 * run.first) c.at-run.ensures ∙ ap (λ (k : ℕ). 4096 * k) c.used-used.ensures in
    let size : c.len.result ≡ 4096 * c.args.n = c.len.ensures.len ∙ ap (λ (run : Places). 4096 * run.count) c.at-run.ensures in
    bytes_then c.self.inside.outs.items c.self.inside.region.items c.args.self.now c.args.n c.self.invariant.2 c.self.view_is c.requires (fits c) c.self.inside.region.len c.start.result c.len.result c.clear.new.region (omega (arith, c.self.inside.region.ok.0)) place size
    (c.clear.ensures ∙ ap (λ (l : List ℕ). take c.start.result l ++ replicate c.len.result 0 ++ drop (c.start.result + c.len.result) l) c.deref_mut-2.ensures.value)

pub invariant_of-self : goal.invariant_of-self
invariant_of-self c =
    let outs = c.self.inside.outs.items in
    let region = c.self.inside.region.items in
    let free = c.leave.new.free.items in
    let from : c.used-used.result + c.args.n ≡ used c.args.self.now + c.args.n = omega (arith, c.used-used.ensures) in
    let limit : c.len-limit.result ≡ length outs = omega (arith, c.len-limit.ensures, c.self.inside.outs.ok.0) in
    let len : length free ≡ length outs - (used c.args.self.now + c.args.n) = omega (arith, c.leave.ensures.len, from, limit) in
    let falling : (i : ℕ) → i < length outs - (used c.args.self.now + c.args.n) → get_or free i 0 ≡ length outs - 1 - i = λ i less. c.leave.ensures.falling i (omega (arith, less, from, limit)) ∙ omega (arith, limit) in
    let kept = kept_then outs region c.args.self.now c.args.n c.self.invariant.2 c.self.view_is c.requires (fits c) c.self.inside.free.items free c.self.invariant.0 len falling in
    let count = length-outs_then outs region c.args.self.now c.args.n c.self.invariant.2 c.self.view_is c.requires (fits c) in
    let size = size_then outs region c.args.self.now c.args.n c.self.invariant.2 c.self.view_is c.requires (fits c) in (
      kept_as _ _ _ _ free (marks c) (bytes c) kept,
      omega (arith, ap length (marks c), count, c.self.invariant.1, c.leave.ensures.room),
      omega (arith, ap length (marks c), ap length (bytes c), size),
    )

pub returns-clause-fits : goal.returns-clause-fits
returns-clause-fits c = omega (arith, fits c, pool_size c.self.inside.outs.items c.self.inside.region.items c.args.self.now c.self.view_is)

pub returns-clause-zeros : goal.returns-clause-zeros
returns-clause-zeros c =
    let outs = c.self.inside.outs.items in
    let region = c.self.inside.region.items in
    let count = length-outs_then outs region c.args.self.now c.args.n c.self.invariant.2 c.self.view_is c.requires (fits c) in
    ap₂ (λ (o : List Bool) (r : List ℕ). entries o (blocks_of (length o) r)) (marks c) (bytes c)
    ∙ ap (λ (k : ℕ). entries (outs_then outs region c.args.self.now c.args.n c.self.invariant.2 c.self.view_is c.requires (fits c)) (blocks_of k (region_then outs region c.args.self.now c.args.n c.self.invariant.2 c.self.view_is c.requires (fits c)))) count
    ∙ pool_then outs region c.args.self.now c.args.n c.self.invariant.2 c.self.view_is c.requires (fits c)

pub returns-clause-fresh : goal.returns-clause-fresh
returns-clause-fresh c = fresh_then c.self.inside.outs.items c.self.inside.region.items c.args.self.now c.args.n c.self.invariant.2 c.self.view_is c.requires (fits c) _ (returns-clause-zeros c)
