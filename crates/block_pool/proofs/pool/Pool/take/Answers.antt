use Rattle.std.proofs.Common.{◌≡◌, ◌+◌, ◌*◌, ◌++◌, ◌∷◌, [], List, ℕ, take, drop, length, subst, sym, ap, ap₂, set, true, ◌∙◌, arith, rules, Some}
use Rattle.std.proofs.lemmas.List.{length-set, length-replicate}
use Rattle.block_pool.proofs.FlatLaws.{block_replaced}
use Rattle.block_pool.proofs.RegionLaws.{last_free, kept_take, free_of, all_out, taken_of, full_of, length-entries}
use Rattle.block_pool.specs.Blocks.{used, zeros, IsFree}
use Rattle.block_pool.specs.Region.{blocks_of, entries, IsKept}
use Rattle.block_pool.proofs.pool.Pool.take.Goals as goal

length-zeros : length zeros ≡ 4096
unfolding zeros
length-zeros = length-replicate {A = ℕ} 4096 0

-- where the block that is taken begins, and what stands in the region then
at_place : (c : goal.After-self-2-1) → c.start.result ≡ 4096 * c.in-Some.place
at_place c = c.start.ensures.start ∙ ap (λ (k : ℕ). 4096 * k) c.at-block.ensures

text_now : (c : goal.After-self-2-1) → c.clear.new.region ≡ take c.start.result c.self.inside.region.items ++ zeros ++ drop (c.start.result + 4096) c.self.inside.region.items
unfolding zeros
text_now c = c.clear.ensures ∙ ap (λ (l : List ℕ). take c.start.result l ++ zeros ++ drop (c.start.result + 4096) l) c.deref_mut.ensures.value

pub returns-in_default-clause-full : goal.returns-in_default-clause-full
returns-in_default-clause-full c =
    let none : length c.self.inside.free.items ≡ 0 = search rules in
    all_out c.self.inside.outs.items (blocks_of (length c.self.inside.outs.items) c.self.inside.region.items) c.self.inside.free.items c.args.self.now c.self.invariant.0 c.self.view_is none

pub invariant_of-self-2 : goal.invariant_of-self-2
invariant_of-self-2 c =
    let was : c.self.inside.free.items ≡ c.pop.new.self.items ++ c.in-Some.place ∷ [] = search rules in
    let outs = c.self.inside.outs.items in
    let region = c.self.inside.region.items in
    let n = length outs in
    let p = c.in-Some.place in
    let kept = subst (IsKept outs (blocks_of n region)) was c.self.invariant.0 in
    let less = (last_free outs (blocks_of n region) c.pop.new.self.items p kept).0 in
    let now = block_replaced n p c.self.inside.region.len c.start.result region c.clear.new.region zeros less c.self.invariant.2 (omega (arith, c.self.inside.region.ok.0)) (at_place c) (text_now c) length-zeros in
    let count = length-set outs p true in
    let text = take c.self.inside.region.len (c.clear.new.region ++ drop (length c.clear.new.region) region) in (
      subst (λ (m : ℕ). IsKept (set outs p true) (blocks_of m text) c.pop.new.self.items) (sym count)
          (subst (λ (blocks : List (List ℕ)). IsKept (set outs p true) blocks c.pop.new.self.items) (sym now.0) (kept_take outs (blocks_of n region) c.pop.new.self.items p zeros kept)),
      omega (arith, c.self.invariant.1, c.pop.ensures.capacity, count),
      omega (arith, now.1, count),
    )

pub returns-clause-free : goal.returns-clause-free
returns-clause-free c =
    let was : c.self.inside.free.items ≡ c.pop.new.self.items ++ c.in-Some.place ∷ [] = search rules in
    let outs = c.self.inside.outs.items in
    let blocks = blocks_of (length outs) c.self.inside.region.items in
    subst (IsFree c.args.self.now) (sym c.at-block.ensures) (free_of outs blocks c.pop.new.self.items c.in-Some.place c.args.self.now (subst (IsKept outs blocks) was c.self.invariant.0) c.self.view_is)

pub returns-clause-zeros : goal.returns-clause-zeros
returns-clause-zeros c =
    let was : c.self.inside.free.items ≡ c.pop.new.self.items ++ c.in-Some.place ∷ [] = search rules in
    let outs = c.self.inside.outs.items in
    let region = c.self.inside.region.items in
    let n = length outs in
    let p = c.in-Some.place in
    let kept = subst (IsKept outs (blocks_of n region)) was c.self.invariant.0 in
    let less = (last_free outs (blocks_of n region) c.pop.new.self.items p kept).0 in
    let now = block_replaced n p c.self.inside.region.len c.start.result region c.clear.new.region zeros less c.self.invariant.2 (omega (arith, c.self.inside.region.ok.0)) (at_place c) (text_now c) length-zeros in
    let text = take c.self.inside.region.len (c.clear.new.region ++ drop (length c.clear.new.region) region) in
    ap (λ (m : ℕ). entries (set outs p true) (blocks_of m text)) (length-set outs p true) ∙ ap (entries (set outs p true)) now.0
    ∙ taken_of outs (blocks_of n region) c.args.self.now p zeros c.self.invariant.0.whole c.self.view_is ∙ ap (λ (k : ℕ). set c.args.self.now k (Some zeros)) (sym c.at-block.ensures)

pub returns-in_default-clause-tells : goal.returns-in_default-clause-tells
returns-in_default-clause-tells c =
    let none : length c.self.inside.free.items ≡ 0 = search rules in
    let full = all_out c.self.inside.outs.items (blocks_of (length c.self.inside.outs.items) c.self.inside.region.items) c.self.inside.free.items c.args.self.now c.self.invariant.0 c.self.view_is none in
    let long = length-entries c.self.inside.outs.items (blocks_of (length c.self.inside.outs.items) c.self.inside.region.items) c.self.invariant.0.whole in
    let limit : c.len-limit.result ≡ length c.args.self.now = omega (arith, c.len-limit.ensures, c.self.inside.outs.ok.0, long, ap length c.self.view_is) in
    full_of (used c.args.self.now) (length c.args.self.now) c.len-limit.result (limit ∙ sym full) limit
