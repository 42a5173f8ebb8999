use Rattle.std.proofs.Common.{length, ◌++◌, ◌∷◌, [], subst, sym, ap, set, false, ◌∙◌, arith}
use Rattle.std.proofs.lemmas.List.{length-set}
use Rattle.block_pool.proofs.RegionLaws.{out_of, room_of, kept_give, emptied_of}
use Rattle.block_pool.specs.Region.{blocks_of, entries, IsKept}
use Rattle.block_pool.proofs.pool.Pool.give.Goals as goal

pub index_mut-requires : goal.index_mut-requires
index_mut-requires c =
    let out = out_of c.self.inside.outs.items (blocks_of (length c.self.inside.outs.items) c.self.inside.region.items) c.args.self.now c.args.block _ c.self.invariant.0.whole c.self.view_is c.requires.1 in
    omega (arith, out.0, c.place-place.ensures, c.self.invariant.0.whole, c.self.inside.outs.ok.0)

pub push_reserved-requires : goal.push_reserved-requires
push_reserved-requires c =
    let out = out_of c.self.inside.outs.items (blocks_of (length c.self.inside.outs.items) c.self.inside.region.items) c.args.self.now c.args.block _ c.self.invariant.0.whole c.self.view_is c.requires.1 in
    omega (arith, room_of c.self.inside.outs.items (blocks_of (length c.self.inside.outs.items) c.self.inside.region.items) c.self.inside.free.items c.args.block c.self.invariant.0 out.0 out.1, c.self.invariant.1, c.self.inside.free.ok.0)

pub invariant_of-self : goal.invariant_of-self
invariant_of-self c =
    let outs = c.self.inside.outs.items in
    let region = c.self.inside.region.items in
    let block = c.args.block in
    let place = c.place-place.result in
    let free = c.push_reserved.new.self.items in
    let out = out_of outs (blocks_of (length outs) region) c.args.self.now block _ c.self.invariant.0.whole c.self.view_is c.requires.1 in
    let kept = kept_give outs (blocks_of (length outs) region) c.self.inside.free.items block c.self.invariant.0 out.0 out.1 in
    let same = sym c.place-place.ensures in
    let given = subst (IsKept (set outs block false) (blocks_of (length outs) region)) (ap (λ p. c.self.inside.free.items ++ p ∷ []) same ∙ sym c.push_reserved.ensures.items) kept in
    let count = length-set outs place false in (
      subst (λ n. IsKept (set outs place false) (blocks_of n region) free) (sym count) (subst (λ p. IsKept (set outs p false) (blocks_of (length outs) region) free) same given),
      omega (arith, c.self.invariant.1, c.push_reserved.ensures.capacity, count),
      omega (arith, c.self.invariant.2, count),
    )

pub returns : goal.returns
returns c =
    let outs = c.self.inside.outs.items in
    let region = c.self.inside.region.items in
    ap (λ n. entries (set outs c.place-place.result false) (blocks_of n region)) (length-set outs c.place-place.result false)
    ∙ ap (λ p. entries (set outs p false) (blocks_of (length outs) region)) c.place-place.ensures
    ∙ emptied_of outs (blocks_of (length outs) region) c.args.self.now c.args.block _ c.self.invariant.0.whole c.self.view_is c.requires.1
