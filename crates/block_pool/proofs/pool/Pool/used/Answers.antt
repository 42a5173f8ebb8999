use Rattle.std.proofs.Common.{length, arith}
use Rattle.block_pool.proofs.RegionLaws.{used_of}
use Rattle.block_pool.specs.Region.{blocks_of}
use Rattle.block_pool.proofs.pool.Pool.used.Goals as goal

pub returns : goal.returns
returns c = omega (arith, used_of c.self.inside.outs.items (blocks_of (length c.self.inside.outs.items) c.self.inside.region.items) c.self.inside.free.items c.args.self.now c.self.invariant.0 c.self.view_is, c.len.ensures, c.len-2.ensures, c.self.inside.outs.ok.0, c.self.inside.free.ok.0)
