use Rattle.block_pool.proofs.FlatLaws.{filled}
use Rattle.block_pool.proofs.pool.clear.Goals as goal

pub returns : goal.returns
returns c = filled c.args.at c.args.len 0 c.args.region.now c.fill_zeros.new.bytes c.requires c.fill_zeros.ensures
