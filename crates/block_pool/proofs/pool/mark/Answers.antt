use Rattle.std.proofs.Common.{true}
use Rattle.block_pool.proofs.FlatLaws.{filled}
use Rattle.block_pool.proofs.pool.mark.Goals as goal

pub returns : goal.returns
returns c = filled c.args.from c.args.count true c.args.outs.now c.fill_true.new.outs c.requires c.fill_true.ensures
