use Rattle.std.proofs.Common.{sym}
use Rattle.replay_core.specs.Pages.{name_of}
use Rattle.replay_core.proofs.PageLaws.{stamp_absent}
use Rattle.replay_core.proofs.images.stamp_of.Goals as goal

pub returns-in-None : goal.returns-in-None
returns-in-None c = sym (stamp_absent c.args.images.now (name_of c.args.key) c.in-None.ensures.none)
