use Rattle.std.proofs.Common.{subst}
use Rattle.list_keeper.specs.Past.{IsPast}
use Rattle.list_keeper.proofs.Left.{past_of}
use Rattle.list_keeper.proofs.keeper.ListKeeper.history.Goals as goal

pub returns : goal.returns
returns c = subst IsPast c.self.view_is (past_of c.self.inside.state c.self.inside.log.calls c.self.invariant)
