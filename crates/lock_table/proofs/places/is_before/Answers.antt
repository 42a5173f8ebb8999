use Rattle.lock_table.proofs.Ranks.{none_before}
use Rattle.lock_table.proofs.places.is_before.Goals as goal

pub returns-in-None : goal.returns-in-None
returns-in-None c = none_before c.args.owned.now c.args.spot c.args.place c.in-None.ensures
