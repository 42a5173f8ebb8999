use Rattle.lock_table.proofs.Ranks.{none_up_to}
use Rattle.lock_table.proofs.places.is_up_to.Goals as goal

pub returns-in-None : goal.returns-in-None
returns-in-None c = none_up_to c.args.owned.now c.args.table c.args.key c.args.place c.in-None.ensures
