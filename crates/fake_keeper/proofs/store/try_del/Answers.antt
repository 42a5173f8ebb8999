use Rattle.fake_keeper.proofs.store.try_del.Goals as goal

pub returns-in-Some-clause-cause : goal.returns-in-Some-clause-cause
returns-in-Some-clause-cause c = c.stop_of_del.ensures c.args.table c.args.key.number
