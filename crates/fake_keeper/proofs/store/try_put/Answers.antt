use Rattle.fake_keeper.proofs.store.try_put.Goals as goal

pub returns-in-Some-clause-cause : goal.returns-in-Some-clause-cause
returns-in-Some-clause-cause c = c.stop_of_put.ensures c.args.table c.args.row.now
