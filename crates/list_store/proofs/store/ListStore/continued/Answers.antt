use Rattle.std.proofs.Common.{◌∙◌}
use Rattle.call_log.specs.History.{batches_of, bodies_of}
use Rattle.list_store.specs.declared.store.ListStore.{ListStore}
use Rattle.list_store.proofs.Lanes.{gate_is_length}
use Rattle.list_store.proofs.Storing.{continued_keeps, secures_of}
use Rattle.list_store.proofs.store.ListStore.continued.Goals as goal

pub adopt_open-writer-requires-clause-open : goal.adopt_open-writer-requires-clause-open
adopt_open-writer-requires-clause-open g c = λ bytes known.
    let keeper = c.args.keeper in
    (bodies_of keeper.defs (batches_of keeper.calls), c.requires.read.gate_is ∙ gate_is_length 0 keeper.defs (batches_of keeper.calls), c.requires.log bytes known)

pub returns-clause-keeps : goal.returns-clause-keeps
returns-clause-keeps g c =
    let store : ListStore g.row.D.Denot = record { alloc = c.args.alloc; keeper = c.args.keeper; writer = c.adopt_open-writer.result } in
    continued_keeps g.D.Disk store c.args.disk c.args.gate c.requires.read c.requires.log c.adopt_open-writer.ensures.disk c.adopt_open-writer.ensures.lane c.adopt_open-writer.ensures.stage

pub returns-clause-secures : goal.returns-clause-secures
returns-clause-secures g c = λ now.
    let d = g.D.Disk in
    let keeper = c.args.keeper in
    let store : ListStore g.row.D.Denot = record { alloc = c.args.alloc; keeper = keeper; writer = c.adopt_open-writer.result } in
    let keeps = continued_keeps d store c.args.disk c.args.gate c.requires.read c.requires.log c.adopt_open-writer.ensures.disk c.adopt_open-writer.ensures.lane c.adopt_open-writer.ensures.stage in
    let bodies = bodies_of keeper.defs (batches_of keeper.calls) in
    secures_of d store keeps (c.adopt_open-writer.ensures.settled bodies (c.requires.read.gate_is ∙ gate_is_length 0 keeper.defs (batches_of keeper.calls)) now)
