use Rattle.olfit_change.proofs.Climbs.{works_still}
use Rattle.olfit_change.proofs.Ready.{stays_on}
use Rattle.test_index.proofs.latched.finds_by_the_link.Goals as goal

pub put_leaf-requires-clause-works : goal.put_leaf-requires-clause-works
put_leaf-requires-clause-works c =
    let looked = stays_on c.meet.new.writer c.value_of.new.me c.nodes_needed.new.me c.value_of.ensures.same c.nodes_needed.ensures.same in
    let met = stays_on c.reader-reading.new.me c.meet.new.writer c.nodes_needed.new.me c.meet.ensures.writer looked in
    works_still _ 8 c.fill.new.used c.fill.new.me c.nodes_needed.new.me c.fill.ensures.works (stays_on c.fill.new.me c.reader-reading.new.me c.nodes_needed.new.me c.reader-reading.ensures.same met)
