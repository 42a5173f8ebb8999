use Rattle.std.proofs.Common.{arith}
use Rattle.lock_table.proofs.Ranks.{tables_tell, keys_tell, owners_tell}
use Rattle.lock_table.proofs.places.stands_before.Goals as goal

pub returns-then-table-spot : goal.returns-then-table-spot
returns-then-table-spot c =
    let h = c.args.h.now in
    let s = c.args.spot in
    tables_tell h.name.table h.name.range.lo.number h.who s.table s.key s.who (omega arith) (omega arith) (omega arith) (omega arith) c.if-table-spot.true

pub returns-then-key-spot : goal.returns-then-key-spot
returns-then-key-spot c =
    let h = c.args.h.now in
    let s = c.args.spot in
    keys_tell h.name.table h.name.range.lo.number h.who s.table s.key s.who (omega arith) (omega arith) c.if-table-spot.false c.if-key-spot.true

pub returns : goal.returns
returns c =
    let h = c.args.h.now in
    let s = c.args.spot in
    owners_tell h.name.table h.name.range.lo.number h.who s.table s.key s.who c.if-table-spot.false c.if-key-spot.false
