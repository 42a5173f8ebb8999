use Rattle.std.proofs.Common.{arith}
use Rattle.lock_table.proofs.Ranks.{tables_tell, keys_up_to_tell}
use Rattle.lock_table.proofs.places.stands_up_to.Goals as goal

pub returns-then-h-table : goal.returns-then-h-table
returns-then-h-table c =
    let h = c.args.h.now in
    tables_tell h.name.table h.name.range.lo.number h.who c.args.table c.args.key 65536 (omega arith) (omega arith) (omega arith) (omega arith) c.if-h-table.true

pub returns : goal.returns
returns c =
    let h = c.args.h.now in
    keys_up_to_tell h.name.table h.name.range.lo.number h.who c.args.table c.args.key (omega arith) c.if-h-table.false
