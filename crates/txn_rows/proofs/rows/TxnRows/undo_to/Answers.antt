use Rattle.std.proofs.Common.{None, rules}
use Rattle.txn_rows.proofs.rows.TxnRows.undo_to.Goals as goal

pub returns-in_err-count-clause-stopped : goal.returns-in_err-count-clause-stopped
returns-in_err-count-clause-stopped c = λ first ops runs. let left = c.in_err-count.ensures.stopped first ops None runs in search (rules, left, c.from_residual.ensures)
