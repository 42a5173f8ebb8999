use Rattle.std.proofs.Common.{◌+◌}
use Rattle.txn_rows.proofs.Moments.{zero_mark}
use Rattle.txn_rows.proofs.Running.{all_undone}
use Rattle.txn_rows.proofs.rows.TxnRows.undo.Goals as goal

pub go_back-requires : goal.go_back-requires
go_back-requires c = (c.requires.0, c.requires.1, c.requires.2, zero_mark c.requires.1)

pub returns-clause-idle : goal.returns-clause-idle
returns-clause-idle c = λ first ops runs.
    let new = c.go_back.new.self in
    all_undone new.schema new.lists.items new.undo.steps.items new.frame.items (c.args.self.now.count + 1) first ops (c.go_back.ensures.back first ops runs (zero_mark ops))
