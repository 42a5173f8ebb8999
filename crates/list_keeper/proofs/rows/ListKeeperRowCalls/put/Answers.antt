use Rattle.std.proofs.Common.{◌≡◌, Some, subst, sym}
use Rattle.plain_model.specs.Calls.{locked_table}
use Rattle.call_log.proofs.Histories.{locked_is_table}
use Rattle.list_keeper.specs.Kept.{defs_in}
use Rattle.list_keeper.specs.Past.{Told}
use Rattle.list_keeper.proofs.rows.ListKeeperRowCalls.put.Goals as goal

pub put-answer-requires-clause-table : goal.put-answer-requires-clause-table
put-answer-requires-clause-table c =
    locked_is_table (defs_in c.self.inside.state) c.self.inside.log.calls c.args.table c.self.invariant.history.ordered
    (subst (λ (k : Told). locked_table k.calls ≡ Some c.args.table) (sym c.self.view_is) c.requires.locked.table_is)
