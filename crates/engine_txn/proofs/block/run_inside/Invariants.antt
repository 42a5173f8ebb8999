use Rattle.std.proofs.Common.{◌≡◌, ◌+◌, drop, length}
use Rattle.engine_txn.specs.Progress.{Going}
use Rattle.engine_txn.proofs.block.run_inside.Given as goal

abbrev pub invariant-loop-text : goal.invariant-loop-text
invariant-loop-text g l = record {
  schema : g.B.RowCalls.defs l.calls ≡ g.B.RowCalls.defs l.fn.calls;
  going : Going (g.B.RowCalls.defs l.fn.calls) l.t (drop l.text-index l.t.statements) (g.B.RowCalls.calls l.fn.calls) l.replies.items (g.B.RowCalls.calls l.calls);
  count : length l.replies.items ≡ l.text-index + 1;
  cap : l.replies.cap ≡ l.initial.replies.cap;
}
