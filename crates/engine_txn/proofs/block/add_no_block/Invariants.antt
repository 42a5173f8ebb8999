use Rattle.std.proofs.Common.{◌≡◌, ◌+◌, ◌++◌, drop, length}
use Rattle.plain_model.specs.Blocks.{without_block}
use Rattle.engine_txn.specs.Progress.{rest_of}
use Rattle.engine_txn.proofs.block.add_no_block.Given as goal

abbrev pub invariant-loop : goal.invariant-loop
invariant-loop l = record {
  some : length l.replies.items ≡ l.counter + 1;
  cap : l.replies.cap ≡ l.initial.replies.cap;
  all : l.replies.items ++ without_block (drop l.counter l.t.statements) l.t.end ≡ l.fn.replies.items ++ without_block (rest_of l.t l.fn.replies.items) l.t.end;
}
