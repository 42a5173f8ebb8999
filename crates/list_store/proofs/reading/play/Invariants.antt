use Rattle.std.proofs.Common.{◌≡◌, take}
use Rattle.call_log.specs.History.{batches_of, bodies_of}
use Rattle.list_store.specs.Found.{HasRead, bodies_in}
use Rattle.list_store.proofs.reading.play.Given as goal

-- the keeper has played the batches so far
abbrev pub invariant-loop-batch : goal.invariant-loop-batch
invariant-loop-batch l = record {
  read : HasRead l.schema l.keeper l.gate;
  bodies : bodies_of l.schema (batches_of l.keeper.calls) ≡ bodies_in (take l.batch-index l.batches);
}
