use Rattle.lane_format.proofs.Readings.{reads_whole}
use Rattle.replay_core.proofs.laws.reads_all_records.Goals as goal

pub returns : goal.returns
returns c = λ odd lane bytes generation items head ends.
    record {
      batches = ends.all.batches;
      reads = reads_whole odd lane bytes generation ends.all.batches ends.gate head ends.all.whole ends.end;
      held = ends.all.held;
    }
