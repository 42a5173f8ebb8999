use Rattle.std.proofs.Common.{◌≡◌, ◌≤◌, min, length, ℕ, List, arith}
use Rattle.std.proofs.lemmas.Grind.{common_steps}
use Rattle.lane_format.proofs.Windows.{for_some}
use Rattle.replay_core.proofs.segment_reader.SegmentReader.open.Goals as goal

pub returns-in-Ok-new-clause-over : goal.returns-in-Ok-new-clause-over
returns-in-Ok-new-clause-over g c =
    let front : length c.read_at.new.into ≡ min c.in-Ok.size 11 = grind (arith, common_steps) in
    record {
      size = for_some (g.D.Disk.content c.args.disk.now) (λ (bytes : List ℕ). c.in-Ok.size ≡ length bytes) c.in-Ok.ensures.size;
      window = c.in-Ok-new.ensures (g.D.Disk.content c.args.disk.now) c.in-Ok.size;
      place = omega arith;
      end = omega (arith, front, c.read_head.ensures.long c.in-Open.generation c.in-Open.is);
    }
