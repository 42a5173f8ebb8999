use Rattle.std.proofs.Common.{◌≡◌, ◌≤◌, ◌<◌, length, drop}
use Rattle.fields.proofs.differ.last_difference.Given as goal

abbrev pub invariant-loop-end : goal.invariant-loop-end
invariant-loop-end l = record {
  within : l.end ≤ length l.a;
  after : l.first < l.end;
  same : drop l.end l.a ≡ drop l.end l.b;
}

abbrev pub decreases-loop-end : goal.decreases-loop-end
decreases-loop-end l = l.end
