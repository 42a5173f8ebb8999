use Rattle.std.proofs.Common.{Err, ◌∙◌, ap, subst}
use Rattle.lane_format.specs.LaneRead.{head_reads}
use Rattle.lane_format.specs.declared.head.Head.{Head}
use Rattle.lane_format.proofs.Readings.{reads_broken}
use Rattle.lane_format.proofs.Stops.{stopped_reading}
use Rattle.lane_format.proofs.read.read.Goals as goal

pub returns-in_err-batches-in-Open-clause-segment : goal.returns-in_err-batches-in-Open-clause-segment
returns-in_err-batches-in-Open-clause-segment g c = λ bytes known.
    let first = c.size.ensures.same ∙ known in
    let head = subst (λ (h : Head). head_reads c.args.odd c.args.lane bytes h) c.in-Open.is (c.in_ok-head_of.ensures.head bytes first) in
    let second = c.head_of.ensures.only_reads.same ∙ first in
    stopped_reading c.args.odd c.args.lane bytes c.from_residual-in_err-batches-in-Open.result c.in_err-batches-in-Open.field-0.0 c.from_residual-in_err-batches-in-Open.ensures.1
    (λ at is.
    let found = c.read_batches.ensures.damaged at (c.in_err-batches-in-Open.was ∙ ap Err is) bytes second in
    reads_broken c.args.odd c.args.lane bytes c.in-Open.generation found.0 at head found.1 found.2)
