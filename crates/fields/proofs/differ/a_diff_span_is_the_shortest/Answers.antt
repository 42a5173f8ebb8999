use Rattle.fields.proofs.DifferLaws.{shortest}
use Rattle.fields.proofs.differ.a_diff_span_is_the_shortest.Goals as goal

pub returns : goal.returns
returns c = shortest
