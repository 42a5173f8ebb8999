use Rattle.plain_model.proofs.CallLaws.{mark_now}
use Rattle.plain_model.proofs.call_laws.marks_begin.Goals as goal

pub returns : goal.returns
returns c = mark_now
