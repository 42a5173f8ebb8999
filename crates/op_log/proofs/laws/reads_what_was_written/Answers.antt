use Rattle.op_log.proofs.Bodies.{read_again}
use Rattle.op_log.proofs.laws.reads_what_was_written.Goals as goal

pub returns : goal.returns
returns c = read_again
