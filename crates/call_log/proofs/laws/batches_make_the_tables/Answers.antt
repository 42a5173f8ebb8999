use Rattle.call_log.specs.Played.{empty_tables}
use Rattle.call_log.proofs.Histories.{batches_are_some, batches_fit, batches_played, settled_is_played}
use Rattle.call_log.proofs.laws.batches_make_the_tables.Goals as goal

pub returns-clause-tables : goal.returns-clause-tables
returns-clause-tables c = λ defs calls is. settled_is_played defs (empty_tables defs) calls is.ordered is.plays

pub returns-clause-plays : goal.returns-clause-plays
returns-clause-plays c = λ defs calls is. batches_played defs (empty_tables defs) calls is.ordered is.plays

pub returns-clause-fit : goal.returns-clause-fit
returns-clause-fit c = batches_fit

pub returns-clause-some : goal.returns-clause-some
returns-clause-some c = batches_are_some
