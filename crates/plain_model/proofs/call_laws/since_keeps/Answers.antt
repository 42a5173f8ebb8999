use Rattle.plain_model.proofs.CallLaws.{play_since, locked_since, table_since}
use Rattle.plain_model.proofs.call_laws.since_keeps.Goals as goal

pub returns-clause-play : goal.returns-clause-play
returns-clause-play c = play_since

pub returns-clause-locks : goal.returns-clause-locks
returns-clause-locks c = locked_since

pub returns-clause-table : goal.returns-clause-table
returns-clause-table c = table_since
