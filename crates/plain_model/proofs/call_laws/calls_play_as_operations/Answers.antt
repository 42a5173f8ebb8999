use Rattle.std.specs.Prelude.{reverse}
use Rattle.plain_model.specs.Calls.{ops_of}
use Rattle.plain_model.specs.CallPlays.{tables_of}
use Rattle.plain_model.proofs.CallLaws.{plays_as_listed}
use Rattle.plain_model.proofs.call_laws.calls_play_as_operations.Goals as goal

pub returns-clause-plays : goal.returns-clause-plays
returns-clause-plays c = plays_as_listed

pub returns-clause-tables : goal.returns-clause-tables
returns-clause-tables c = λ first calls are play. c.tables_stay_tables.ensures.tables first (tables_of first calls) (reverse (ops_of calls)) are (plays_as_listed first calls play)
