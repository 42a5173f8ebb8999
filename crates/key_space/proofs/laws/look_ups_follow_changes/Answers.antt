use Rattle.key_space.proofs.LookUpLaws.{row_at-with_row, row_at-without_key}
use Rattle.key_space.proofs.laws.look_ups_follow_changes.Goals as goal

pub returns-clause-put : goal.returns-clause-put
returns-clause-put c = row_at-with_row

pub returns-clause-del : goal.returns-clause-del
returns-clause-del c = row_at-without_key
