use Rattle.std.proofs.Common.{sym, ◌∙◌, refl}
use Rattle.script.proofs.splitting.last_blocks.Goals as goal

pub returns-in_ok-finish-clause-empty : goal.returns-in_ok-finish-clause-empty
returns-in_ok-finish-clause-empty c = (c.is_empty.ensures 0).0 c.if-is_empty.true

pub returns-else-is_empty-clause-fault : goal.returns-else-is_empty-clause-fault
returns-else-is_empty-clause-fault c = (λ e. absurd (let yes = (c.is_empty.ensures 0).1 e in let same = sym yes ∙ c.if-is_empty.false in cc), refl)
