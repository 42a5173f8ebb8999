use Rattle.std.proofs.Common.{◌∙◌, ◌+◌, ◌*◌, arith}
use Rattle.std.proofs.lemmas.List.{take-set-le, drop-set-lt}
use Rattle.olfit_nodes.proofs.entries.put_entry.Goals as goal

pub returns-clause-head : goal.returns-clause-head
returns-clause-head c = let at = 7 + 3 * c.args.place in take-set-le 7 _ (at + 2) _ (omega arith) ∙ (take-set-le 7 _ (at + 1) _ (omega arith) ∙ take-set-le 7 _ at _ (omega arith))

pub returns-clause-rest : goal.returns-clause-rest
returns-clause-rest c = let at = 7 + 3 * c.args.place in drop-set-lt 55 _ (at + 2) _ (omega arith) ∙ (drop-set-lt 55 _ (at + 1) _ (omega arith) ∙ drop-set-lt 55 _ at _ (omega arith))
