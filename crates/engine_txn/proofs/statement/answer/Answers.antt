use Rattle.std.proofs.Common.{true, subst}
use Rattle.engine_txn.specs.Progress.{ReadAs}
use Rattle.engine_txn.specs.Transactions.{here}
use Rattle.engine_txn.proofs.Texts.{text_allowed}
use Rattle.engine_txn.proofs.statement.answer.Goals as goal

pub returns-in_err-statement-clause-works : goal.returns-in_err-statement-clause-works
returns-in_err-statement-clause-works g c = here

pub returns-in-Refused-clause-works : goal.returns-in-Refused-clause-works
returns-in-Refused-clause-works g c = here

pub returns-in-Allowed-clause-text : goal.returns-in-Allowed-clause-text
returns-in-Allowed-clause-text g c = text_allowed _ _ c.in-Allowed.statement _ _ _ (subst (ReadAs true c.args.text.now) c.in-Allowed.is c.in_ok-statement.ensures.read) c.run_statement.ensures.calls c.run_statement.ensures.means c.run_statement.ensures.cause c.run_statement.ensures.end
