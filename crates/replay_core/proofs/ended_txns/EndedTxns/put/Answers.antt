use Rattle.std.proofs.Common.{◌∙◌, ap, ◌==◌, ◌||◌}
use Rattle.replay_core.specs.Ended.{is_in}
use Rattle.replay_core.proofs.PageLaws.{cond_or}
use Rattle.replay_core.proofs.ended_txns.EndedTxns.put.Goals as goal

pub returns-clause-ok : goal.returns-clause-ok
returns-clause-ok c = λ t.
    c.in_ok-insert.ensures.updates.0 t ∙ cond_or (c.args.txn == t) (is_in c.self.inside.txns.keys t)
    ∙ ap (λ s. (c.args.txn == t) || is_in s t) c.self.view_is
