use Rattle.std.proofs.Common.{[], sym, subst}
use Rattle.row_types.specs.declared.block.BlockEnd.{BlockEnd}
use Rattle.row_types.specs.Tables.{Tables}
use Rattle.plain_model.specs.Blocks.{TransactionAnswers, RunsSoFar}
use Rattle.plain_model.proofs.Running.{runs_cut_off}
use Rattle.plain_model.proofs.plain.run_transaction.Goals as goal

pub returns-in_ok-copy-in-CutOff-clause-means : goal.returns-in_ok-copy-in-CutOff-clause-means
returns-in_ok-copy-in-CutOff-clause-means c =
    let t = c.args.t.now in
    let tables = c.args.tables.now in
    let replies = c.in_ok-replies.replies.items in
    let now = c.in_ok-replies.now in
    let so_far = subst (λ (e : BlockEnd). RunsSoFar t.statements [] e tables replies now) c.in-CutOff.is c.in_ok-replies.ensures.so_far in
    let ends = runs_cut_off t.statements tables now replies so_far in
    subst (λ (last : Tables). TransactionAnswers t.statements t.end tables replies last) (sym c.in_ok-copy-in-CutOff.ensures)
    (subst (λ (e : BlockEnd). TransactionAnswers t.statements e tables replies tables) (sym c.in-CutOff.is) ends)
