use Rattle.std.proofs.Common.{eq-eqb}
use Rattle.std.proofs.lemmas.Bool.{eqb-true}
use Rattle.sql_lex.proofs.Lone.{empty_from_len, len_from_empty}
use Rattle.sql_lex.proofs.sole.is_empty.Goals as goal

pub returns : goal.returns
returns c base =
    let text = c.args.text.now in
    let same = c.as_bytes.ensures.value in
    let n = c.gap_len.result in
    (λ e. empty_from_len base n text _ same c.gap_len.ensures.left (eqb-true _ _ e), λ a. eq-eqb _ _ (len_from_empty base n text _ same c.gap_len.ensures.left c.gap_len.ensures.within a))
