use Rattle.plain_model.proofs.BlockLaws.{reads_once, same_block}
use Rattle.plain_model.proofs.laws.one_meaning.Goals as goal

pub returns : goal.returns
returns c = λ block first a b p q plain_p plain_q is_p is_q.
    same_block (reads_once c.one_answer.ensures.one_statement c.one_answer.ensures.not_both c.one_answer.ensures.one_place) block first a b p q plain_p plain_q is_p is_q
