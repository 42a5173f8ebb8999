use Rattle.std.proofs.Common.{◌∙◌, arith}
use Rattle.row_types.proofs.ZeroWords.{past_word}
use Rattle.row_types.proofs.slot.zeros_in_words.Goals as goal

pub loop-len-preserved : goal.loop-len-preserved
loop-len-preserved c =
    let zeros = c.is_zero_word.ensures c.if-is_zero_word.true in
    record {
      zeros = λ at. c.loop-len.invariant.zeros at ∙ past_word at c.loop-len.len c.args.bytes.now zeros;
      within = omega arith;
    }
