use Rattle.std.proofs.Common.{◌+◌, ◌≤◌, length, sym, ◌∙◌, arith}
use Rattle.fields.proofs.DifferLaws.{same_word, take_next_word}
use Rattle.fields.proofs.differ.equal_front.Goals as goal

pub loop-at-preserved : goal.loop-at-preserved
loop-at-preserved c =
    let a = c.args.a.now in
    let b = c.args.b.now in
    let at = c.loop-at.at in
    let room : at + 8 ≤ length a = omega arith in
    record {
      within = room;
      same =
          take_next_word a b at c.loop-at.invariant.same
          (same_word a b at room c.requires (λ k. (c.type_inv.a k).fits) (λ k. (c.type_inv.b k).fits) (sym c.get_u64.ensures ∙ c.if-get_u64.true ∙ c.get_u64-in-loop-at.ensures));
    }
