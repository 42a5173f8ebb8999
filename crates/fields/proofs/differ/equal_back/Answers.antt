use Rattle.std.proofs.Common.{◌≡◌, ◌+◌, ◌-◌, ◌≤◌, length, drop, sym, ap, subst, ◌∙◌, arith}
use Rattle.fields.proofs.DifferLaws.{same_word, drop_word_before}
use Rattle.fields.proofs.differ.equal_back.Goals as goal

pub loop-end-preserved : goal.loop-end-preserved
loop-end-preserved c =
    let a = c.args.a.now in
    let b = c.args.b.now in
    let at = c.loop-end.end - 8 in
    let end : at + 8 ≡ c.loop-end.end = omega arith in
    let room : at + 8 ≤ length a = omega arith in
    record {
      within = omega arith;
      same =
          drop_word_before a b at (subst (λ n. drop n a ≡ drop n b) (sym end) c.loop-end.invariant.same)
          (same_word a b at room c.requires (λ k. (c.type_inv.a k).fits) (λ k. (c.type_inv.b k).fits) (sym c.get_u64.ensures ∙ c.if-get_u64.true ∙ c.get_u64-in-loop-end.ensures));
    }
