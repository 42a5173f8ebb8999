use Rattle.std.proofs.Common.{◌≡◌, ◌∙◌, ◌+◌, arith, set, get_or}
use Rattle.olfit_nodes.proofs.Places.{inserted, entry_beside, count_set, head_word}
use Rattle.olfit_nodes.proofs.entries.insert_at.Goals as goal

pub returns-clause-entries : goal.returns-clause-entries
returns-clause-entries c =
    let mid = c.put_entry-2.new.words in let b = get_or mid 6 0 + 1 in
    let six : get_or mid 6 0 ≡ get_or c.args.words.now 6 0 = head_word c.args.words.now mid 6 (omega arith) (c.put_entry-2.ensures.head ∙ c.loop-i.invariant.head) in
    let count = count_set mid b (omega arith) in
    let at : c.loop-i.i ≡ c.args.place = omega arith in
    inserted c.args.words.now (set mid 6 b) c.args.place (c.args.key, c.args.value) (omega arith) c.requires.inside
    (λ k h. entry_beside mid b k ∙ (c.put_entry-2.ensures.others k (λ e. omega arith) ∙ c.loop-i.invariant.below k (omega arith)))
    (entry_beside mid b c.args.place ∙ c.put_entry-2.ensures.entry)
    (λ k h inside. entry_beside mid b k ∙ (c.put_entry-2.ensures.others k (λ e. omega arith) ∙ c.loop-i.invariant.moved k (omega arith) inside))
