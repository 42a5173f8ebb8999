use Rattle.std.proofs.Common.{◌≡◌, ◌∙◌, ◌-◌, arith, sym, ap, set, get_or}
use Rattle.olfit_nodes.specs.Nodes.{Entry}
use Rattle.olfit_nodes.proofs.Places.{removed, entry_beside, count_set, head_word, get_or-entries}
use Rattle.olfit_nodes.proofs.entries.remove_at.Goals as goal

pub returns-clause-value : goal.returns-clause-value
returns-clause-value c = ap (λ (e : Entry). e.1) (c.entry-removed.ensures ∙ sym (get_or-entries c.args.words.now c.args.place (0, 0) c.requires.inside))

pub returns-clause-entries : goal.returns-clause-entries
returns-clause-entries c =
    let mid = c.loop-i.words in let b = get_or mid 6 0 - 1 in
    let six : get_or mid 6 0 ≡ get_or c.args.words.now 6 0 = head_word c.args.words.now mid 6 (omega arith) c.loop-i.invariant.head in
    let count = count_set mid b (omega arith) in
    removed c.args.words.now (set mid 6 b) c.args.place (omega arith) c.requires.inside
    (λ k h. entry_beside mid b k ∙ c.loop-i.invariant.below k (omega arith))
    (λ k h inside. entry_beside mid b k ∙ c.loop-i.invariant.moved k (omega arith) (omega arith))
