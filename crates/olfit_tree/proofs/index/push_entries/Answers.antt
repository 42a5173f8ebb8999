use Rattle.std.proofs.Common.{◌∙◌, ◌∷◌, ◌++◌, [], ℕ, List, arith, sym, ap, map, append_assoc}
use Rattle.std.specs.List.{range_with_len}
use Rattle.std.proofs.lemmas.List.{map-append}
use Rattle.std.proofs.lemmas.List.FromFn.{map-range_with_len_more}
use Rattle.key_space.specs.declared.key.Key.{Key}
use Rattle.olfit_nodes.specs.Nodes.{Entry, entry_at}
use Rattle.olfit_walk.specs.Looks.{entries_of_keys}
use Rattle.olfit_tree.proofs.index.push_entries.Goals as goal

pub loop-place-preserved : goal.loop-place-preserved
loop-place-preserved c =
    let before : List Entry = entries_of_keys c.args.all.now.items in
    let so : List Entry = map (entry_at c.args.words.now) (range_with_len 0 c.loop-place.place) in
    ap entries_of_keys c.in_ok-push.ensures.items ∙ (map-append (λ (e : Key × ℕ). (e.0.number, e.1)) c.loop-place.all.items ((record { number = c.entry-number.result.0 }, c.entry-number.result.1) ∷ [])
    ∙ ((λ j. c.loop-place.invariant j ++ c.entry-number.ensures j ∷ []) ∙ (append_assoc before so (entry_at c.args.words.now c.loop-place.place ∷ [])
    ∙ ap (λ (xs : List Entry). before ++ xs) (sym (map-range_with_len_more (entry_at c.args.words.now) 0 c.loop-place.place c.loop-place.place (omega arith))))))
