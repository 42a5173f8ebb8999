use Rattle.std.proofs.Common.{◌≡◌, ◌∙◌, ◌+◌, ◌-◌, ◌∷◌, ◌++◌, [], ℕ, arith, sym, ap, length, set, get_or, map}
use Rattle.std.specs.List.{range_with_len}
use Rattle.std.proofs.lemmas.List.FromFn.{length-map-range_with_len, map-range_with_len_more}
use Rattle.olfit_nodes.specs.Nodes.{entry_at, count_of}
use Rattle.olfit_nodes.proofs.Places.{cut_lower, cut_upper, entry_beside, count_set}
use Rattle.olfit_nodes.proofs.entries.cut.Goals as goal

pub push-requires : goal.push-requires
push-requires c = let n = ap length c.loop-i.invariant in let m = length-map-range_with_len (entry_at c.args.words.now) c.args.place (c.loop-i.i - c.args.place) in (omega arith, omega arith)

pub loop-i-preserved : goal.loop-i-preserved
loop-i-preserved c =
    let n = c.loop-i.i - c.args.place in
    let e : n + 1 ≡ c.loop-i.i + 1 - c.args.place = omega arith in
    c.push.ensures.items ∙ ((λ j. c.loop-i.invariant j ++ c.entry.ensures j ∷ [])
    ∙ (sym (map-range_with_len_more (entry_at c.args.words.now) c.args.place n c.loop-i.i (omega arith)) ∙ ap (λ (z : ℕ). map (entry_at c.args.words.now) (range_with_len c.args.place z)) e))

pub returns-clause-lower : goal.returns-clause-lower
returns-clause-lower c =
    let old = c.args.words.now in let b = get_or old 6 0 - (c.count-len.result - c.args.place) in
    let count = count_set old b (omega arith) in
    cut_lower old (set old 6 b) c.args.place (omega arith) c.requires.inside (λ k h. entry_beside old b k)

pub returns-clause-upper : goal.returns-clause-upper
returns-clause-upper c =
    let e : c.loop-i.i - c.args.place ≡ count_of c.args.words.now - c.args.place = omega arith in
    c.loop-i.invariant ∙ (ap (λ (z : ℕ). map (entry_at c.args.words.now) (range_with_len c.args.place z)) e ∙ cut_upper c.args.words.now c.args.place c.requires.inside)
