use Rattle.std.proofs.Common.{rules, ◌≡◌, ◌∙◌, ◌+◌, ◌*◌, ◌<◌, ◌≤◌, ◌^◌, ℕ, List, length, sym, ap, subst}
use Rattle.olfit_nodes.specs.Nodes.{Entry}
use Rattle.olfit_tree.specs.Build.{HasPut, leads, level_nodes}
use Rattle.olfit_tree.proofs.Growing.{few_entries, fewer, grows_end, grows_more, room_more}
use Rattle.olfit_tree.proofs.build.put_levels.Goals as goal

pub put_level-requires-in-levels-clause-few : goal.put_level-requires-in-levels-clause-few
put_level-requires-in-levels-clause-few c =
    let f = (few_entries c.args.rows.now c.args.each c.levels.level c.levels.entries.items c.levels.words.items c.levels.invariant c.requires.room).0 in
    subst (λ (xs : List Entry). length xs < 2 ^ 32) (sym c.as_slice.ensures.value) f

pub put_level-requires-in-levels-clause-room : goal.put_level-requires-in-levels-clause-room
put_level-requires-in-levels-clause-room c =
    let more : 1 < length c.levels.entries.items = search (rules, c.len.ensures, c.levels-test.true) in
    subst (λ (xs : List Entry). (x : ℕ) × (length c.levels.words.items ≡ x * 64) × (x + level_nodes (length xs) 16 < 2 ^ 32)) (sym c.as_slice.ensures.value)
    (room_more c.args.rows.now c.args.each c.levels.level c.levels.entries.items c.levels.words.items c.levels.invariant more c.requires.room)

pub levels-smaller : goal.levels-smaller
levels-smaller c =
    let more : 1 < length c.levels.entries.items = search (rules, c.len.ensures, c.levels-test.true) in
    let made = c.in_ok-entries-2.ensures in
    fewer made.0 c.levels.entries.items c.in_ok-entries-2.entries.items more (made.2 ∙ ap (λ (xs : List Entry). leads made.0 16 xs (level_nodes (length xs) 16)) c.as_slice.ensures.value)

pub levels-preserved : goal.levels-preserved
levels-preserved c =
    let more : 1 < length c.levels.entries.items = search (rules, c.len.ensures, c.levels-test.true) in
    let made = c.in_ok-entries-2.ensures in
    grows_more c.args.rows.now c.args.each c.levels.level c.levels.entries.items c.levels.words.items c.levels.invariant made.0 c.in_ok-entries-2.entries.items c.put_level-in-levels.new.words.items more
    (subst (λ (xs : List Entry). HasPut c.levels.level made.0 16 xs c.levels.words.items c.put_level-in-levels.new.words.items (level_nodes (length xs) 16)) c.as_slice.ensures.value made.1)
    (made.2 ∙ ap (λ (xs : List Entry). leads made.0 16 xs (level_nodes (length xs) 16)) c.as_slice.ensures.value)

pub returns : goal.returns
returns c =
    let few : length c.levels.entries.items ≤ 1 = search (rules, c.len.ensures, c.levels-test.false) in
    grows_end c.args.rows.now c.args.each c.levels.level c.levels.entries.items c.levels.words.items c.levels.invariant few
