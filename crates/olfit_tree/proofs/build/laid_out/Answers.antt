use Rattle.std.proofs.Common.{rules, ◌≡◌, ◌∙◌, ◌-◌, ◌*◌, ◌/◌, ◌≤◌, ◌∷◌, ◌++◌, [], ℕ, List, length, replicate, arith, ap, subst}
use Rattle.std.specs.Vec.{vec_len}
use Rattle.std.proofs.lemmas.List.{length-map, take_all}
use Rattle.olfit_nodes.specs.Nodes.{Entry}
use Rattle.olfit_walk.specs.Looks.{entries_of_keys}
use Rattle.olfit_tree.specs.Build.{HoldsTree, nodes_with}
use Rattle.olfit_tree.proofs.build.laid_out.Goals as goal

pub returns : goal.returns
returns c =
    let rows : List Entry = entries_of_keys c.args.sorted.now in
    let ws : List ℕ = c.put_levels.new.words.items in
    let same = c.as_slice.ensures.value ∙ c.in_ok-rows.ensures in
    let holds : HoldsTree ws c.args.each (nodes_with (length rows) c.args.each) rows = subst (λ (xs : List Entry). HoldsTree ws c.args.each (nodes_with (length xs) c.args.each) xs) same c.in_ok-put_levels.ensures in
    let long = holds.long in
    let len : c.len-used.result ≡ length ws = search (rules, c.len-used.ensures) in
    let used : nodes_with (length rows) c.args.each ≡ c.len-used.result / 64 = omega (arith, long, len) in
    let v = c.len-used.ensures in
    let room = c.requires.room in
    let whole : length ws ≤ c.args.nodes * 64 = (let e : length rows ≡ length c.args.sorted.now = length-map c.args.sorted.now _ in let r = ap (λ (n : ℕ). nodes_with n c.args.each) e in omega (arith, long, r, room)) in
    let rest : c.args.nodes * 64 - vec_len c.put_levels.new.words ≡ (c.args.nodes - c.len-used.result / 64) * 64 = omega (arith, long, v, len, used, whole) in
    record {
      words = (
        ws,
        subst (λ (u : ℕ). HoldsTree ws c.args.each u rows) used holds,
        c.in_ok-push.ensures.items ∙ ap (λ (w : List ℕ). w ++ (c.len-used.result / 64 - 1) ∷ []) (c.in_ok-resize.ensures.items ∙ (λ j. take_all (c.args.nodes * 64) ws whole j ++ replicate (rest j) 0)),
      );
    }
