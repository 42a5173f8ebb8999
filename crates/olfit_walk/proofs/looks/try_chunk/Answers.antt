use Rattle.olfit_rule.specs.declared.view.Change.{Change}
use Rattle.std.proofs.Common.{length, ◌∙◌, ◌≤◌, ℕ, List, ap, sym, subst}
use Rattle.std.specs.List.{filter}
use Rattle.olfit_nodes.specs.Nodes.{count_of, entries_of, right_of}
use Rattle.olfit_walk.specs.Looks.{reading_of, end_in, is_between}
use Rattle.olfit_walk.proofs.Pieces.{piece_is}
use Rattle.olfit_walk.proofs.looks.try_chunk.Goals as goal

pub piece_of-requires-clause-few : goal.piece_of-requires-clause-few
piece_of-requires-clause-few c =
    let come = c.in-Leaf.ensures.come in
    subst (λ (ws : List ℕ). count_of ws ≤ 16) (sym come.3) (c.in-Leaf.ensures.good.nodes 0 come.0 come.1).few

pub returns-in-Leaf-clause-answer : goal.returns-in-Leaf-clause-answer
returns-in-Leaf-clause-answer c =
    let come = c.in-Leaf.ensures.come in let e = c.piece_of.ensures in
    piece_is c.args.range c.piece_of.result (reading_of c.read_leaf.new.me) come.0 c.in-Leaf.ensures.good come.1 come.2 c.requires.range
    e.ends.0
    (e.ends.1 ∙ ap (λ (ws : List ℕ). end_in (right_of ws) c.args.range.hi.number) come.3)
    (e.entries ∙ ap (λ (ws : List ℕ). filter (is_between c.args.range.lo.number c.piece_of.result.upto.number) (entries_of ws)) come.3)
    (e.known ∙ (c.requires.known ∙ sym (ap (λ (l : List Change). length l) c.in-Leaf.ensures.seat.kept)))
