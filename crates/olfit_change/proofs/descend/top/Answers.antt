use Rattle.std.proofs.Common.{◌≡◌, ◌∙◌, ℕ, sym, ap, subst}
use Rattle.olfit_nodes.specs.Nodes.{level_of}
use Rattle.olfit_rule.specs.Tree.{node_of, IsAt}
use Rattle.olfit_change.proofs.descend.top.Goals as goal

pub returns-clause-top : goal.returns-clause-top
returns-clause-top c =
    let root = c.requires.good.root in
    let level : c.level.result ≡ root.0 = c.level.ensures ∙ (ap level_of c.own_node.ensures.words ∙ ((λ j. level_of (node_of (c.own_root-root.ensures.same.1 j).seen.image (c.own_root-root.ensures.root j))) ∙ (c.requires.good.nodes root.0 _ root.1).height)) in
    subst (λ (l : ℕ). IsAt c.args.me.now.me.0.seen l c.args.me.now.me.0.seen.root) (sym level) root.1
