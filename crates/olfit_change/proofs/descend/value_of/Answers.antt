use Rattle.std.proofs.Common.{◌∙◌, ℕ, List, ap, refl}
use Rattle.olfit_nodes.specs.Nodes.{entries_of}
use Rattle.olfit_rule.specs.Maps.{map_of}
use Rattle.olfit_change.proofs.Ready.{few_at, rises_at}
use Rattle.olfit_change.proofs.descend.value_of.Goals as goal

pub value_in-requires-clause-few : goal.value_in-requires-clause-few
value_in-requires-clause-few c = few_at _ _ c.args.me.now 0 _ _ c.requires c.node_at.ensures.node.0 c.node_at.ensures.words

pub value_in-requires-clause-rises : goal.value_in-requires-clause-rises
value_in-requires-clause-rises c = rises_at _ _ c.args.me.now 0 _ _ c.requires c.node_at.ensures.node.0 c.node_at.ensures.words

pub returns-clause-value : goal.returns-clause-value
returns-clause-value c =
    let n = c.node_at.ensures.node in
    c.value_in.ensures ∙ (ap (λ (ws : List ℕ). map_of (entries_of ws) c.args.key) c.node_at.ensures.words ∙ (c.requires.good.nodes 0 c.node_at.result.0 n.0).leaf refl c.args.key n.1)
