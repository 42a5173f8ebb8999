use Rattle.std.proofs.Common.{ℕ, List, ◌∙◌, ◌+◌, ◌∷◌, [], arith, refl, sym, ap, subst}
use Rattle.olfit_nodes.specs.Nodes.{count_of, level_of}
use Rattle.olfit_rule.specs.declared.view.Change.TheVariants.{Add}
use Rattle.olfit_rule.specs.declared.view.View.{View}
use Rattle.olfit_change.specs.States.{IsChangedAt, IsFreeFrom, IsSplitAt, MayPut}
use Rattle.olfit_change.proofs.Climbs.{may_add, works_changed}
use Rattle.olfit_change.proofs.Leaves.{full, had_room, leaf_split, one_left}
use Rattle.olfit_change.proofs.Weights.{paid_put}
use Rattle.olfit_change.proofs.keys.put_leaf.Goals as goal

pub put_entry-requires-clause-may : goal.put_entry-requires-clause-may
put_entry-requires-clause-may c =
    let at = c.node_at-leaf.ensures.node in
    subst (MayPut (Add c.args.key c.args.value ∷ []) c.node_at-leaf.result.0 c.args.key c.args.value) (sym c.node_at-leaf.ensures.same.1)
    (may_add c.args.me.now.me.0 c.args.key c.args.value c.node_at-leaf.result.0 c.requires.works.ready.good at.0 at.1 c.requires.absent)

pub returns-then-count-lt-ENTRIES-clause-works : goal.returns-then-count-lt-ENTRIES-clause-works
returns-then-count-lt-ENTRIES-clause-works c =
    works_changed _ _ c.args.used.now c.args.me.now c.put_entry.new.me c.node_at-leaf.result.0 (Add c.args.key c.args.value) c.requires.works c.put_entry.ensures.ready c.node_at-leaf.ensures.node.0
    (subst (λ (v : View). IsChangedAt c.node_at-leaf.result.0 (Add c.args.key c.args.value ∷ []) v c.put_entry.new.me.me.0) c.node_at-leaf.ensures.same.1 c.put_entry.ensures.changed)

pub returns-then-count-lt-ENTRIES-clause-whole : goal.returns-then-count-lt-ENTRIES-clause-whole
returns-then-count-lt-ENTRIES-clause-whole c =
    let at = c.node_at-leaf.ensures.node in
    let height = (c.requires.works.ready.good.nodes 0 c.node_at-leaf.result.0 at.0).height in (
      refl,
      record {
        needs = had_room c.args.me.now.me.0.base c.args.me.now.me.0.seen c.node_at-leaf.result.0 c.node_at-leaf.result.1 c.args.key c.requires.works.ready.good at.0 at.1 c.node_at-leaf.ensures.words (omega arith);
        paid = λ keys p. paid_put c.args.me.now.me.0 c.put_entry.new.me.me.0 c.node_at-leaf.result.0 c.args.used.now keys (Add c.args.key c.args.value ∷ [])
            (subst (λ (v : View). IsChangedAt c.node_at-leaf.result.0 (Add c.args.key c.args.value ∷ []) v c.put_entry.new.me.me.0) c.node_at-leaf.ensures.same.1 c.put_entry.ensures.changed)
            height (c.put_entry.ensures.level ∙ (ap level_of c.node_at-leaf.ensures.words ∙ height)) (c.put_entry.ensures.count ∙ ap (λ (ws : List ℕ). count_of ws + 1) c.node_at-leaf.ensures.words) p;
      },
    )

pub split_node-link-requires-clause-full : goal.split_node-link-requires-clause-full
split_node-link-requires-clause-full c =
    let at = c.node_at-leaf.ensures.node in
    full _ _ c.args.used.now c.args.key c.node_at-leaf.result.0 c.node_at-leaf.result.1 c.args.me.now c.requires.works c.requires.room at.0 at.1 c.node_at-leaf.ensures.words (omega arith)

pub split_node-link-requires-clause-free : goal.split_node-link-requires-clause-free
split_node-link-requires-clause-free c =
    let at = c.node_at-leaf.ensures.node in (
      subst (λ (v : View). IsFreeFrom c.args.used.now v.seen) (sym c.node_at-leaf.ensures.same.1) c.requires.works.free,
      one_left _ _ c.args.used.now c.args.key c.node_at-leaf.result.0 c.node_at-leaf.result.1 c.args.me.now c.requires.works c.requires.room at.0 at.1 c.node_at-leaf.ensures.words (omega arith),
    )

pub split_node-link-requires-clause-may : goal.split_node-link-requires-clause-may
split_node-link-requires-clause-may c =
    let at = c.node_at-leaf.ensures.node in
    subst (MayPut (Add c.args.key c.args.value ∷ []) c.node_at-leaf.result.0 c.args.key c.args.value) (sym c.node_at-leaf.ensures.same.1)
    (may_add c.args.me.now.me.0 c.args.key c.args.value c.node_at-leaf.result.0 c.requires.works.ready.good at.0 at.1 c.requires.absent)

pub returns-clause-left : goal.returns-clause-left
returns-clause-left c =
    let at = c.node_at-leaf.ensures.node in
    let s = subst (λ (v : View). IsSplitAt c.node_at-leaf.result.0 c.split_node-link.result (Add c.args.key c.args.value ∷ []) v c.split_node-link.new.me.me.0) c.node_at-leaf.ensures.same.1 c.split_node-link.ensures.split in (
      refl,
      leaf_split _ _ c.args.used.now c.args.key c.node_at-leaf.result.0 c.node_at-leaf.result.1 c.args.me.now c.requires.works c.requires.room at.0 at.1 c.node_at-leaf.ensures.words (omega arith)
          c.args.value c.split_node-link.new.me c.split_node-link.result c.split_node-link.ensures.ready s c.split_node-link.ensures.link,
    )
