use Rattle.std.proofs.Common.{◌≡◌, ℕ}
use Rattle.std.proofs.Common.{◌+◌, arith, ap, subst}
use Rattle.olfit_nodes.specs.Nodes.{count_of}
use Rattle.olfit_rule.specs.declared.view.View.{View}
use Rattle.olfit_rule.specs.Tree.{IsAt, Covers}
use Rattle.olfit_change.proofs.Ready.{stays_on, words_still}
use Rattle.olfit_change.proofs.Weights.{Stripped, stripped_none, stripped_on, stripped_pays, stripped_root}
use Rattle.olfit_change.proofs.Needed.{full_none, full_on, needs_at, needs_root}
use Rattle.olfit_change.proofs.descend.nodes_needed.Goals as goal

pub returns-then-count-lt-ENTRIES-clause-needed : goal.returns-then-count-lt-ENTRIES-clause-needed
returns-then-count-lt-ENTRIES-clause-needed c =
    let v = c.loop-above.invariant.same.1 in
    let at : IsAt c.args.me.now.me.0.seen c.loop-above.above c.node_at.result.0 = subst (λ (w : View). IsAt w.seen c.loop-above.above c.node_at.result.0) v c.node_at.ensures.node.0 in
    let covers : Covers c.args.me.now.me.0.seen c.node_at.result.0 c.args.key = subst (λ (w : View). Covers w.seen c.node_at.result.0 c.args.key) v c.node_at.ensures.node.1 in
    let words = words_still c.args.me.now c.loop-above.me c.node_at.result.0 _ c.loop-above.invariant.same c.node_at.ensures.words in
    let count = ap count_of words in
    needs_at c.args.me.now.me.0.seen 0 c.top-top.result c.loop-above.above c.args.key c.loop-above.above c.top-top.ensures.top (omega arith) (omega arith) c.loop-above.invariant.full c.node_at.result.0 at covers (omega arith)

pub loop-above-preserved : goal.loop-above-preserved
loop-above-preserved c =
    let v = c.loop-above.invariant.same.1 in
    let at : IsAt c.args.me.now.me.0.seen c.loop-above.above c.node_at.result.0 = subst (λ (w : View). IsAt w.seen c.loop-above.above c.node_at.result.0) v c.node_at.ensures.node.0 in
    let covers : Covers c.args.me.now.me.0.seen c.node_at.result.0 c.args.key = subst (λ (w : View). Covers w.seen c.node_at.result.0 c.args.key) v c.node_at.ensures.node.1 in
    let words = words_still c.args.me.now c.loop-above.me c.node_at.result.0 _ c.loop-above.invariant.same c.node_at.ensures.words in
    let count = ap count_of words in
    let few = (c.requires.ready.good.nodes _ _ at).few in record {
      same = stays_on c.args.me.now c.loop-above.me c.node_at.new.me c.loop-above.invariant.same c.node_at.ensures.same;
      stripped = stripped_on _ c.args.me.now.me.0.seen c.loop-above.above c.node_at.result.0 c.requires.ready.good c.loop-above.invariant.stripped at (omega (arith, few, count));
      full = full_on _ c.args.me.now.me.0.seen 0 c.loop-above.above c.args.key c.node_at.result.0 c.requires.ready.good c.loop-above.invariant.full at covers (omega arith);
    }

pub returns-clause-needed : goal.returns-clause-needed
returns-clause-needed c = needs_root c.args.me.now.me.0.seen 0 c.top-top.result c.loop-above.above c.args.key (c.top-top.result + 2) c.top-top.ensures.top (omega arith) (omega arith) c.loop-above.invariant.full

pub loop-above-init : goal.loop-above-init
loop-above-init c = record {
  same = c.top-top.ensures.same;
  stripped = stripped_none c.args.me.now.me.0.seen;
  full = full_none c.args.me.now.me.0.seen 0 c.args.key;
}

pub returns-then-count-lt-ENTRIES-clause-paid : goal.returns-then-count-lt-ENTRIES-clause-paid
returns-then-count-lt-ENTRIES-clause-paid c = let p = stripped_pays c.args.me.now.me.0.seen c.loop-above.above c.loop-above.invariant.stripped in omega (arith, p)

pub returns-clause-paid : goal.returns-clause-paid
returns-clause-paid c =
    let end : c.loop-above.above ≡ c.top-top.result + 1 = omega arith in
    stripped_root c.args.me.now.me.0.seen c.top-top.result (subst (λ (n : ℕ). Stripped n c.args.me.now.me.0.seen) end c.loop-above.invariant.stripped)
