use Rattle.std.proofs.Common.{List, refl}
use Rattle.olfit_rule.specs.Tree.{IsAt}
use Rattle.std.proofs.Common.{◌≡◌, ◌∙◌, ◌≤◌, ◌<◌, ◌+◌, ◌-◌, [], ℕ, length, arith, sym, ap, subst, append-nil}
use Rattle.olfit_nodes.specs.Nodes.{count_of, level_of}
use Rattle.olfit_rule.specs.declared.view.View.{View}
use Rattle.olfit_rule.specs.Tree.{node_of}
use Rattle.olfit_change.specs.Room.{IsFullBetween}
use Rattle.olfit_change.specs.States.{IsChangedAt, IsFreeFrom, IsLinking, IsSplitAt, MayPut, SameFrom}
use Rattle.olfit_change.proofs.Climbs.{climbed, may_link, was, works_linked}
use Rattle.olfit_change.proofs.Links.{free_grown, grown_root, low_grown, same_none}
use Rattle.olfit_change.proofs.Told.{clean_grown, told_grown}
use Rattle.olfit_change.proofs.Weights.{Pays, paid_grown, paid_linked, pays_first, pays_root, pays_split}
use Rattle.olfit_change.proofs.Needed.{full_none, full_on, needs_all, needs_at, needs_more, needs_root}
use Rattle.olfit_change.proofs.Ready.{few_at, ready_still, same_on}
use Rattle.olfit_change.proofs.keys.link_above.Goals as goal

pub put_entry-requires-clause-may : goal.put_entry-requires-clause-may
put_entry-requires-clause-may c =
    let at = c.node_at-node.ensures.node in
    subst (MayPut [] c.node_at-node.result.0 c.loop-above.link.key c.loop-above.link.node) (sym c.node_at-node.ensures.same.1)
    (may_link c.loop-above.me.me.0 c.loop-above.above c.args.key c.node_at-node.result.0 c.loop-above.link c.loop-above.used (omega arith) c.loop-above.invariant.linking at.0 at.1)

pub returns-then-count-lt-ENTRIES-clause-works : goal.returns-then-count-lt-ENTRIES-clause-works
returns-then-count-lt-ENTRIES-clause-works c =
    works_linked _ _ c.loop-above.used c.loop-above.me c.put_entry.new.me c.loop-above.above c.args.key c.node_at-node.result.0 c.loop-above.link c.loop-above.invariant.ready c.put_entry.ensures.ready c.loop-above.invariant.linking c.node_at-node.ensures.node.0
    (subst (λ (v : View). IsChangedAt c.node_at-node.result.0 [] v c.put_entry.new.me.me.0) c.node_at-node.ensures.same.1 c.put_entry.ensures.changed) c.put_entry.ensures.entry

pub returns-then-count-lt-ENTRIES-clause-used : goal.returns-then-count-lt-ENTRIES-clause-used
returns-then-count-lt-ENTRIES-clause-used c =
    let at = c.node_at-node.ensures.node in
    let old = was c.loop-above.above c.args.key c.node_at-node.result.0 c.args.me.now.me.0.seen c.loop-above.me.me.0.seen c.loop-above.invariant.upper at.0 at.1 in
    let used = c.loop-above.invariant.used in (
      c.loop-above.above - 1,
      needs_at c.args.me.now.me.0.seen 1 c.top-top.result c.loop-above.above c.args.key (c.loop-above.above - 1) c.top-top.ensures.top (omega arith) (omega arith) c.loop-above.invariant.full c.node_at-node.result.0 old.at old.covers
          (let same = ap count_of c.node_at-node.ensures.words in let was' = ap count_of old.words in omega (arith, same, was')),
      omega (arith, used),
    )

pub split_node-link-requires-clause-free : goal.split_node-link-requires-clause-free
split_node-link-requires-clause-free c =
    let at = c.node_at-node.ensures.node in
    let old = was c.loop-above.above c.args.key c.node_at-node.result.0 c.args.me.now.me.0.seen c.loop-above.me.me.0.seen c.loop-above.invariant.upper at.0 at.1 in
    let few : count_of c.node_at-node.result.1 ≤ 16 = few_at _ _ c.loop-above.me c.loop-above.above c.node_at-node.result.0 c.node_at-node.result.1 c.loop-above.invariant.ready at.0 c.node_at-node.ensures.words in
    let count : count_of (node_of c.args.me.now.me.0.seen.image c.node_at-node.result.0) ≡ 16 = (let same = ap count_of c.node_at-node.ensures.words in let was' = ap count_of old.words in omega (arith, few, same, was')) in
    let full = full_on c.args.me.now.me.0.base c.args.me.now.me.0.seen 1 c.loop-above.above c.args.key c.node_at-node.result.0 c.requires.ready.good c.loop-above.invariant.full old.at old.covers count in
    (subst (λ (v : View). IsFreeFrom c.loop-above.used v.seen) (sym c.node_at-node.ensures.same.1) c.loop-above.invariant.linking.free, (let most' = needs_more c.args.me.now.me.0.base c.args.me.now.me.0.seen 1 c.top-top.result (c.loop-above.above + 1) c.args.key c.requires.room.0 c.requires.ready.good c.top-top.ensures.top (omega arith) full c.requires.room.1 in let have = c.requires.room.2 in let used' = c.loop-above.invariant.used in omega (arith, most', have, used')))

pub split_node-link-requires-clause-full : goal.split_node-link-requires-clause-full
split_node-link-requires-clause-full c =
    let few : count_of c.node_at-node.result.1 ≤ 16 = few_at _ _ c.loop-above.me c.loop-above.above c.node_at-node.result.0 c.node_at-node.result.1 c.loop-above.invariant.ready c.node_at-node.ensures.node.0 c.node_at-node.ensures.words in omega (arith, few)

pub split_node-link-requires-clause-may : goal.split_node-link-requires-clause-may
split_node-link-requires-clause-may c =
    let at = c.node_at-node.ensures.node in
    subst (MayPut [] c.node_at-node.result.0 c.loop-above.link.key c.loop-above.link.node) (sym c.node_at-node.ensures.same.1)
    (may_link c.loop-above.me.me.0 c.loop-above.above c.args.key c.node_at-node.result.0 c.loop-above.link c.loop-above.used (omega arith) c.loop-above.invariant.linking at.0 at.1)

pub loop-above-preserved : goal.loop-above-preserved
loop-above-preserved c =
    let at = c.node_at-node.ensures.node in
    let old = was c.loop-above.above c.args.key c.node_at-node.result.0 c.args.me.now.me.0.seen c.loop-above.me.me.0.seen c.loop-above.invariant.upper at.0 at.1 in
    let few : count_of c.node_at-node.result.1 ≤ 16 = few_at _ _ c.loop-above.me c.loop-above.above c.node_at-node.result.0 c.node_at-node.result.1 c.loop-above.invariant.ready at.0 c.node_at-node.ensures.words in
    let count : count_of (node_of c.args.me.now.me.0.seen.image c.node_at-node.result.0) ≡ 16 = (let same = ap count_of c.node_at-node.ensures.words in let was' = ap count_of old.words in omega (arith, few, same, was')) in
    let full = full_on c.args.me.now.me.0.base c.args.me.now.me.0.seen 1 c.loop-above.above c.args.key c.node_at-node.result.0 c.requires.ready.good c.loop-above.invariant.full old.at old.covers count in
    let s = subst (λ (v : View). IsSplitAt c.node_at-node.result.0 c.split_node-link.result [] v c.split_node-link.new.me.me.0) c.node_at-node.ensures.same.1 c.split_node-link.ensures.split in
    let within : c.loop-above.used < length c.loop-above.me.me.0.seen.image = (let here = c.loop-above.invariant.ready.count in let some : c.loop-above.used < c.args.nodes = (let most' = needs_more c.args.me.now.me.0.base c.args.me.now.me.0.seen 1 c.top-top.result (c.loop-above.above + 1) c.args.key c.requires.room.0 c.requires.ready.good c.top-top.ensures.top (omega arith) full c.requires.room.1 in let have = c.requires.room.2 in let used' = c.loop-above.invariant.used in omega (arith, most', have, used')) in omega (arith, here, some)) in
    let size : length c.split_node-link.new.me.me.0.seen.image ≡ length c.loop-above.me.me.0.seen.image = c.split_node-link.ensures.ready.count ∙ sym c.loop-above.invariant.ready.count in
    let k = climbed c.args.me.now.me.0.seen c.loop-above.me.me.0 c.split_node-link.new.me.me.0 c.loop-above.above c.args.key c.top-top.result c.node_at-node.result.0 c.loop-above.link c.split_node-link.result c.loop-above.used c.loop-above.invariant.ready.good c.loop-above.invariant.linking at.0 at.1 s c.split_node-link.ensures.link within size c.loop-above.invariant.upper c.loop-above.invariant.root c.split_node-link.ensures.entry in
    let used = c.loop-above.invariant.used in record {
      ready = c.split_node-link.ensures.ready;
      same = same_on c.args.me.now c.node_at-node.new.me c.split_node-link.new.me (same_on c.args.me.now c.loop-above.me c.node_at-node.new.me c.loop-above.invariant.same c.node_at-node.ensures.same.0) c.split_node-link.ensures.same;
      base = s.base ∙ c.loop-above.invariant.base;
      log = s.log ∙ (append-nil c.loop-above.me.me.0.seen.log ∙ c.loop-above.invariant.log);
      linking = k.linking;
      upper = k.upper;
      root = k.root;
      full = full;
      paid = λ keys o. pays_split c.loop-above.me.me.0 c.split_node-link.new.me.me.0 c.loop-above.above c.top-top.result c.node_at-node.result.0 c.loop-above.used keys c.split_node-link.result [] s
          (λ z. let h = (c.loop-above.invariant.ready.good.nodes c.loop-above.above c.node_at-node.result.0 at.0).height in omega (arith, z, h))
          (let same = ap count_of c.node_at-node.ensures.words in omega (arith, few, same)) (c.loop-above.invariant.paid keys o);
      used = omega (arith, used);
    }

pub grow-requires-clause-free : goal.grow-requires-clause-free
grow-requires-clause-free c =
    let end : c.loop-above.above ≡ c.top-top.result + 1 = omega arith in
    let all = needs_all c.args.me.now.me.0.seen 1 c.top-top.result c.args.key c.requires.room.0 c.top-top.ensures.top (subst (λ (u : ℕ). IsFullBetween c.args.me.now.me.0.seen 1 u c.args.key) end c.loop-above.invariant.full) c.requires.room.1 in
    let have = c.requires.room.2 in let used = c.loop-above.invariant.used in
    (c.loop-above.invariant.linking.free, omega (arith, end, all, have, used))

pub returns-clause-works : goal.returns-clause-works
returns-clause-works c =
    let end : c.loop-above.above ≡ c.top-top.result + 1 = omega arith in
    let all = needs_all c.args.me.now.me.0.seen 1 c.top-top.result c.args.key c.requires.room.0 c.top-top.ensures.top (subst (λ (u : ℕ). IsFullBetween c.args.me.now.me.0.seen 1 u c.args.key) end c.loop-above.invariant.full) c.requires.room.1 in
    let have = c.requires.room.2 in let used = c.loop-above.invariant.used in
    let within : c.loop-above.used < length c.loop-above.me.me.0.seen.image = (let here = c.loop-above.invariant.ready.count in omega (arith, here, end, all, have, used)) in
    let child = c.loop-above.invariant.linking.child in let up = child.1 in let under : child.0 ≡ c.top-top.result = omega (arith, end, up) in
    let linked = subst (λ (m : ℕ). IsAt c.loop-above.me.me.0.seen m c.loop-above.link.node) under child.2 in
    let size : length c.grow.new.me.me.0.seen.image ≡ length c.loop-above.me.me.0.seen.image = c.grow.ensures.ready.count ∙ sym c.loop-above.invariant.ready.count in record {
      ready = c.grow.ensures.ready;
      free = free_grown c.loop-above.me.me.0 c.grow.new.me.me.0 c.top-top.result c.loop-above.used c.grow.ensures.grown c.loop-above.invariant.ready.good c.loop-above.invariant.root c.loop-above.invariant.linking.free within size;
      told = told_grown c.loop-above.me.me.0 c.grow.new.me.me.0 c.top-top.result c.loop-above.used c.loop-above.link c.grow.ensures.grown c.loop-above.invariant.ready.good c.loop-above.invariant.root c.loop-above.invariant.linking.free within size c.grow.ensures.over linked child.3 c.loop-above.invariant.linking.told;
      clean = clean_grown c.loop-above.me.me.0 c.grow.new.me.me.0 c.top-top.result c.loop-above.used c.loop-above.link c.grow.ensures.grown c.loop-above.invariant.ready.good c.loop-above.invariant.root c.loop-above.invariant.linking.free within size c.loop-above.invariant.linking.clean;
      versions = low_grown c.loop-above.me.me.0 c.grow.new.me.me.0 c.top-top.result c.loop-above.used c.grow.ensures.grown c.loop-above.invariant.ready.good c.loop-above.invariant.root c.loop-above.invariant.linking.free within size c.loop-above.invariant.linking.versions c.loop-above.invariant.linking.some.1;
    }

pub returns-clause-used : goal.returns-clause-used
returns-clause-used c =
    let end : c.loop-above.above ≡ c.top-top.result + 1 = omega arith in
    let used = c.loop-above.invariant.used in
    (c.top-top.result + 1, needs_root c.args.me.now.me.0.seen 1 c.top-top.result c.loop-above.above c.args.key (c.top-top.result + 1) c.top-top.ensures.top (omega arith) end c.loop-above.invariant.full, omega (arith, end, used))

pub loop-above-init : goal.loop-above-init
loop-above-init c =
    let is = sym c.top-top.ensures.same.1 in record {
      ready = ready_still _ _ c.args.me.now c.top-top.new.me c.requires.ready c.top-top.ensures.same;
      same = c.top-top.ensures.same.0;
      base = ap (λ (v : View). v.base) c.top-top.ensures.same.1;
      log = ap (λ (v : View). v.seen.log) c.top-top.ensures.same.1;
      linking = subst (λ (v : View). IsLinking 1 c.args.key c.args.first c.args.used.now v.seen) is c.requires.linking;
      upper = subst (λ (v : View). SameFrom 1 c.args.me.now.me.0.seen v.seen) is (same_none 1 c.args.me.now.me.0.seen);
      root = subst (λ (v : View). IsAt v.seen c.top-top.result v.seen.root) is c.top-top.ensures.top;
      full = full_none c.args.me.now.me.0.seen 1 c.args.key;
      paid = λ keys o. subst (λ (v : View). Pays 1 c.top-top.result c.args.used.now keys v.seen) is (pays_first c.args.me.now.me.0.seen c.top-top.result c.args.used.now keys c.top-top.ensures.top o);
      used = refl;
    }

pub returns-then-count-lt-ENTRIES-clause-paid : goal.returns-then-count-lt-ENTRIES-clause-paid
returns-then-count-lt-ENTRIES-clause-paid c keys o =
    paid_linked c.loop-above.me.me.0 c.put_entry.new.me.me.0 c.node_at-node.result.0 c.loop-above.used keys c.top-top.result [] (subst (λ (v : View). IsChangedAt c.node_at-node.result.0 [] v c.put_entry.new.me.me.0) c.node_at-node.ensures.same.1 c.put_entry.ensures.changed)
    (c.put_entry.ensures.level ∙ ap level_of c.node_at-node.ensures.words) (c.put_entry.ensures.count ∙ ap (λ (ws : List ℕ). count_of ws + 1) c.node_at-node.ensures.words) c.loop-above.invariant.root (omega arith) (c.loop-above.invariant.paid keys o).entry

pub returns-clause-paid : goal.returns-clause-paid
returns-clause-paid c keys o =
    let end : c.loop-above.above ≡ c.top-top.result + 1 = omega arith in
    let all = needs_all c.args.me.now.me.0.seen 1 c.top-top.result c.args.key c.requires.room.0 c.top-top.ensures.top (subst (λ (u : ℕ). IsFullBetween c.args.me.now.me.0.seen 1 u c.args.key) end c.loop-above.invariant.full) c.requires.room.1 in
    let have = c.requires.room.2 in let used = c.loop-above.invariant.used in
    let within : c.loop-above.used < length c.loop-above.me.me.0.seen.image = (let here = c.loop-above.invariant.ready.count in omega (arith, here, end, all, have, used)) in
    let size : length c.grow.new.me.me.0.seen.image ≡ length c.loop-above.me.me.0.seen.image = c.grow.ensures.ready.count ∙ sym c.loop-above.invariant.ready.count in
    paid_grown c.loop-above.me.me.0 c.grow.new.me.me.0 c.top-top.result c.loop-above.used c.loop-above.used keys c.grow.ensures.grown
    (grown_root c.loop-above.me.me.0 c.grow.new.me.me.0 c.top-top.result c.loop-above.used c.grow.ensures.grown c.loop-above.invariant.ready.good c.loop-above.invariant.root c.loop-above.invariant.linking.free within size)
    (pays_root c.loop-above.me.me.0.seen c.loop-above.above c.top-top.result c.loop-above.used keys end (c.loop-above.invariant.paid keys o))
