use Rattle.std.proofs.Common.{◌≡◌, ◌∙◌, ◌+◌, ◌*◌, ℕ, List, length, replicate, arith, refl, sym, ap, subst}
use Rattle.std.proofs.lemmas.List.{length-replicate}
use Rattle.atomic_table.specs.Seated.{TableId}
use Rattle.olfit_nodes.specs.Nodes.{Entry}
use Rattle.olfit_rule.specs.declared.view.View.{View}
use Rattle.olfit_rule.specs.Rule.{opener, IsAtRest}
use Rattle.olfit_rule.specs.Tree.{Good}
use Rattle.olfit_change.specs.Room.{IsPaid}
use Rattle.olfit_change.specs.States.{IsFreeFrom, IsTold, IsClean, HasLowVersions}
use Rattle.olfit_tree.specs.Index.{IsNew}
use Rattle.olfit_tree.proofs.Zeros.{base_is, can_open, clean_zeros, free_zeros, good_zeros, low_zeros, new_zeros, nodes_long, paid_zeros, rest_zeros, told_zeros, zeros_are}
use Rattle.olfit_tree.proofs.index.Index.empty.Goals as goal

pub opened-requires : goal.opened-requires
opened-requires c =
    let zero : c.in_ok-words.words.items ≡ replicate (c.args.nodes * 64 + 1) 0 = c.in_ok-words.ensures.items_if_clones_equal (λ y e. e) in
    let all = zeros_are (c.args.nodes * 64 + 1) c.in_ok-words.words.items zero in
    let long : length c.in_ok-words.words.items ≡ c.args.nodes * 64 + 1 = ap (λ (l : List ℕ). length l) zero ∙ length-replicate (c.args.nodes * 64 + 1) 0 in
    can_open c.in_ok-words.words.items c.args.nodes all long c.requires

pub invariant_of-writer : goal.invariant_of-writer
invariant_of-writer c =
    let zero : c.in_ok-words.words.items ≡ replicate (c.args.nodes * 64 + 1) 0 = c.in_ok-words.ensures.items_if_clones_equal (λ y e. e) in
    let all = zeros_are (c.args.nodes * 64 + 1) c.in_ok-words.words.items zero in
    let long : length c.in_ok-words.words.items ≡ c.args.nodes * 64 + 1 = ap (λ (l : List ℕ). length l) zero ∙ length-replicate (c.args.nodes * 64 + 1) 0 in
    let m : c.in_ok-memory.hand.me.0 ≡ opener c.in_ok-words.words.items = ap (λ x. x.0) c.in_ok-memory.ensures.writer in
    record {
      works = record {
        ready = record {
          table_is = refl;
          rest = subst IsAtRest (sym m) (rest_zeros c.in_ok-words.words.items c.args.nodes all long c.requires);
          good = subst (λ (v : View). Good v.base v.seen) (sym m) (good_zeros c.in_ok-words.words.items c.args.nodes all long c.requires);
          count = ap (λ (v : View). length v.seen.image) m ∙ nodes_long c.in_ok-words.words.items c.args.nodes all long c.requires;
          sized = (c.requires, omega arith, ap (λ (t : TableId). t.words) c.in_ok-memory.ensures.table.0 ∙ (c.in_ok-memory.ensures.table.1 ∙ long));
        };
        free = subst (λ (v : View). IsFreeFrom 1 v.seen) (sym m) (free_zeros c.in_ok-words.words.items c.args.nodes all long c.requires);
        told = subst (λ (v : View). IsTold v.seen) (sym m) (told_zeros c.in_ok-words.words.items c.args.nodes all long c.requires);
        clean = subst (λ (v : View). IsClean v.seen) (sym m) (clean_zeros c.in_ok-words.words.items c.args.nodes all long c.requires);
        versions = subst (λ (v : View). HasLowVersions v.seen) (sym m) (low_zeros c.in_ok-words.words.items c.args.nodes all long c.requires);
      };
      counted = sym (ap (λ (v : View). length v.seen.log) m);
      built = sym (ap (λ (v : View). length v.base) m ∙ ap (λ (b : List Entry). length b) (base_is c.in_ok-words.words.items c.args.nodes all long c.requires));
      inserted = omega arith;
      paid = subst (λ (v : View). IsPaid 1 0 v.seen) (sym m) (paid_zeros c.in_ok-words.words.items c.args.nodes all long c.requires);
    }

pub returns-clause-none : goal.returns-clause-none
returns-clause-none c =
    let zero : c.in_ok-words.words.items ≡ replicate (c.args.nodes * 64 + 1) 0 = c.in_ok-words.ensures.items_if_clones_equal (λ y e. e) in
    let all = zeros_are (c.args.nodes * 64 + 1) c.in_ok-words.words.items zero in
    let long : length c.in_ok-words.words.items ≡ c.args.nodes * 64 + 1 = ap (λ (l : List ℕ). length l) zero ∙ length-replicate (c.args.nodes * 64 + 1) 0 in
    let m : c.in_ok-memory.hand.me.0 ≡ opener c.in_ok-words.words.items = ap (λ x. x.0) c.in_ok-memory.ensures.writer in
    (ap (λ (v : View). v.base) m ∙ base_is c.in_ok-words.words.items c.args.nodes all long c.requires, ap (λ (v : View). v.seen.log) m, refl, refl)

pub returns-clause-new : goal.returns-clause-new
returns-clause-new c =
    let zero : c.in_ok-words.words.items ≡ replicate (c.args.nodes * 64 + 1) 0 = c.in_ok-words.ensures.items_if_clones_equal (λ y e. e) in
    let all = zeros_are (c.args.nodes * 64 + 1) c.in_ok-words.words.items zero in
    let long : length c.in_ok-words.words.items ≡ c.args.nodes * 64 + 1 = ap (λ (l : List ℕ). length l) zero ∙ length-replicate (c.args.nodes * 64 + 1) 0 in
    let m : c.in_ok-memory.hand.me.0 ≡ opener c.in_ok-words.words.items = ap (λ x. x.0) c.in_ok-memory.ensures.writer in
    subst (λ (v : View). IsNew v.seen) (sym m) (new_zeros c.in_ok-words.words.items c.args.nodes all long c.requires)

pub returns-clause-told : goal.returns-clause-told
returns-clause-told c =
    let zero : c.in_ok-words.words.items ≡ replicate (c.args.nodes * 64 + 1) 0 = c.in_ok-words.ensures.items_if_clones_equal (λ y e. e) in
    let all = zeros_are (c.args.nodes * 64 + 1) c.in_ok-words.words.items zero in
    let long : length c.in_ok-words.words.items ≡ c.args.nodes * 64 + 1 = ap (λ (l : List ℕ). length l) zero ∙ length-replicate (c.args.nodes * 64 + 1) 0 in
    let m : c.in_ok-memory.hand.me.0 ≡ opener c.in_ok-words.words.items = ap (λ x. x.0) c.in_ok-memory.ensures.writer in
    subst (λ (v : View). IsTold v.seen) (sym m) (told_zeros c.in_ok-words.words.items c.args.nodes all long c.requires)

pub returns-clause-clean : goal.returns-clause-clean
returns-clause-clean c =
    let zero : c.in_ok-words.words.items ≡ replicate (c.args.nodes * 64 + 1) 0 = c.in_ok-words.ensures.items_if_clones_equal (λ y e. e) in
    let all = zeros_are (c.args.nodes * 64 + 1) c.in_ok-words.words.items zero in
    let long : length c.in_ok-words.words.items ≡ c.args.nodes * 64 + 1 = ap (λ (l : List ℕ). length l) zero ∙ length-replicate (c.args.nodes * 64 + 1) 0 in
    let m : c.in_ok-memory.hand.me.0 ≡ opener c.in_ok-words.words.items = ap (λ x. x.0) c.in_ok-memory.ensures.writer in
    subst (λ (v : View). IsClean v.seen) (sym m) (clean_zeros c.in_ok-words.words.items c.args.nodes all long c.requires)
