use Rattle.std.proofs.Common.{◌≡◌, ◌∙◌, ℕ, List, length, replicate, arith, sym, ap, subst}
use Rattle.std.proofs.lemmas.List.{length-replicate}
use Rattle.olfit_rule.specs.declared.view.View.{View}
use Rattle.olfit_rule.specs.Rule.{opener, IsAtRest}
use Rattle.olfit_rule.specs.Tree.{Good}
use Rattle.olfit_change.specs.States.{IsFreeFrom, IsTold, IsClean, HasLowVersions}
use Rattle.olfit_tree.proofs.Zeros.{can_open, clean_zeros, free_zeros, good_zeros, low_zeros, nodes_long, rest_zeros, told_zeros, zeros_are}
use Rattle.test_index.proofs.latched.open.Goals as goal

pub opened-requires : goal.opened-requires
opened-requires c =
    let zero : c.in_ok-words.words.items ≡ replicate 513 0 = c.in_ok-words.ensures.items_if_clones_equal (λ y e. e) in
    let all = zeros_are 513 c.in_ok-words.words.items zero in
    let long : length c.in_ok-words.words.items ≡ 513 = ap (λ (l : List ℕ). length l) zero ∙ length-replicate {A = ℕ} 513 0 in
    can_open c.in_ok-words.words.items 8 all long (omega arith)

pub returns-clause-works : goal.returns-clause-works
returns-clause-works c =
    let zero : c.in_ok-words.words.items ≡ replicate 513 0 = c.in_ok-words.ensures.items_if_clones_equal (λ y e. e) in
    let all = zeros_are 513 c.in_ok-words.words.items zero in
    let long : length c.in_ok-words.words.items ≡ 513 = ap (λ (l : List ℕ). length l) zero ∙ length-replicate {A = ℕ} 513 0 in
    let m : c.in_ok-memory.writer.me.0 ≡ opener c.in_ok-words.words.items = ap (λ x. x.0) c.in_ok-memory.ensures.writer in
    record {
      ready = record {
        table_is = c.in_ok-memory.ensures.table.0;
        rest = subst IsAtRest (sym m) (rest_zeros c.in_ok-words.words.items 8 all long (omega arith));
        good = subst (λ (v : View). Good v.base v.seen) (sym m) (good_zeros c.in_ok-words.words.items 8 all long (omega arith));
        count = ap (λ (v : View). length v.seen.image) m ∙ nodes_long c.in_ok-words.words.items 8 all long (omega arith);
        sized = (omega arith, omega arith, c.in_ok-memory.ensures.table.1 ∙ long);
      };
      free = subst (λ (v : View). IsFreeFrom 1 v.seen) (sym m) (free_zeros c.in_ok-words.words.items 8 all long (omega arith));
      told = subst (λ (v : View). IsTold v.seen) (sym m) (told_zeros c.in_ok-words.words.items 8 all long (omega arith));
      clean = subst (λ (v : View). IsClean v.seen) (sym m) (clean_zeros c.in_ok-words.words.items 8 all long (omega arith));
      versions = subst (λ (v : View). HasLowVersions v.seen) (sym m) (low_zeros c.in_ok-words.words.items 8 all long (omega arith));
    }

pub returns-clause-none : goal.returns-clause-none
returns-clause-none c = ap (λ x. x.0.seen.log) c.in_ok-memory.ensures.writer
