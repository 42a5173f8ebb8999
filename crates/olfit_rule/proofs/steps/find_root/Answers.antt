use Rattle.std.proofs.Common.{rules, ◌*◌, ◌<◌, ℕ, sym, ap, subst, arith}
use Rattle.atomic_table.specs.Table.{step, Allows}
use mathlib.Core.Option.{none}
use Rattle.olfit_rule.specs.Rule.{Kept, found_root}
use Rattle.olfit_rule.proofs.Keeps.{finds_root}
use Rattle.olfit_rule.proofs.steps.find_root.Goals as goal

pub load-requires : goal.load-requires
load-requires c =
    let size = c.requires.sized.0 in (
      search rules,
      omega arith,
      subst (λ (n : ℕ). Allows Kept c.args.shared.now.table_id.slots c.args.me.now.id c.args.me.now.me (n * 64) (λ x. x) (found_root (step c.args.shared.now.table_id.slots (n * 64) 0 0 none) c.args.me.now.me)) size
          (finds_root c.args.shared.now.table_id.slots c.args.me.now.id c.args.me.now.me c.requires.own.1),
    )

pub returns-clause-seat : goal.returns-clause-seat
returns-clause-seat c =
    let l = c.load.ensures.2.1 (ap (λ (n : ℕ). n * 64) (sym c.requires.sized.0)) (subst (λ (n : ℕ). 0 < n) (sym c.requires.sized.0) c.requires.sized.1) in let n = l.loads in
    record { table = c.load.ensures.0; id = c.load.ensures.1; slots = c.load.ensures.2.0; writes = l.moved.writes; base = l.moved.kept.2; later = l.moved.later; told = l.moved.told; kept = l.moved.kept.1; loads = omega (arith, n) }

pub returns-clause-good : goal.returns-clause-good
returns-clause-good c =
    let l = c.load.ensures.2.1 (ap (λ (n : ℕ). n * 64) (sym c.requires.sized.0)) (subst (λ (n : ℕ). 0 < n) (sym c.requires.sized.0) c.requires.sized.1) in l.moved.good

pub returns-clause-root : goal.returns-clause-root
returns-clause-root c =
    let l = c.load.ensures.2.1 (ap (λ (n : ℕ). n * 64) (sym c.requires.sized.0)) (subst (λ (n : ℕ). 0 < n) (sym c.requires.sized.0) c.requires.sized.1) in l.root
