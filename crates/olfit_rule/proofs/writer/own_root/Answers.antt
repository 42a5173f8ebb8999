use Rattle.std.proofs.Common.{rules, ◌*◌, ℕ, sym, ap, subst, arith}
use Rattle.atomic_table.specs.Table.{step, Allows}
use mathlib.Core.Option.{none}
use Rattle.olfit_rule.specs.Rule.{Kept, Sat, own_read}
use Rattle.olfit_rule.proofs.Keeps.{own_loads_root}
use Rattle.olfit_rule.proofs.writer.own_root.Goals as goal

pub load-requires : goal.load-requires
load-requires c = (
  search rules,
  omega arith,
  subst (λ (n : ℕ). Allows Kept c.args.shared.now.table_id.slots c.args.me.now.id c.args.me.now.me (n * 64) (λ x. x) (own_read (step c.args.shared.now.table_id.slots (n * 64) 0 0 none) c.args.me.now.me)) c.requires.sized.0
      (own_loads_root c.args.shared.now.table_id.slots c.args.me.now.id c.args.me.now.me c.requires.own.1),
)

pub returns-clause-same : goal.returns-clause-same
returns-clause-same c = ((search rules, search rules, ap (λ (m : Sat). m.1) c.load.ensures.2.0), ap (λ (m : Sat). m.0) c.load.ensures.2.0)

pub returns-clause-root : goal.returns-clause-root
returns-clause-root c = c.load.ensures.2.2 (ap (λ (n : ℕ). n * 64) (sym c.requires.sized.0))
