use Rattle.std.proofs.Common.{rules, ◌*◌, ◌<◌, ℕ, sym, ap, subst, arith}
use Rattle.atomic_table.specs.Table.{step, Allows}
use mathlib.Core.Option.{none}
use Rattle.olfit_rule.specs.Rule.{Kept, stored_root}
use Rattle.olfit_rule.proofs.Keeps.{stores_root}
use Rattle.olfit_rule.proofs.writer.store_root.Goals as goal

pub store-requires : goal.store-requires
store-requires c = (
  search rules,
  omega arith,
  subst (λ (n : ℕ). Allows Kept c.args.shared.now.table_id.slots c.args.me.now.id c.args.me.now.me (n * 64) (λ _. c.args.root) (λ _. stored_root (step c.args.shared.now.table_id.slots (n * 64) c.args.root 0 none) c.args.me.now.me c.args.root)) c.requires.sized.0
      (stores_root c.args.shared.now.table_id.slots c.args.me.now.id c.args.me.now.me c.args.root c.requires.own.1 (subst (λ (n : ℕ). 0 < n) (sym c.requires.sized.0) c.requires.sized.1) c.requires.good c.requires.lasts),
)

pub returns-clause-view : goal.returns-clause-view
returns-clause-view c = c.store.ensures.2.1 (ap (λ (n : ℕ). n * 64) (sym c.requires.sized.0))
