use Rattle.std.proofs.Common.{◌≡◌, ◌∙◌, ◌+◌, ℕ, List, length, arith, subst, sym, ap}
use Rattle.olfit_nodes.specs.Nodes.{Entry}
use Rattle.olfit_rule.specs.declared.view.Change.TheVariants.{Add}
use Rattle.olfit_change.specs.Room.{IsPaid}
use Rattle.olfit_tree.proofs.BetweenCalls.{one_longer, works_own}
use Rattle.olfit_tree.proofs.writer.Writer.add.Goals as goal

pub invariant_of-self : goal.invariant_of-self
invariant_of-self c =
    let longer = one_longer c.self.inside.hand.me.0.seen.log c.put.new.me.me.0.seen.log (Add c.args.key.number c.args.value) c.put.ensures.log in
    let sums : c.self.inside.built + c.self.inside.inserts + 1 ≡ c.self.inside.built + (c.self.inside.inserts + 1) = omega arith in
    let counted = c.self.invariant.counted in let inserted = c.self.invariant.inserted in record {
      works = works_own c.index.inside.memory.shared.table_id c.self.inside.nodes c.put.new.used c.put.new.me c.put.ensures.works;
      counted = omega (arith, counted, longer);
      built = c.self.invariant.built ∙ sym (ap (λ (b : List Entry). length b) c.put.ensures.same.1);
      inserted = omega (arith, inserted, longer);
      paid = subst (λ (k : ℕ). IsPaid c.put.new.used k c.put.new.me.me.0.seen) sums (c.put.ensures.paid (c.self.inside.built + c.self.inside.inserts) c.self.invariant.paid);
    }
