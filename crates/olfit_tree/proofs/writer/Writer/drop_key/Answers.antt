use Rattle.std.proofs.Common.{◌≡◌, ◌∙◌, ◌+◌, List, length, arith, refl, subst, sym, ap}
use Rattle.atomic_table.specs.Seated.{TableId}
use Rattle.olfit_nodes.specs.Nodes.{Entry}
use Rattle.olfit_change.specs.States.{IsBetweenCalls}
use Rattle.olfit_tree.specs.Index.{Lain, Writing}
use Rattle.olfit_tree.proofs.BetweenCalls.{is_none, one_dropped, same_by, stands, works_own}
use Rattle.olfit_tree.proofs.writer.Writer.drop_key.Goals as goal

pub invariant_of-self : goal.invariant_of-self
invariant_of-self c =
    let table : c.self.inside.hand.table_id ≡ c.index.inside.memory.shared.table_id = ap (λ (w : Writing). w.table) c.self.view_is ∙ (c.requires.index ∙ sym (ap (λ (i : Lain). i.table) c.index.view_is)) in
    let works = c.take-dropped.ensures.works c.self.inside.used (subst (λ (t : TableId). IsBetweenCalls t c.self.inside.nodes c.self.inside.used c.self.inside.hand) table c.self.invariant.works) in
    let longer = one_dropped c.args.key.number c.take-dropped.result c.self.inside.hand.me.0.seen.log c.take-dropped.new.me.me.0.seen.log c.take-dropped.ensures.log (sym c.is_some.ensures ∙ c.if-is_some.true) in
    let counted = c.self.invariant.counted in let inserted = c.self.invariant.inserted in record {
      works = works_own c.index.inside.memory.shared.table_id c.self.inside.nodes c.self.inside.used c.take-dropped.new.me works;
      counted = omega (arith, counted, longer);
      built = c.self.invariant.built ∙ sym (ap (λ (b : List Entry). length b) c.take-dropped.ensures.same.1);
      inserted = omega (arith, inserted, longer);
      paid = c.take-dropped.ensures.paid c.self.inside.used (c.self.inside.built + c.self.inside.inserts) c.self.invariant.paid;
    }

pub returns-then-is_some-clause-told : goal.returns-then-is_some-clause-told
returns-then-is_some-clause-told c =
    let table : c.self.inside.hand.table_id ≡ c.index.inside.memory.shared.table_id = ap (λ (w : Writing). w.table) c.self.view_is ∙ (c.requires.index ∙ sym (ap (λ (i : Lain). i.table) c.index.view_is)) in
    (c.take-dropped.ensures.works c.self.inside.used (subst (λ (t : TableId). IsBetweenCalls t c.self.inside.nodes c.self.inside.used c.self.inside.hand) table c.self.invariant.works)).told

pub returns-then-is_some-clause-clean : goal.returns-then-is_some-clause-clean
returns-then-is_some-clause-clean c =
    let table : c.self.inside.hand.table_id ≡ c.index.inside.memory.shared.table_id = ap (λ (w : Writing). w.table) c.self.view_is ∙ (c.requires.index ∙ sym (ap (λ (i : Lain). i.table) c.index.view_is)) in
    (c.take-dropped.ensures.works c.self.inside.used (subst (λ (t : TableId). IsBetweenCalls t c.self.inside.nodes c.self.inside.used c.self.inside.hand) table c.self.invariant.works)).clean

pub returns-else-is_some-clause-told : goal.returns-else-is_some-clause-told
returns-else-is_some-clause-told c =
    let table : c.self.inside.hand.table_id ≡ c.index.inside.memory.shared.table_id = ap (λ (w : Writing). w.table) c.self.view_is ∙ (c.requires.index ∙ sym (ap (λ (i : Lain). i.table) c.index.view_is)) in
    (c.take-dropped.ensures.works c.self.inside.used (subst (λ (t : TableId). IsBetweenCalls t c.self.inside.nodes c.self.inside.used c.self.inside.hand) table c.self.invariant.works)).told

pub invariant_of-self-else-is_some : goal.invariant_of-self-else-is_some
invariant_of-self-else-is_some c =
    let s = stands c.self.inside.nodes c.self.inside.used c.self.inside.built c.self.inside.inserts c.self.inside.changes c.self.inside.hand c.take-dropped.new.me c.self.invariant.works c.self.invariant.counted c.self.invariant.built c.self.invariant.inserted c.self.invariant.paid
    (same_by c.self.inside.hand c.take-dropped.new.me c.self.inside.hand.me.0 c.take-dropped.ensures.same.0.0 (c.take-dropped.ensures.none (is_none c.take-dropped.result (sym c.is_some.ensures ∙ c.if-is_some.false))) refl refl refl refl) in
    record { works = s.works; counted = s.counted; built = s.rows; inserted = s.added; paid = s.paid }
