use Rattle.olfit_tree.proofs.BetweenCalls.{same_looked, same_twice, stands}
use Rattle.olfit_tree.proofs.writer.Writer.fault.Goals as goal

pub invariant_of-self : goal.invariant_of-self
invariant_of-self c =
    let s = stands c.self.inside.nodes c.self.inside.used c.self.inside.built c.self.inside.inserts c.self.inside.changes c.self.inside.hand c.value_of.new.me c.self.invariant.works c.self.invariant.counted c.self.invariant.built c.self.invariant.inserted c.self.invariant.paid
    (same_looked c.self.inside.hand c.value_of.new.me c.value_of.ensures.same) in
    record { works = s.works; counted = s.counted; built = s.rows; inserted = s.added; paid = s.paid }

pub invariant_of-self-then-needed-self : goal.invariant_of-self-then-needed-self
invariant_of-self-then-needed-self c =
    let s = stands c.self.inside.nodes c.self.inside.used c.self.inside.built c.self.inside.inserts c.self.inside.changes c.self.inside.hand c.nodes_needed-needed.new.me c.self.invariant.works c.self.invariant.counted c.self.invariant.built c.self.invariant.inserted c.self.invariant.paid
    (same_twice c.self.inside.hand c.value_of.new.me c.nodes_needed-needed.new.me (same_looked c.self.inside.hand c.value_of.new.me c.value_of.ensures.same) (same_looked c.value_of.new.me c.nodes_needed-needed.new.me c.nodes_needed-needed.ensures.same)) in
    record { works = s.works; counted = s.counted; built = s.rows; inserted = s.added; paid = s.paid }

pub invariant_of-self-2 : goal.invariant_of-self-2
invariant_of-self-2 c =
    let s = stands c.self.inside.nodes c.self.inside.used c.self.inside.built c.self.inside.inserts c.self.inside.changes c.self.inside.hand c.nodes_needed-needed.new.me c.self.invariant.works c.self.invariant.counted c.self.invariant.built c.self.invariant.inserted c.self.invariant.paid
    (same_twice c.self.inside.hand c.value_of.new.me c.nodes_needed-needed.new.me (same_looked c.self.inside.hand c.value_of.new.me c.value_of.ensures.same) (same_looked c.value_of.new.me c.nodes_needed-needed.new.me c.nodes_needed-needed.ensures.same)) in
    record { works = s.works; counted = s.counted; built = s.rows; inserted = s.added; paid = s.paid }

pub returns-in-Some-clause-told : goal.returns-in-Some-clause-told
returns-in-Some-clause-told c =
    let s = stands c.self.inside.nodes c.self.inside.used c.self.inside.built c.self.inside.inserts c.self.inside.changes c.self.inside.hand c.value_of.new.me c.self.invariant.works c.self.invariant.counted c.self.invariant.built c.self.invariant.inserted c.self.invariant.paid
    (same_looked c.self.inside.hand c.value_of.new.me c.value_of.ensures.same) in
    s.works.told

pub returns-then-needed-self-clause-told : goal.returns-then-needed-self-clause-told
returns-then-needed-self-clause-told c =
    let s = stands c.self.inside.nodes c.self.inside.used c.self.inside.built c.self.inside.inserts c.self.inside.changes c.self.inside.hand c.nodes_needed-needed.new.me c.self.invariant.works c.self.invariant.counted c.self.invariant.built c.self.invariant.inserted c.self.invariant.paid
    (same_twice c.self.inside.hand c.value_of.new.me c.nodes_needed-needed.new.me (same_looked c.self.inside.hand c.value_of.new.me c.value_of.ensures.same) (same_looked c.value_of.new.me c.nodes_needed-needed.new.me c.nodes_needed-needed.ensures.same)) in
    s.works.told

pub returns-clause-told : goal.returns-clause-told
returns-clause-told c =
    let s = stands c.self.inside.nodes c.self.inside.used c.self.inside.built c.self.inside.inserts c.self.inside.changes c.self.inside.hand c.nodes_needed-needed.new.me c.self.invariant.works c.self.invariant.counted c.self.invariant.built c.self.invariant.inserted c.self.invariant.paid
    (same_twice c.self.inside.hand c.value_of.new.me c.nodes_needed-needed.new.me (same_looked c.self.inside.hand c.value_of.new.me c.value_of.ensures.same) (same_looked c.value_of.new.me c.nodes_needed-needed.new.me c.nodes_needed-needed.ensures.same)) in
    s.works.told
