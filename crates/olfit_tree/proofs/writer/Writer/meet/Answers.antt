use Rattle.std.proofs.Common.{refl}
use Rattle.olfit_rule.specs.Rule.{informed}
use Rattle.olfit_tree.proofs.BetweenCalls.{same_by, same_twice, stands}
use Rattle.olfit_tree.proofs.writer.Writer.meet.Goals as goal

pub invariant_of-self : goal.invariant_of-self
invariant_of-self c =
    let s = stands c.self.inside.nodes c.self.inside.used c.self.inside.built c.self.inside.inserts c.self.inside.changes c.self.inside.hand c.agree.new.writer c.self.invariant.works c.self.invariant.counted c.self.invariant.built c.self.invariant.inserted c.self.invariant.paid
    (same_twice c.self.inside.hand c.meet.new.writer c.agree.new.writer (same_by c.self.inside.hand c.meet.new.writer c.self.inside.hand.me.0 c.meet.ensures.writer.0.0 c.meet.ensures.writer.1 refl refl refl refl) (same_by c.meet.new.writer c.agree.new.writer (informed c.meet.new.writer.me.0 c.meet.new.me.me.0) c.agree.ensures.writer.0.0 c.agree.ensures.writer.1 refl refl refl refl)) in
    record { works = s.works; counted = s.counted; built = s.rows; inserted = s.added; paid = s.paid }
