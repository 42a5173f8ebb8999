use Rattle.olfit_tree.proofs.BetweenCalls.{same_looked, stands}
use Rattle.olfit_tree.proofs.index.Index.entries.Goals as goal

pub invariant_of-writer : goal.invariant_of-writer
invariant_of-writer c =
    let s = stands c.writer.inside.nodes c.writer.inside.used c.writer.inside.built c.writer.inside.inserts c.writer.inside.changes c.writer.inside.hand c.leaf_entries.new.me c.writer.invariant.works c.writer.invariant.counted c.writer.invariant.built c.writer.invariant.inserted c.writer.invariant.paid
    (same_looked c.writer.inside.hand c.leaf_entries.new.me c.leaf_entries.ensures.same) in
    record { works = s.works; counted = s.counted; built = s.rows; inserted = s.added; paid = s.paid }
