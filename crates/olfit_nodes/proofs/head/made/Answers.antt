use Rattle.std.proofs.Common.{◌∙◌, List, arith, ap, length}
use Rattle.std.proofs.lemmas.List.{length-take-le, get_or_default}
use Rattle.olfit_nodes.specs.Nodes.{Entry}
use Rattle.olfit_nodes.proofs.Places.{length-entries, pushed}
use Rattle.olfit_nodes.proofs.Frames.{same_low, same_right, same_word}
use Rattle.olfit_nodes.proofs.head.made.Goals as goal

pub insert_at-requires-clause-room : goal.insert_at-requires-clause-room
insert_at-requires-clause-room c =
    let n = length-entries c.loop-place.words in let e = ap length c.loop-place.invariant.entries in
    let t = length-take-le c.loop-place.place c.args.entries.now (omega arith) in omega arith

pub insert_at-requires-clause-inside : goal.insert_at-requires-clause-inside
insert_at-requires-clause-inside c =
    let n = length-entries c.loop-place.words in let e = ap length c.loop-place.invariant.entries in
    let t = length-take-le c.loop-place.place c.args.entries.now (omega arith) in omega arith

pub loop-place-preserved : goal.loop-place-preserved
loop-place-preserved c =
    let old = c.loop-place.words in let new = c.insert_at.new.words in let inv = c.loop-place.invariant in
    let p = c.loop-place.place in let xs : List Entry = c.args.entries.now in record {
      low = same_low old new c.insert_at.ensures.frame ∙ inv.low;
      right = same_right old new c.insert_at.ensures.frame ∙ inv.right;
      level = c.insert_at.ensures.frame.level ∙ inv.level;
      entries = pushed old new xs p _ inv.entries (omega arith) c.insert_at.ensures.entries (λ d. get_or_default xs p d (0, 0) (omega arith));
      version = same_word old new 0 c.insert_at.ensures.frame (omega arith) ∙ inv.version;
      clear = c.insert_at.ensures.frame.rest ∙ inv.clear;
    }
