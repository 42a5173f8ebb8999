use Rattle.std.proofs.Common.{◌∙◌, ap, sym, arith, Some}
use Rattle.olfit_nodes.specs.Nodes.{Entry, entries_of}
use Rattle.olfit_nodes.proofs.Places.{length-entries, get_or-entries}
use Rattle.olfit_walk.proofs.Finds.{found_value, absent_value}
use Rattle.olfit_walk.proofs.leaf.value_in.Goals as goal

pub entry-requires : goal.entry-requires
entry-requires c =
    let n = length-entries c.args.words.now in
    let v = found_value (entries_of c.args.words.now) c.args.key c.in-Some.place (0, 0) (sym c.find.ensures ∙ c.in-Some.is) in
    let inside = v.0 in omega arith

pub returns-in-Some : goal.returns-in-Some
returns-in-Some c =
    let n = length-entries c.args.words.now in
    let v = found_value (entries_of c.args.words.now) c.args.key c.in-Some.place (0, 0) (sym c.find.ensures ∙ c.in-Some.is) in
    let inside = v.0 in
    ap (λ (e : Entry). Some e.1) c.entry.ensures ∙ (sym (ap (λ (e : Entry). Some e.1) (get_or-entries c.args.words.now c.in-Some.place (0, 0) (omega arith))) ∙ sym v.1)

pub returns-in-None : goal.returns-in-None
returns-in-None c = sym (absent_value (entries_of c.args.words.now) c.args.key (0, 0) (sym c.find.ensures ∙ c.in-None.is))
