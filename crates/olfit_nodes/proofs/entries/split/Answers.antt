use Rattle.std.proofs.Common.{◌∙◌, ◌-◌, List, arith, ap, length}
use Rattle.std.specs.List.{insert}
use Rattle.std.proofs.lemmas.List.{length-take-le}
use Rattle.olfit_nodes.specs.Nodes.{Entry, entries_of}
use Rattle.olfit_nodes.proofs.Places.{length-entries, lower_with, upper_without, lower_without, upper_with}
use Rattle.olfit_nodes.proofs.entries.split.Goals as goal

pub insert_at-requires-clause-room : goal.insert_at-requires-clause-room
insert_at-requires-clause-room c =
    let n = length-entries c.args.words.now in let m = length-entries c.cut-upper.new.words in
    let e = ap length c.cut-upper.ensures.lower in let t = length-take-le 7 (entries_of c.args.words.now) (omega arith) in omega arith

pub insert_at-requires-clause-inside : goal.insert_at-requires-clause-inside
insert_at-requires-clause-inside c =
    let n = length-entries c.args.words.now in let m = length-entries c.cut-upper.new.words in
    let e = ap length c.cut-upper.ensures.lower in let t = length-take-le 7 (entries_of c.args.words.now) (omega arith) in omega arith

pub returns-then-place-lt8-clause-lower : goal.returns-then-place-lt8-clause-lower
returns-then-place-lt8-clause-lower c = let n = length-entries c.args.words.now in
    c.insert_at.ensures.entries ∙ (ap (λ (xs : List Entry). insert xs c.args.place (c.args.key, c.args.value)) c.cut-upper.ensures.lower ∙ lower_with (entries_of c.args.words.now) c.args.place (c.args.key, c.args.value) (omega arith) (omega arith))

pub returns-then-place-lt8-clause-upper : goal.returns-then-place-lt8-clause-upper
returns-then-place-lt8-clause-upper c = let n = length-entries c.args.words.now in
    c.cut-upper.ensures.upper ∙ upper_without (entries_of c.args.words.now) c.args.place (c.args.key, c.args.value) (omega arith) (omega arith)

pub returns-clause-lower : goal.returns-clause-lower
returns-clause-lower c = let n = length-entries c.args.words.now in
    c.cut-upper-2.ensures.lower ∙ lower_without (entries_of c.args.words.now) c.args.place (c.args.key, c.args.value) (omega arith) (omega arith)

pub returns-clause-upper : goal.returns-clause-upper
returns-clause-upper c = let n = length-entries c.args.words.now in
    c.insert.ensures.items ∙ (ap (λ (xs : List Entry). insert xs (c.args.place - 8) (c.args.key, c.args.value)) c.cut-upper-2.ensures.upper ∙ upper_with (entries_of c.args.words.now) c.args.place (c.args.key, c.args.value) (omega arith) (omega arith))
