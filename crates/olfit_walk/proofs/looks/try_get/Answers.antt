use Rattle.olfit_rule.specs.declared.view.Change.{Change}
use Rattle.std.proofs.Common.{length, ◌∙◌, List, ap, sym, refl}
use Rattle.olfit_walk.specs.Looks.{reading_of}
use Rattle.olfit_walk.proofs.Told.{told}
use Rattle.olfit_walk.proofs.looks.try_get.Goals as goal

pub returns-in-Found-clause-answer : goal.returns-in-Found-clause-answer
returns-in-Found-clause-answer c =
    let found = c.in-Found.ensures.found in let good = c.in-Found.ensures.good in
    let says = sym ((good.nodes 0 found.0 found.1).leaf refl c.args.key.number found.2) ∙ sym found.3 in
    told c.args.key c.in-Found.value c.args.known (reading_of c.seek.new.me) c.looked.result c.looked.ensures (c.requires.known ∙ sym (ap (λ (l : List Change). length l) c.in-Found.ensures.seat.kept)) (record { says = says; legal = good.legal })
