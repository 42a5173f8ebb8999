use Rattle.std.proofs.Common.{◌≡◌, ◌-◌, min, length, drop, sym, ◌∙◌, ap, arith}
use Rattle.std.proofs.lemmas.Grind.{common_steps}
use Rattle.std.proofs.lemmas.List.{length-drop}
use Rattle.lane_format.proofs.Windows.{for_some, front_of}
use Rattle.lane_format.proofs.read.gate_of.Goals as goal

pub returns-clause-stands : goal.returns-clause-stands
returns-clause-stands g c = λ bytes known.
    let gate = c.args.gate in
    let rest = drop gate bytes in
    let front = c.fetch.new.into in
    let left : length rest ≡ c.args.size - gate = length-drop gate bytes ∙ ap (λ n. n - gate) (sym (c.requires.size bytes known)) in
    let size : length front ≡ min (c.args.size - gate) 5 = grind (arith, common_steps) in
    let found = for_some (g.D.Disk.content c.args.disk.now) _ c.in_ok-fetch.ensures.bytes bytes known in
    c.at_gate.ensures.stands rest left (found ∙ front_of 5 (length front) rest (size ∙ ap (λ n. min n 5) (sym left)))
