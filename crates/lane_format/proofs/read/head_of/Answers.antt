use Rattle.std.proofs.Common.{◌≡◌, min, length, ◌∙◌, ap, arith}
use Rattle.std.proofs.lemmas.Grind.{common_steps}
use Rattle.lane_format.proofs.Windows.{for_some, front_of}
use Rattle.lane_format.proofs.read.head_of.Goals as goal

pub returns-clause-head : goal.returns-clause-head
returns-clause-head g c = λ bytes known.
    let front = c.read_at.new.into in
    let size : length front ≡ min c.args.size 11 = grind (arith, common_steps) in
    let found = for_some (g.D.Disk.content c.args.disk.now) _ c.in_ok-read_at.ensures.bytes bytes known in
    c.read_head.ensures.head bytes (found ∙ front_of 11 (length front) bytes (size ∙ ap (λ n. min n 11) (c.requires bytes known)))
