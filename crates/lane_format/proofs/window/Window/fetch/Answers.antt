use Rattle.std.proofs.Common.{◌≡◌, ◌-◌, length, take, drop, sym, ◌∙◌, ap, arith}
use Rattle.std.proofs.lemmas.Grind.{common_steps}
use Rattle.lane_format.proofs.Windows.{if_some, window_piece}
use Rattle.lane_format.proofs.window.Window.fetch.Goals as goal

pub returns-clause-bytes : goal.returns-clause-bytes
returns-clause-bytes g c =
    let content = g.D.Disk.content c.args.disk.now in
    let window = c.reach.new.self in
    let at = c.args.at in
    let n = length c.args.into.now in
    let covers = c.in_ok-reach.ensures.covers in
    let piece : c.copy_from_slice.new.self ≡ take n (drop (at - window.at) window.bytes) = grind (arith, common_steps) in
    if_some content _ (λ bytes known.
    piece
    ∙ window_piece window.bytes bytes window.at window.len at n (c.in_ok-reach.ensures.window.bytes bytes known) covers.0 covers.1
    ∙ ap (λ k. take k (drop at bytes)) (sym c.copy_from_slice.ensures.len))
