use Rattle.std.proofs.Common.{◌≡◌, ◌≤◌, ◌-◌, length, take, ap, ◌∙◌, arith}
use Rattle.std.proofs.lemmas.Grind.{common_steps}
use Rattle.replay_core.proofs.WindowLaws.{filled, kept_items, kept_length}
use Rattle.lane_format.proofs.Windows.{for_some}
use Rattle.replay_core.proofs.window.Window.fill.Goals as goal

pub returns-clause-window : goal.returns-clause-window
returns-clause-window g c =
    let window = c.args.self.now in
    let vec = window.bytes in
    let from = window.len in
    let len = c.min-len.result in
    let piece = c.read_at.new.into in
    let slice = c.deref_mut.result.now in
    let whole : vec.len ≡ length vec.items = omega arith in
    let same : slice ≡ vec.items = c.deref_mut.ensures.value in
    let limit : len ≤ 65536 = omega arith in
    let less : from ≤ len = omega (arith, c.requires.window.inside, c.requires.window.short) in
    let size : length piece ≡ len - from = grind (arith, common_steps) in
    let fits : len ≤ vec.len = omega (arith, limit, whole, c.requires.window.whole) in
    let items = kept_items vec.items slice piece vec.len from len whole same less fits size in
    record {
      whole = kept_length vec.items slice piece vec.len from len whole same less fits size ∙ whole ∙ c.requires.window.whole;
      short = limit;
      inside = omega (arith, c.requires.window.inside);
      bytes = λ bytes known.
          ap (take len) items
          ∙ filled vec.items bytes piece window.at from len (c.requires.window.bytes bytes known) (omega (arith, less, fits, whole)) less size (for_some (g.D.Disk.content c.args.disk.now) _ c.in_ok-read_at.ensures.bytes bytes known);
    }
