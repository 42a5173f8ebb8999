use Rattle.std.proofs.Common.{◌≡◌, ◌-◌, [], ◌∷◌, ◌++◌, length, refl, ◌∙◌, ap, arith}
use Rattle.std.proofs.lemmas.Grind.{common_steps}
use Rattle.disk_core.specs.Memory.{room_of}
use Rattle.disk_core.specs.Entries.{total_len}
use Rattle.disk_core.proofs.Calls.{total_len-push, calls_of-push}
use Rattle.disk_core.proofs.history.History.keep.Goals as goal

pub invariant_of-self : goal.invariant_of-self
invariant_of-self c =
    let items : c.push.new.self.items ≡ c.self.inside.entries.items ++ c.args.entry ∷ [] = grind (arith, common_steps) in
    let total = ap total_len items ∙ total_len-push c.self.inside.entries.items c.args.entry in
    record {
      whole = grind (arith, common_steps, total);
      entries_room = grind (arith, common_steps);
      bytes_room = grind (arith, common_steps);
    }

pub returns : goal.returns
returns c =
    let h = c.self.inside in
    let items : c.push.new.self.items ≡ h.entries.items ++ c.args.entry ∷ [] = grind (arith, common_steps) in
    let bytes : c.extend_from_slice.new.self.items ≡ h.bytes.items ++ c.args.bytes.now = grind (arith, common_steps) in
    let same : h.room - room_of (length c.args.bytes.now) ≡ c.unwrap_or-self-inside.result = grind (arith, common_steps) in
    let total : total_len h.entries.items ≡ length h.bytes.items = grind (arith, common_steps, c.self.invariant.whole) in
    let calls = calls_of-push h.entries.items c.args.entry h.bytes.items c.args.bytes.now [] total c.requires.len in
    rw (← c.self.view_is, items, bytes, calls, same) refl
