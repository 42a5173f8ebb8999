use Rattle.std.proofs.Common.{◌≡◌, ◌+◌, ◌++◌, take, drop, ap, subst, arith}
use Rattle.std.proofs.lemmas.Grind.{common_steps}
use Rattle.io_edge.specs.Content.{Content, Gives}
use Rattle.io_edge.proofs.Pieces.{gives_most}
use Rattle.io_edge.proofs.memory.MemSourceSource.pull.Goals as goal

pub returns-clause-gives : goal.returns-clause-gives
returns-clause-gives c =
    let s = c.self.inside in
    let n = c.min-n.result in
    let rest = drop n c.args.into.now in
    let after : Content = record { given = take (s.at + n) s.bytes.items; left = drop (s.at + n) s.bytes.items } in
    let piece : take n (drop s.at s.bytes.items) ≡ c.copy_from_slice.new.self = grind (arith, common_steps) in
    let gives = gives_most s.bytes.items c.args.into.now s.at n (omega arith) (grind (arith, common_steps)) in
    subst (λ p. Gives n (p ++ rest) c.args.self.now.content after) piece (subst (λ b. Gives n (take n (drop s.at s.bytes.items) ++ rest) b after) (ap (λ v. v.content) c.self.view_is) gives)
