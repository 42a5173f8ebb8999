-- What several pulls have done together. A source is told by the record of its ghost members.
use Rattle.std.specs.Prelude.{◌≡◌, ℕ, true, List, length, take}
use Rattle.std.specs.Option.{option_map, ForSome}
use Rattle.base_types.specs.Causes.{one_more}
use Rattle.io_edge.specs.Content.{after_giving}
use Rattle.io_edge.specs.declared.source.Source.{Ghosts}

-- Pulls gave these bytes, where the content is known those that came next, and none of them failed.
pub record ReadsOn {S : Type 0} (s : Ghosts S) (old new : S) (bytes : List ℕ) : Type 0 where
  pub given : s.content new ≡ option_map (after_giving (length bytes)) (s.content old)
  pub next : ForSome (s.content old) (λ content. bytes ≡ take (length bytes) content.left)
  pub still : s.faults new ≡ s.faults old

-- Pulls gave so many bytes, and then one failed, which was the last.
pub record ReadsToFault {S : Type 0} (s : Ghosts S) (old new : S) (n : ℕ) : Type 0 where
  pub given : s.content new ≡ option_map (after_giving n) (s.content old)
  pub fault : s.faults new ≡ one_more (s.faults old)
  pub last : s.failed new ≡ true
