-- What a window over a file has of it.
use Rattle.std.specs.Prelude.{◌≡◌, ℕ, ◌+◌, ◌-◌, ◌≤◌, List, length, take, drop, Option}
use Rattle.std.specs.Option.{ForSome}
use Rattle.replay_core.specs.declared.window.Window.{Window}

-- the window has the bytes of a file of that size from its place on, at most 65,536 of them
pub record IsWindow (content : Option (List ℕ)) (size : ℕ) (window : Window) : Type 0 where
  pub whole : length window.bytes.items ≡ 65536
  pub short : window.len ≤ 65536
  pub inside : window.at + window.len ≤ size
  pub bytes
      : ForSome content (λ bytes. take window.len window.bytes.items ≡ take window.len (drop window.at bytes))

-- the n bytes from that place on are among them
abbrev pub Covers : ℕ → ℕ → Window → Type 0
Covers at n window = (window.at ≤ at) × (at + n ≤ window.at + window.len)

-- the n bytes from that place on that it has
abbrev pub piece_of : Window → ℕ → ℕ → List ℕ
piece_of window at n = take n (drop (at - window.at) window.bytes.items)
