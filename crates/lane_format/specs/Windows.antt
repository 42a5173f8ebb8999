-- What a window over a file has of it.
use Rattle.std.specs.Prelude.{◌≡◌, ℕ, ◌+◌, ◌≤◌, List, take, drop, Option}
use Rattle.std.specs.Option.{ForSome}
use Rattle.lane_format.specs.declared.window.Window.{Window}

-- the window has the bytes of the file from its place on, at most 8,192 of them
pub record IsWindow (content : Option (List ℕ)) (window : Window) : Type 0 where
  pub short : window.len ≤ 8192
  pub bytes : ForSome content (λ bytes. take window.len window.bytes ≡ take window.len (drop window.at bytes))

-- the n bytes from that place on are among them
abbrev pub Covers : ℕ → ℕ → Window → Type 0
Covers at n window = (window.at ≤ at) × (at + n ≤ window.at + window.len)
