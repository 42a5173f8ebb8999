-- What a source whose content is known has given and has left, and what one pull does to it.
use Rattle.std.specs.Prelude.{◌≡◌, ℕ, ◌<◌, ◌≤◌, List, [], ◌++◌, length, take, drop, Option, None, MatchOption}
use Rattle.std.specs.Prelude.{IsSomeAnd, Result, Ok, Err}

-- the bytes given so far, and those still to come
pub record Content : Type 0 where
  pub given : List ℕ
  pub left : List ℕ

-- the content once n bytes more are given
abbrev pub after_giving : ℕ → Content → Content
after_giving n c = record { given = c.given ++ take n c.left; left = drop n c.left }

-- The piece begins with the n bytes that came next. None comes for a piece that isn't empty only at the end.
pub record Gives (n : ℕ) (piece : List ℕ) (old new : Content) : Type 0 where
  pub enough : n ≤ length old.left
  pub bytes : take n piece ≡ take n old.left
  pub rest : new ≡ after_giving n old
  pub end : n ≡ 0 → 0 < length piece → old.left ≡ []

-- what one pull into a piece does: Ok gives the next bytes, Err gives nothing
abbrev pub Pulls : {E : Type 0} → Option Content → Result ℕ E → List ℕ → Option Content → Type 0
Pulls old (Ok n) piece new = MatchOption old (new ≡ None) (λ content. IsSomeAnd new (Gives n piece content))
Pulls old (Err e) piece new = new ≡ old
