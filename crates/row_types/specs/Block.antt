-- The statements of a script.
use Rattle.std.specs.Prelude.{ℕ, List}

-- the text of a statement, and the place in the script at which it begins
pub record Placed : Type 0 where
  pub base : ℕ
  pub text : List ℕ
