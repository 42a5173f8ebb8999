-- The numbers of a refusal, seen as their list.
use Rattle.std.specs.Prelude.{ℤ, pos, List, [], ◌∷◌}
use Rattle.reply_text.specs.declared.refusals.Numbers.{Numbers}
use Rattle.reply_text.specs.declared.refusals.Numbers.TheVariants as numbers

-- their list
abbrev pub as_list : Numbers → List ℤ
as_list numbers.None = []
as_list (numbers.One n) = pos n ∷ []
as_list (numbers.Two n m) = pos n ∷ pos m ∷ []
as_list (numbers.Key key) = key.now
