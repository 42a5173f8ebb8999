use Rattle.std.proofs.Common.{◌≢◌, map, ℕ, ◌<◌, get_or}
use Rattle.std.specs.Char.{to_ascii_lowercase}
use Rattle.sql_lex.specs.Letters.{letters}
use Rattle.sql_lex.specs.declared.keyword.Keyword.TheVariants.{And}
use Rattle.sql_lex.proofs.keyword.keyword_of.Given as goal

-- none of the keywords so far is the word
abbrev pub invariant-loop-keyword : goal.invariant-loop-keyword
invariant-loop-keyword l = (j : ℕ) → j < l.keyword-index → map to_ascii_lowercase l.word ≢ letters (get_or l.keyword-items j And)
