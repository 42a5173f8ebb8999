-- A token and its length, seen without where it lies in memory.
use Rattle.std.specs.Prelude.{ℕ}
use Rattle.sql_lex.specs.Spelling.{Lexeme}
use Rattle.sql_lex.specs.Seen.{lexeme_of}
use Rattle.sql_lex.specs.declared.shapes.FoundToken.{FoundToken}

-- the token and its length
abbrev pub seen : FoundToken → Lexeme × ℕ
seen found = (lexeme_of found.kind, found.len)
