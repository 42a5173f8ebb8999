-- Tests of tokens.
use Rattle.std.specs.Prelude.{ℕ, Bool, false, ◌==◌}
use Rattle.sql_lex.specs.Spelling.{Lexeme, Word, Sign}
use Rattle.sql_lex.specs.declared.keyword.Keyword.{Keyword}
use Rattle.sql_lex.specs.declared.keyword.Keyword.TheVariants as words
use Rattle.sql_lex.specs.declared.token.Sign.{Sign as Mark}
use Rattle.sql_lex.specs.declared.token.Sign.TheVariants as signs

-- the number of a keyword
abbrev pub word_number : Keyword → ℕ
word_number words.And = 0
word_number words.Asc = 1
word_number words.Begin = 2
word_number words.Bigint = 3
word_number words.By = 4
word_number words.Checkpoint = 5
word_number words.Commit = 6
word_number words.Count = 7
word_number words.Create = 8
word_number words.Delete = 9
word_number words.Desc = 10
word_number words.From = 11
word_number words.Insert = 12
word_number words.Int = 13
word_number words.Integer = 14
word_number words.Into = 15
word_number words.Key = 16
word_number words.Limit = 17
word_number words.Order = 18
word_number words.Primary = 19
word_number words.Rollback = 20
word_number words.Select = 21
word_number words.Set = 22
word_number words.Sum = 23
word_number words.Table = 24
word_number words.Text = 25
word_number words.Update = 26
word_number words.Values = 27
word_number words.Varchar = 28
word_number words.Where = 29

-- the number of a sign
abbrev pub sign_number : Mark → ℕ
sign_number signs.Open = 0
sign_number signs.Close = 1
sign_number signs.Comma = 2
sign_number signs.Star = 3
sign_number signs.Plus = 4
sign_number signs.Minus = 5
sign_number signs.Equal = 6
sign_number signs.NotEqual = 7
sign_number signs.Less = 8
sign_number signs.LessEqual = 9
sign_number signs.Greater = 10
sign_number signs.GreaterEqual = 11

-- the token is this keyword
abbrev pub is_word : Keyword → Lexeme → Bool
is_word keyword (Word found) = word_number keyword == word_number found
is_word keyword _ = false

-- the token is this sign
abbrev pub is_sign : Mark → Lexeme → Bool
is_sign mark (Sign found) = sign_number mark == sign_number found
is_sign mark _ = false
