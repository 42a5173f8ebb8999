-- Tokens of the program, seen without where they lie in memory.
use Rattle.std.specs.Prelude.{List, map}
use Rattle.sql_lex.specs.Spelling.{Lexeme, Word, Name, Number, Literal, Sign}
use Rattle.sql_lex.specs.Tokens.{Item}
use Rattle.sql_lex.specs.declared.token.Token.{Token}
use Rattle.sql_lex.specs.declared.token.TokenKind.{TokenKind}
use Rattle.sql_lex.specs.declared.token.TokenKind.TheVariants as kinds

-- what a token is
abbrev pub lexeme_of : TokenKind → Lexeme
lexeme_of (kinds.Word keyword) = Word keyword
lexeme_of (kinds.Name name) = Name name.now
lexeme_of (kinds.Number n) = Number n
lexeme_of (kinds.Literal raw) = Literal raw.now
lexeme_of (kinds.Sign sign) = Sign sign

-- what a token is, and its place
abbrev pub item_of : Token → Item
item_of token = record { lexeme = lexeme_of token.kind; at = token.at }

-- tokens and their places
abbrev pub items_of : List Token → List Item
items_of tokens = map item_of tokens
