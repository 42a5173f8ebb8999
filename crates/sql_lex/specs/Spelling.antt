-- How each token is written, and what may not follow it.
use Rattle.std.specs.Prelude.{◌≡◌, ℕ, ◌+◌, ◌-◌, ◌*◌, ◌^◌, min, Bool, false, ◌&&◌, ◌||◌, ◌==◌, nat_le, nat_lt}
use Rattle.std.specs.Prelude.{IsTrue, ◌⊎◌, List, [], ◌∷◌, ◌++◌, map, fold, codes, if◌then◌else◌, ◌≢◌}
use Rattle.std.specs.List.{flat_map, list_all}
use Rattle.std.specs.Char.{to_ascii_lowercase, is_ascii_digit, is_ascii_alphabetic}
use Rattle.sql_lex.specs.Letters.{letters}
use Rattle.sql_lex.specs.declared.keyword.Keyword.{Keyword}
use Rattle.sql_lex.specs.declared.token.Sign.{Sign as Mark}
use Rattle.sql_lex.specs.declared.token.Sign.TheVariants.{Open, Close, Comma, Star, Plus, Minus, Equal}
use Rattle.sql_lex.specs.declared.token.Sign.TheVariants.{NotEqual, Less, LessEqual, Greater, GreaterEqual}

-- a token without where it lies in memory: a keyword; a name's
-- bytes; a number; the bytes between a literal's quotes; a sign
pub data Lexeme : Type 0 where
  Word : Keyword → Lexeme
  Name : List ℕ → Lexeme
  Number : ℕ → Lexeme
  Literal : List ℕ → Lexeme
  Sign : Mark → Lexeme

-- a letter, a digit or an underscore
abbrev pub is_word_byte : ℕ → Bool
is_word_byte b = is_ascii_alphabetic b || (is_ascii_digit b || b == 95)

-- a letter, and then letters, digits and underscores
abbrev pub IsWord : List ℕ → Type 0
IsWord [] = ⊥
IsWord (b ∷ bs) = IsTrue (is_ascii_alphabetic b) × IsTrue (list_all is_word_byte bs)

-- one digit or more
abbrev pub IsDigits : List ℕ → Type 0
IsDigits [] = ⊥
IsDigits (b ∷ bs) = IsTrue (list_all is_ascii_digit (b ∷ bs))

-- the number that digits are in decimal
abbrev pub number_of : List ℕ → ℕ
number_of digits = fold (λ n b. 10 * n + (b - 48)) 0 digits

-- what a literal may have in it: no control character
abbrev pub is_allowed : ℕ → Bool
is_allowed b = nat_le 32 b && nat_lt b 127 || nat_le 128 b

-- a text with each quote in it twice
abbrev pub doubled : List ℕ → List ℕ
doubled text = flat_map (λ b. if b == 39 then 39 ∷ 39 ∷ [] else b ∷ []) text

-- what stands between a literal's quotes: some text of allowed characters, each quote in it twice
abbrev pub IsQuoted : List ℕ → Type 0
IsQuoted raw = (text : List ℕ) × (raw ≡ doubled text) × IsTrue (list_all is_allowed text)

-- how a sign is written
abbrev pub SpellsSign : Mark → List ℕ → Type 0
SpellsSign Open bytes = bytes ≡ codes "("
SpellsSign Close bytes = bytes ≡ codes ")"
SpellsSign Comma bytes = bytes ≡ codes ","
SpellsSign Star bytes = bytes ≡ codes "*"
SpellsSign Plus bytes = bytes ≡ codes "+"
SpellsSign Minus bytes = bytes ≡ codes "-"
SpellsSign Equal bytes = bytes ≡ codes "="
SpellsSign NotEqual bytes = (bytes ≡ codes "<>") ⊎ (bytes ≡ codes "!=")
SpellsSign Less bytes = bytes ≡ codes "<"
SpellsSign LessEqual bytes = bytes ≡ codes "<="
SpellsSign Greater bytes = bytes ≡ codes ">"
SpellsSign GreaterEqual bytes = bytes ≡ codes ">="

-- these bytes are this token: a keyword in any case, a name that is no keyword, and so on
abbrev pub Spells : Lexeme → List ℕ → Type 0
Spells (Word keyword) bytes = IsWord bytes × (map to_ascii_lowercase bytes ≡ letters keyword)
Spells (Name name) bytes =
    IsWord bytes × (bytes ≡ name) × ((k : Keyword) → map to_ascii_lowercase bytes ≢ letters k)
Spells (Number n) bytes = IsDigits bytes × (n ≡ min (number_of bytes) (2 ^ 64 - 1))
Spells (Literal raw) bytes = IsQuoted raw × (bytes ≡ 39 ∷ (raw ++ 39 ∷ []))
Spells (Sign sign) bytes = SpellsSign sign bytes

-- a byte that would make another sign, or a comment, of this one
abbrev pub sign_goes_on : Mark → ℕ → Bool
sign_goes_on Minus b = b == 45
sign_goes_on Less b = b == 61 || b == 62
sign_goes_on Greater b = b == 61
sign_goes_on _ b = false

-- a byte that would belong to the token, stood it behind it
abbrev pub goes_on : Lexeme → ℕ → Bool
goes_on (Word keyword) b = is_word_byte b
goes_on (Name name) b = is_word_byte b
goes_on (Number n) b = is_ascii_digit b
goes_on (Literal raw) b = b == 39
goes_on (Sign sign) b = sign_goes_on sign b

-- the token ends before this text
abbrev pub EndsBefore : Lexeme → List ℕ → Type 0
EndsBefore lexeme [] = Unit {0}
EndsBefore lexeme (b ∷ bs) = goes_on lexeme b ≡ false

-- the bytes are the token, whole, where this text comes after it
pub record IsToken (lexeme : Lexeme) (bytes after : List ℕ) : Type 0 where
  pub spelled : Spells lexeme bytes
  pub whole : EndsBefore lexeme after
