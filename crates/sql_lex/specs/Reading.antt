-- How the front of a text is read, a step at a time; that this finds the tokens of Tokens is proved.
use Rattle.std.specs.Prelude.{ℕ, ◌+◌, ◌-◌, ◌^◌, min, Bool, true, false, not, ◌==◌, List, [], ◌∷◌, map, take}
use Rattle.std.specs.Prelude.{Option, None, Some, option_map, slice_index, if◌then◌else◌}
use Rattle.std.specs.List.{prefix_len, find}
use Rattle.std.specs.Str.{bytes_eq}
use Rattle.std.specs.Char.{to_ascii_lowercase, is_ascii_digit, is_ascii_alphabetic}
use Rattle.sql_lex.specs.Letters.{letters}
use Rattle.sql_lex.specs.Tokens.{is_blank, opens_comment}
use Rattle.sql_lex.specs.Spelling.{Lexeme, Word, Name, Number, Literal, Sign, is_word_byte, is_allowed}
use Rattle.sql_lex.specs.Spelling.{number_of}
use Rattle.sql_lex.specs.declared.keyword.Keyword.{Keyword}
use Rattle.sql_lex.specs.declared.keyword.Keyword.TheVariants.{And, Asc, Begin, Bigint, By, Checkpoint}
use Rattle.sql_lex.specs.declared.keyword.Keyword.TheVariants.{Commit, Count, Create, Delete, Desc, From}
use Rattle.sql_lex.specs.declared.keyword.Keyword.TheVariants.{Insert, Int, Integer, Into, Key, Limit, Order}
use Rattle.sql_lex.specs.declared.keyword.Keyword.TheVariants.{Primary, Rollback, Select, Set, Sum, Table}
use Rattle.sql_lex.specs.declared.keyword.Keyword.TheVariants.{Text, Update, Values, Varchar, Where}
use Rattle.sql_lex.specs.declared.token.Sign.{Sign as Mark}
use Rattle.sql_lex.specs.declared.token.Sign.TheVariants.{Open, Close, Comma, Star, Plus, Minus, Equal}
use Rattle.sql_lex.specs.declared.token.Sign.TheVariants.{NotEqual, Less, LessEqual, Greater, GreaterEqual}

-- what is left behind the blanks and comments at the front; a comment ends with its line
abbrev pub after_gap : Bool → List ℕ → List ℕ
after_gap in_comment [] = []
after_gap true (b ∷ bs) = after_gap (not (b == 10)) bs
after_gap false (b ∷ bs) =
    if opens_comment (b ∷ bs) then after_gap true bs else (if is_blank b then after_gap false bs else b ∷ bs)

-- what is left behind the gap before the next token
abbrev pub from_token : List ℕ → List ℕ
from_token text = after_gap false text

-- all words of the language
abbrev pub keywords : List Keyword
keywords =
    And ∷ Asc ∷ Begin ∷ Bigint ∷ By ∷ Checkpoint ∷ Commit ∷ Count ∷ Create ∷ Delete ∷ Desc ∷ From ∷ Insert
    ∷ Int ∷ Integer ∷ Into ∷ Key ∷ Limit ∷ Order ∷ Primary ∷ Rollback ∷ Select ∷ Set ∷ Sum ∷ Table ∷ Text
    ∷ Update ∷ Values ∷ Varchar ∷ Where ∷ []

-- a keyword or a name
abbrev pub word_lexeme : List ℕ → Option Keyword → Lexeme
word_lexeme bytes None = Name bytes
word_lexeme bytes (Some keyword) = Word keyword

-- the keyword or name that a word is
unfoldable pub word_of : List ℕ → Lexeme
word_of bytes = word_lexeme bytes (find (λ k. bytes_eq (letters k) (map to_ascii_lowercase bytes)) keywords)

-- How many bytes stand before the quote that closes a literal; with
-- pending, a quote stands just before the text, and is not counted.
abbrev pub closes : Bool → List ℕ → Option ℕ
closes true [] = Some 0
closes false [] = None
closes true (b ∷ bs) = if b == 39 then option_map (λ n. n + 2) (closes false bs) else Some 0
closes false (b ∷ bs) =
    if b == 39 then closes true bs
    else (if is_allowed b then option_map (λ n. n + 1) (closes false bs) else None)

-- the sign that a byte begins, where this byte follows it, and its length
abbrev pub sign_of : ℕ → ℕ → Option (Mark × ℕ)
sign_of b next =
    if b == 40 then Some (Open, 1)
    else (if b == 41 then Some (Close, 1)
    else (if b == 44 then Some (Comma, 1)
    else (if b == 42 then Some (Star, 1)
    else (if b == 43 then Some (Plus, 1)
    else (if b == 45 then (if next == 45 then None else Some (Minus, 1))
    else (if b == 61 then Some (Equal, 1)
    else (if b == 33 then (if next == 61 then Some (NotEqual, 2) else None)
    else (if b == 60
    then (if next == 61 then Some (LessEqual, 2)
    else (if next == 62 then Some (NotEqual, 2) else Some (Less, 1)))
    else (if b == 62 then (if next == 61 then Some (GreaterEqual, 2) else Some (Greater, 1))
    else None)))))))))

-- the word at the front of a text, and its length
unfoldable pub word_front : List ℕ → Option (Lexeme × ℕ)
word_front text = Some (word_of (take (prefix_len is_word_byte text) text), prefix_len is_word_byte text)

-- the number at the front of a text, and its length
unfoldable pub number_front : List ℕ → Option (Lexeme × ℕ)
number_front text =
    Some (
      Number
          (min (number_of (take (prefix_len is_ascii_digit text) text)) (2 ^ 64 - 1)),
      prefix_len is_ascii_digit text,
    )

-- the literal at the front of a text, whose opening quote stands before it, and its length with both quotes
unfoldable pub literal_front : List ℕ → Option (Lexeme × ℕ)
literal_front text = option_map (λ n. (Literal (take n text), n + 2)) (closes false text)

-- the sign at the front of a text, and its length
unfoldable pub sign_front : List ℕ → Option (Lexeme × ℕ)
sign_front text =
    option_map (λ found. (Sign found.0, found.1)) (sign_of (slice_index text 0) (slice_index text 1))

-- the token at the front of a text, and its length
unfoldable pub front : List ℕ → Option (Lexeme × ℕ)
front [] = None
front (b ∷ bs) =
    if is_ascii_alphabetic b then word_front (b ∷ bs)
    else (if is_ascii_digit b then number_front (b ∷ bs)
    else (if b == 39 then literal_front bs
    else sign_front (b ∷ bs)))
