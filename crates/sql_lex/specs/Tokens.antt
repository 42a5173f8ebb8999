-- The tokens of a text, each with its place, and what may stand between them.
use Rattle.std.specs.Prelude.{◌≡◌, ◌⊎◌, ℕ, ◌+◌, Bool, false, not, ◌&&◌, ◌||◌, ◌==◌, IsTrue, List, [], ◌∷◌}
use Rattle.std.specs.Prelude.{◌++◌, length}
use Rattle.std.specs.List.{concat, list_all, AllByRecursion}
use Rattle.sql_lex.specs.Spelling.{Lexeme, IsToken}

-- space, tab, line feed and carriage return
abbrev pub is_blank : ℕ → Bool
is_blank b = b == 32 || (b == 9 || (b == 10 || b == 13))

-- no line feed stands in it
abbrev pub IsLine : List ℕ → Type 0
IsLine bytes = IsTrue (list_all (λ b. not (b == 10)) bytes)

-- a comment: two hyphens, and what follows them up to the end of their line
abbrev pub IsComment : List ℕ → Type 0
IsComment bytes = (line : List ℕ) × (bytes ≡ 45 ∷ 45 ∷ (line ++ 10 ∷ [])) × IsLine line

-- a blank, or a comment
abbrev pub IsPause : List ℕ → Type 0
IsPause bytes = ((b : ℕ) × (bytes ≡ b ∷ []) × IsTrue (is_blank b)) ⊎ IsComment bytes

-- what may stand between two tokens: blanks and comments, one after another
pub record IsGap (bytes : List ℕ) : Type 0 where
  pub pauses : List (List ℕ)
  pub whole : bytes ≡ concat pauses
  pub each : AllByRecursion IsPause pauses

-- what may stand behind the last token: a gap, or a gap and a comment that ends with the text
abbrev pub IsLastGap : List ℕ → Type 0
IsLastGap bytes =
    IsGap bytes ⊎ ((gap line : List ℕ) × (bytes ≡ gap ++ 45 ∷ 45 ∷ line) × IsGap gap × IsLine line)

-- two hyphens begin a comment
abbrev pub opens_comment : List ℕ → Bool
opens_comment [] = false
opens_comment (b ∷ []) = false
opens_comment (b ∷ c ∷ bs) = b == 45 && c == 45

-- something stands at the front that is no blank and begins no comment
abbrev pub IsBehindGap : List ℕ → Type 0
IsBehindGap [] = ⊥
IsBehindGap (b ∷ bs) = (is_blank b ≡ false) × (opens_comment (b ∷ bs) ≡ false)

-- a token and its place
pub record Item : Type 0 where
  pub lexeme : Lexeme
  pub at : ℕ

-- The text, which ends at the place `end`, begins with these
-- tokens, each behind a gap, and `rest` is behind the last.
abbrev pub Begins : ℕ → List Item → List ℕ → List ℕ → Type 0
Begins end [] text rest = text ≡ rest
Begins end (item ∷ items) text rest =
    (gap bytes after : List ℕ) × (text ≡ gap ++ (bytes ++ after)) × IsGap gap
    × IsToken item.lexeme bytes after × (item.at + length (bytes ++ after) ≡ end)
    × Begins end items after rest

-- no token stands at the front
abbrev pub NoToken : List ℕ → Type 0
NoToken text =
    (lexeme : Lexeme) (bytes after : List ℕ) → text ≡ bytes ++ after → IsToken lexeme bytes after → ⊥

-- the text, which begins at the place `base`, is these tokens
pub record AreTokens (base : ℕ) (text : List ℕ) (items : List Item) : Type 0 where
  pub rest : List ℕ
  pub begins : Begins (base + length text) items text rest
  pub ends : IsLastGap rest

-- the text is these tokens and a gap up to the place `at`, at which stands something that isn't a token
pub record AreTokensUpTo (base : ℕ) (text : List ℕ) (items : List Item) (at : ℕ) : Type 0 where
  pub gap : List ℕ
  pub wrong : List ℕ
  pub begins : Begins (base + length text) items text (gap ++ wrong)
  pub is_gap : IsGap gap
  pub goes_on : IsBehindGap wrong
  pub no_token : NoToken wrong
  pub place : at + length wrong ≡ base + length text
