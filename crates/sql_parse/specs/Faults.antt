-- Which value a text is by a grammar, and where it is none.
use Rattle.std.specs.Prelude.{◌≡◌, ℕ, ◌+◌, ◌^◌, ◌⊎◌, List, [], ◌∷◌, ◌++◌, length, map}
use Rattle.sql_lex.specs.Spelling.{Lexeme, Number}
use Rattle.sql_lex.specs.Tokens.{Item, AreTokens, AreTokensUpTo}
use Rattle.sql_parse.specs.Phrases.{Phrase}
use Rattle.sql_parse.specs.declared.fault.ParseFault.{ParseFault}
use Rattle.sql_parse.specs.declared.fault.ParseFault.TheVariants.{Syntax, OutOfMemory}

-- what tokens are, without their places
abbrev pub lexemes : List Item → List Lexeme
lexemes items = map (λ (i : Item). i.lexeme) items

-- the tokens of the text, up to its end or to what isn't a token
abbrev pub AreFront : ℕ → List ℕ → List Item → Type 0
AreFront base text items = AreTokens base text items ⊎ ((at : ℕ) × AreTokensUpTo base text items at)

module _ {X : Type 0} (N : Phrase X) where
  -- the text, which begins at the place `base`, is this value
  pub record IsText (base : ℕ) (text : List ℕ) (value : X) : Type 0 where
    pub items : List Item
    pub tokens : AreTokens base text items
    pub rule : N (lexemes items) value

  -- some value's tokens begin with these
  abbrev pub BeginsPhrase : List Lexeme → Type 0
  BeginsPhrase tokens = (more : List Lexeme) × (value : X) × N (tokens ++ more) value

  -- The first token with which none continues. A name over 32 bytes is one wherever
  -- it stands, and so are a number out of range and a length outside 1 to 4,093.
  pub record StopsPhrase (front : List Item) (token : Item) : Type 0 where
    pub begins : BeginsPhrase (lexemes front)
    pub none : BeginsPhrase (lexemes front ++ token.lexeme ∷ []) → ⊥

  -- the token is a number, and behind these tokens 2 ^ 63 could stand, as it can only behind its minus
  pub record IsSigned (front : List Item) (token : Item) : Type 0 where
    pub number : ℕ
    pub is : token.lexeme ≡ Number number
    pub greatest : BeginsPhrase (lexemes front ++ Number (2 ^ 63) ∷ [])

  -- the token is where the phrase stops, and it isn't a number behind its minus
  pub record StopsAtToken (items : List Item) (at : ℕ) : Type 0 where
    pub front : List Item
    pub token : Item
    pub after : List Item
    pub split : items ≡ front ++ token ∷ after
    pub stops : StopsPhrase front token
    pub plain : IsSigned front token → ⊥
    pub place : at ≡ token.at

  -- the token is a number that is too great for the minus before it, and the place is the minus
  pub record StopsAtMinus (items : List Item) (at : ℕ) : Type 0 where
    pub front : List Item
    pub minus : Item
    pub token : Item
    pub after : List Item
    pub split : items ≡ front ++ minus ∷ token ∷ after
    pub stops : StopsPhrase (front ++ minus ∷ []) token
    pub signed : IsSigned (front ++ minus ∷ []) token
    pub place : at ≡ minus.at

  -- all tokens of the text begin the phrase and are none, and the place is the text's end
  pub record EndsEarly (base : ℕ) (text : List ℕ) (items : List Item) (at : ℕ) : Type 0 where
    pub tokens : AreTokens base text items
    pub begins : BeginsPhrase (lexemes items)
    pub none : (value : X) → N (lexemes items) value → ⊥
    pub place : at ≡ base + length text

  -- the tokens begin the phrase up to what isn't a token, and the place is its first byte
  pub record EndsAtNoToken (base : ℕ) (text : List ℕ) (items : List Item) (at : ℕ) : Type 0 where
    pub stops : AreTokensUpTo base text items at
    pub begins : BeginsPhrase (lexemes items)

  -- the text, which begins at the place `base`, is no value,
  -- and this is the first place at which it isn't one
  pub record IsFault (base : ℕ) (text : List ℕ) (at : ℕ) : Type 0 where
    pub items : List Item
    pub tokens : AreFront base text items
    pub cause : (StopsAtToken items at ⊎ StopsAtMinus items at)
        ⊎ (EndsEarly base text items at ⊎ EndsAtNoToken base text items at)

-- a fact of the place, where the fault is one of the text
abbrev pub IfSyntax : ParseFault → (ℕ → Type 0) → Type 0
IfSyntax (Syntax at) P = P at
IfSyntax OutOfMemory P = Unit {0}
