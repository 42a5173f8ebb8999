-- How a grammar is put together: a phrase says which tokens are which value.
use Rattle.std.specs.Prelude.{◌≡◌, ◌⊎◌, List, [], ◌∷◌, ◌++◌, Option, Some}
use Rattle.sql_lex.specs.Spelling.{Lexeme}

-- which tokens are which value
abbrev pub Phrase : Type 0 → Type 1
Phrase X = List Lexeme → X → Type 0

-- one token, which the test turns into the value
pub record One {X : Type 0} (test : Lexeme → Option X) (tokens : List Lexeme) (value : X) : Type 0 where
  pub token : Lexeme
  pub only : tokens ≡ token ∷ []
  pub passes : test token ≡ Some value

-- no token
pub record Nothing {X : Type 0} (default : X) (tokens : List Lexeme) (value : X) : Type 0 where
  pub none : tokens ≡ []
  pub is : value ≡ default

-- one phrase and then another, of whose values this one is made
pub record Then {X Y Z : Type 0} (join : X → Y → Z) (N : Phrase X) (M : Phrase Y) (tokens : List Lexeme)
    (value : Z) : Type 0 where
  pub front : List Lexeme
  pub back : List Lexeme
  pub first : X
  pub second : Y
  pub split : tokens ≡ front ++ back
  pub begins : N front first
  pub goes_on : M back second
  pub is : value ≡ join first second

-- the one phrase or the other
abbrev pub Either : {X : Type 0} → Phrase X → Phrase X → List Lexeme → X → Type 0
Either N M tokens value = N tokens value ⊎ M tokens value

-- any number of times a token that passes the test and then the phrase
abbrev pub Repeated : {S X Z : Type 0} → (Lexeme → Option S) → (S → X → Z) → Phrase X → List Lexeme → List Z
    → Type 0
Repeated test join N tokens [] = tokens ≡ []
Repeated test join N tokens (z ∷ zs) =
    (front back : List Lexeme) × (tokens ≡ front ++ back) × Then join (One test) N front z
    × Repeated test join N back zs

-- of two phrases the second tells
abbrev pub second : {X Y : Type 0} → X → Y → Y
second x y = y

-- of two phrases the first tells
abbrev pub first : {X Y : Type 0} → X → Y → X
first x y = x

-- a value before others
abbrev pub prepend : {X : Type 0} → X → List X → List X
prepend x xs = x ∷ xs

-- both
abbrev pub paired : {X Y : Type 0} → X → Y → X × Y
paired x y = (x, y)
