-- The statements of a section: what stands outside literals and comments, and where a statement ends.
use Rattle.std.specs.Prelude.{◌≡◌, ℕ, ◌+◌, Bool, false, not, ◌||◌, ◌==◌, IsTrue, ◌⊎◌, List, [], ◌∷◌, ◌++◌}
use Rattle.std.specs.Prelude.{length}
use Rattle.std.specs.List.{list_all}
use Rattle.sql_lex.specs.Tokens.{AreTokens, opens_comment}
use Rattle.row_types.specs.Block.{Placed}

-- a part of a statement: a literal, with what is between its quotes;
-- a comment, with what is behind its hyphens; a byte outside both
pub data Part : Type 0 where
  Literal : List ℕ → Part
  Comment : List ℕ → Part
  Byte : ℕ → Part

-- how a part is written
abbrev pub part_text : Part → List ℕ
part_text (Literal inside) = 39 ∷ (inside ++ 39 ∷ [])
part_text (Comment inside) = 45 ∷ 45 ∷ inside
part_text (Byte b) = b ∷ []

-- what may stand in a literal: no quote, and no line end
abbrev pub in_literal : ℕ → Bool
in_literal b = not (b == 39 || b == 10)

-- what may stand in a comment: no line end
abbrev pub in_comment : ℕ → Bool
in_comment b = not (b == 10)

-- outside both a quote begins a literal, and a semicolon ends the statement
abbrev pub is_plain : ℕ → Bool
is_plain b = not (b == 39 || b == 59)

-- a line ends before this text
abbrev pub EndsLine : List ℕ → Type 0
EndsLine [] = Unit {0}
EndsLine (b ∷ bs) = b ≡ 10

-- The part may stand before this text: a comment goes to the end of its line, and no byte begins one.
abbrev pub StandsBefore : Part → List ℕ → Type 0
StandsBefore (Literal inside) after = IsTrue (list_all in_literal inside)
StandsBefore (Comment inside) after = IsTrue (list_all in_comment inside) × EndsLine after
StandsBefore (Byte b) after = IsTrue (is_plain b) × (opens_comment (b ∷ after) ≡ false)

-- the text is these parts, where `after` comes behind it
abbrev pub AreParts : List Part → List ℕ → List ℕ → Type 0
AreParts [] text after = text ≡ []
AreParts (part ∷ parts) text after =
    (rest : List ℕ) × (text ≡ part_text part ++ rest) × StandsBefore part (rest ++ after)
    × AreParts parts rest after

-- before `after`, each literal and comment of the text is whole, and no semicolon stands outside them
abbrev pub IsWhole : List ℕ → List ℕ → Type 0
IsWhole text after = (parts : List Part) × AreParts parts text after

-- The text, which begins at the place `base`, is these
-- statements, each ended by a semicolon, and then `rest`.
abbrev pub AreEnded : ℕ → List Placed → List ℕ → List ℕ → Type 0
AreEnded base [] text rest = text ≡ rest
AreEnded base (s ∷ ss) text rest =
    (after : List ℕ) × (s.base ≡ base) × (text ≡ s.text ++ 59 ∷ after) × IsWhole s.text (59 ∷ after)
    × AreEnded (base + length s.text + 1) ss after rest

-- it holds blanks and comments alone: no token
abbrev pub IsEmpty : List ℕ → Type 0
IsEmpty text = AreTokens 0 text []

-- those of the statements that aren't empty, in their order
abbrev pub AreKept : List Placed → List Placed → Type 0
AreKept [] kept = kept ≡ []
AreKept (s ∷ ss) kept =
    (IsEmpty s.text × AreKept ss kept)
    ⊎ ((IsEmpty s.text → ⊥) × (rest : List Placed) × (kept ≡ s ∷ rest) × AreKept ss rest)

-- the text of a section, which begins at the place `base`, has these statements
pub record AreStatements (base : ℕ) (text : List ℕ) (statements : List Placed) : Type 0 where
  pub ended : List Placed
  pub rest : List ℕ
  pub begins : AreEnded base ended text rest
  pub ends : IsEmpty rest
  pub kept : AreKept ended statements

-- behind whole parts the text opens a literal, and holds this much of it
pub record OpensLiteral (text inside after : List ℕ) : Type 0 where
  pub before : List ℕ
  pub split : text ≡ before ++ 39 ∷ (inside ++ after)
  pub whole : IsWhole before (39 ∷ (inside ++ after))
  pub only : IsTrue (list_all in_literal inside)

-- a line ends in a literal of the text, and `after` is behind the line
abbrev pub EndsInLiteral : List ℕ → List ℕ → Type 0
EndsInLiteral text after = (inside : List ℕ) × OpensLiteral text inside (10 ∷ after)

-- the text is more than blanks and comments, and ends before a semicolon outside literals
pub record IsUnfinished (text : List ℕ) : Type 0 where
  pub some : IsEmpty text → ⊥
  pub open_end : IsWhole text [] ⊎ ((inside : List ℕ) × OpensLiteral text inside [])

-- The text of a section, which begins at the place `base`, isn't statements: the first line end in a
-- literal stands at the place `at`, or there is none, and the text ends at that place inside a statement.
pub record BreaksAt (base : ℕ) (text : List ℕ) (at : ℕ) : Type 0 where
  pub ended : List Placed
  pub rest : List ℕ
  pub begins : AreEnded base ended text rest
  pub cause : ((after : List ℕ) × EndsInLiteral rest after × (at + length (10 ∷ after) ≡ base + length text))
      ⊎ (IsUnfinished rest × (at ≡ base + length text))
