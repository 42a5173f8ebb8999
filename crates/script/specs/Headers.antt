-- Headers of the program, seen without where they lie in memory, and where a section begins.
use Rattle.std.specs.Prelude.{◌≡◌, ℕ, List, [], ◌∷◌, ◌++◌, Option, None, Some}
use Rattle.script.specs.Lines.{Header, Setup, Session, Parts, line_header}
use Rattle.script.specs.declared.line.HeaderLine.{HeaderLine}
use Rattle.script.specs.declared.line.HeaderLine.TheVariants as headers

-- which header it is
abbrev pub seen : HeaderLine → Header
seen headers.Setup = Setup
seen (headers.Session digits) = Session digits.now

-- text before some parts
abbrev pub behind : List ℕ → Parts → Parts
behind front parts = record { front = front ++ parts.front; sections = parts.sections }

-- the header that the first of the lines is, where there is one
abbrev pub first_header : List (List ℕ) → Option Header
first_header [] = None
first_header (line ∷ lines) = line_header line

-- the lines begin with this header
abbrev pub BeginsSection : List (List ℕ) → Header → Type 0
BeginsSection lines header = first_header lines ≡ Some header

-- the lines begin with a header, or there is none
abbrev pub StartsSection : List (List ℕ) → Type 0
StartsSection [] = Unit {0}
StartsSection (line ∷ lines) = (header : Header) × (line_header line ≡ Some header)
