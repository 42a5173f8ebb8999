-- The lines of a text, which of them are headers, and the sections that these begin.
use Rattle.std.specs.Prelude.{ℕ, ◌+◌, Bool, not, ◌&&◌, ◌||◌, ◌==◌, nat_lt, slice_index, if◌then◌else◌, List}
use Rattle.std.specs.Prelude.{[], ◌∷◌, ◌++◌, length, take, drop, codes, Option, None, Some}
use Rattle.std.specs.List.{list_all}
use Rattle.std.specs.Str.{bytes_eq}
use Rattle.std.specs.Char.{is_ascii_digit}
use Rattle.sql_lex.specs.Tokens.{is_blank}

-- a byte at the front of the first of some lines, or as the only line where there is none
abbrev pub in_first : ℕ → List (List ℕ) → List (List ℕ)
in_first b [] = (b ∷ []) ∷ []
in_first b (line ∷ lines) = (b ∷ line) ∷ lines

-- the lines of a text, each with the line feed that ends it; the last may have none
unfoldable pub lines : List ℕ → List (List ℕ)
lines [] = []
lines (b ∷ bs) = if b == 10 then (b ∷ []) ∷ lines bs else in_first b (lines bs)

-- a line without the blanks and the line feed at its end
unfoldable pub trimmed : List ℕ → List ℕ
trimmed [] = []
trimmed (b ∷ bs) = if list_all is_blank (b ∷ bs) then [] else b ∷ trimmed bs

-- one digit or more, of which the first is a zero only where it is all
abbrev pub is_number : List ℕ → Bool
is_number digits =
    nat_lt 0 (length digits)
    && (list_all is_ascii_digit digits && (not (slice_index digits 0 == 48) || length digits == 1))

-- a header: that of the setup, or that of a session, with the digits of its number
pub data Header : Type 0 where
  Setup : Header
  Session : List ℕ → Header

-- the line is `session ` and such digits
abbrev pub is_session : List ℕ → Bool
is_session line = bytes_eq (take 8 line) (codes "session ") && is_number (drop 8 line)

-- the header that a trimmed line is: `setup`, or `session ` and a number without a leading zero
unfoldable pub header_of : List ℕ → Option Header
header_of line =
    if bytes_eq line (codes "setup") then Some Setup
    else (if is_session line then Some (Session (drop 8 line)) else None)

-- the header that a line is
abbrev pub line_header : List ℕ → Option Header
line_header line = header_of (trimmed line)

-- a section of a script: its header and the place of that, its text and the place of that
pub record SectionText : Type 0 where
  pub header : Header
  pub at : ℕ
  pub base : ℕ
  pub text : List ℕ

-- a text in parts: what stands before the first header, and the sections
pub record Parts : Type 0 where
  pub front : List ℕ
  pub sections : List SectionText

-- with a line more: a header, at this place, begins a section
-- with what stands before the next, and any other goes to that
abbrev pub with_line : ℕ → List ℕ → Option Header → Parts → Parts
with_line at line None parts = record { front = line ++ parts.front; sections = parts.sections }
with_line at line (Some header) parts =
    record {
      front = [];
      sections =
          record { header = header; at = at; base = at + length line; text = parts.front } ∷ parts.sections;
    }

-- the parts of a text of these lines, which begins at this place
unfoldable pub parts_of : ℕ → List (List ℕ) → Parts
parts_of at [] = record { front = []; sections = [] }
parts_of at (line ∷ lines) = with_line at line (line_header line) (parts_of (at + length line) lines)

-- the parts of a script's text
abbrev pub script_parts : List ℕ → Parts
script_parts text = parts_of 0 (lines text)
