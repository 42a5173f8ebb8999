-- What a script is, and where a text is none.
use Prim.Native.Nat.{zero, suc}
use Rattle.std.specs.Prelude.{◌≡◌, ℕ, ◌+◌, ◌<◌, ◌≤◌, false, IsTrue, IsUtf8, ◌⊎◌, List, [], ◌∷◌, ◌++◌, length}
use Rattle.std.specs.Prelude.{Option, None, Some, decimal}
use Rattle.std.specs.Str.{IsValidUpTo}
use Rattle.std.specs.List.{list_all, AllByRecursion}
use Rattle.sql_lex.specs.Tokens.{is_blank}
use Rattle.row_types.specs.Block.{Placed}
use Rattle.row_types.specs.declared.block.Block.{Block}
use Rattle.script.specs.Lines.{Header, Setup, Session, SectionText, script_parts}
use Rattle.script.specs.Statements.{AreStatements, BreaksAt}
use Rattle.script.specs.Blocks.{AreBlocks}
use Rattle.script.specs.declared.sections.Section.{Section}
use Rattle.script.specs.declared.sections.Script.{Script}

-- the longest script, in bytes
abbrev pub max_script : ℕ
max_script = 67108864

-- the header of a number: 0 is the setup's
abbrev pub numbered : ℕ → Header
numbered zero = Setup
numbered (suc n) = Session (decimal (suc n))

-- the sections are numbered one after the other, from this number on, up to 16
abbrev pub AreNumbered : ℕ → List SectionText → Type 0
AreNumbered n [] = Unit {0}
AreNumbered n (s ∷ ss) = (s.header ≡ numbered n) × (n ≤ 16) × AreNumbered (n + 1) ss

-- the headers are in order: the setup, where there is one, and then the sessions from 1 on
abbrev pub AreInOrder : List SectionText → Type 0
AreInOrder sections = AreNumbered 0 sections ⊎ AreNumbered 1 sections

-- the section has these blocks
pub record HasBlocks (section : SectionText) (blocks : List Block) : Type 0 where
  pub statements : List Placed
  pub are_statements : AreStatements section.base section.text statements
  pub are_blocks : AreBlocks blocks statements

-- each section has its blocks
abbrev pub HaveBlocks : List SectionText → List Section → Type 0
HaveBlocks [] sections = sections ≡ []
HaveBlocks (t ∷ ts) sections =
    (first : Section) × (rest : List Section) × (sections ≡ first ∷ rest) × HasBlocks t first.blocks
    × HaveBlocks ts rest

-- the number of the first section: 0 where there is a setup
abbrev pub first_number : Option Section → ℕ
first_number None = 1
first_number (Some setup) = 0

-- the sections in order, the setup first
abbrev pub all_sections : Option Section → List Section → List Section
all_sections None sessions = sessions
all_sections (Some setup) sessions = setup ∷ sessions

-- the text is this script
pub record IsScript (text : List ℕ) (script : Script) : Type 0 where
  pub short : length text ≤ max_script
  pub utf8 : IsUtf8 text
  pub front : IsTrue (list_all is_blank (script_parts text).front)
  pub order : AreNumbered (first_number script.setup) (script_parts text).sections
  pub blocks : HaveBlocks (script_parts text).sections (all_sections script.setup script.sessions)

-- at this place stands the first byte before all headers that isn't blank
pub record HasStray (front : List ℕ) (at : ℕ) : Type 0 where
  pub blanks : List ℕ
  pub byte : ℕ
  pub rest : List ℕ
  pub split : front ≡ blanks ++ byte ∷ rest
  pub blank : IsTrue (list_all is_blank blanks)
  pub stray : is_blank byte ≡ false
  pub place : at ≡ length blanks

-- the first byte that isn't blank stands at this place, or there is none
abbrev pub IsFirstUnblank : List ℕ → Option ℕ → Type 0
IsFirstUnblank bytes None = IsTrue (list_all is_blank bytes)
IsFirstUnblank bytes (Some at) = HasStray bytes at

-- the section's text is statements
abbrev pub IsGood : SectionText → Type 0
IsGood section = (statements : List Placed) × AreStatements section.base section.text statements

-- The first section that isn't one is at fault at this place: its header is out of order, or its text breaks.
pub record HasBadSection (sections : List SectionText) (at : ℕ) : Type 0 where
  pub good : List SectionText
  pub bad : SectionText
  pub after : List SectionText
  pub split : sections ≡ good ++ bad ∷ after
  pub order : AreInOrder good
  pub whole : AllByRecursion IsGood good
  pub cause : ((AreInOrder (good ++ bad ∷ []) → ⊥) × (at ≡ bad.at))
      ⊎ (AreInOrder (good ++ bad ∷ []) × BreaksAt bad.base bad.text at)

-- the first fault from the left
abbrev pub BreaksFirstAt : List ℕ → ℕ → Type 0
BreaksFirstAt text at =
    HasStray (script_parts text).front at
    ⊎ (IsTrue (list_all is_blank (script_parts text).front) × HasBadSection (script_parts text).sections at)

-- it is longer than a script may be
abbrev pub IsTooLong : List ℕ → ℕ → Type 0
IsTooLong text at = (max_script < length text) × (at ≡ max_script)

-- it isn't UTF-8, and the longest front that is ends at this place
abbrev pub IsNotUtf8 : List ℕ → ℕ → Type 0
IsNotUtf8 text at = (length text ≤ max_script) × (IsUtf8 text → ⊥) × IsValidUpTo text at

-- it is a text that breaks at this place first
abbrev pub Breaks : List ℕ → ℕ → Type 0
Breaks text at = (length text ≤ max_script) × IsUtf8 text × BreaksFirstAt text at

-- the text is no script, and this is the place
abbrev pub IsNoScript : List ℕ → ℕ → Type 0
IsNoScript text at = IsTooLong text at ⊎ (IsNotUtf8 text at ⊎ Breaks text at)
