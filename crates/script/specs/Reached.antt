-- What was read of a section, and of a script, up to a place.
use Rattle.std.specs.Prelude.{◌≡◌, ◌⊎◌, ℕ, ◌<◌, ◌≤◌, List, [], ◌∷◌, ◌++◌, length, drop, Option, None, Some}
use Rattle.row_types.specs.Block.{Placed}
use Rattle.script.specs.Lines.{Header, Setup, SectionText, lines, parts_of, script_parts}
use Rattle.script.specs.Headers.{BeginsSection, StartsSection}
use Rattle.script.specs.Script.{AreNumbered, HasBlocks, HaveBlocks, all_sections, first_number, numbered}
use Rattle.script.specs.Statements.{AreEnded, AreKept, BreaksAt}
use Rattle.script.specs.Building.{Has}
use Rattle.script.specs.declared.building.Builder.{Builder}
use Rattle.script.specs.declared.sections.Section.{Section}

-- The text of a section, which begins at the place `base`, has statements up
-- to this rest, and of those that aren't empty the builder has the blocks.
pub record HasRead (base : ℕ) (text rest : List ℕ) (builder : Builder) : Type 0 where
  pub ended : List Placed
  pub kept : List Placed
  pub begins : AreEnded base ended text rest
  pub keeps : AreKept ended kept
  pub built : Has builder kept

-- this section, and then these, stand from the place on
pub record StandAt (text : List ℕ) (at : ℕ) (section : SectionText) (after : List SectionText) : Type 0 where
  pub place : section.at ≡ at
  pub split : (parts_of at (lines (drop at text))).sections ≡ section ∷ after

-- a section with this header stands between the places, and has these blocks
pub record HasSection (text : List ℕ) (at end : ℕ) (header : Header) (section : Section) : Type 0 where
  pub read : SectionText
  pub stands : StandAt text at read (parts_of end (lines (drop end text))).sections
  pub header_is : read.header ≡ header
  pub blocks : HasBlocks read section.blocks
  pub starts : StartsSection (lines (drop end text))
  pub longer : at < end
  pub within : end ≤ length text

-- a section with this header stands at the place `at`, and breaks at `place`
pub record BreaksSection (text : List ℕ) (at : ℕ) (header : Header) (place : ℕ) : Type 0 where
  pub read : SectionText
  pub after : List SectionText
  pub stands : StandAt text at read after
  pub header_is : read.header ≡ header
  pub breaks : BreaksAt read.base read.text place

-- a section stands at this place, whose header isn't that of the number or whose number is too great
pub record IsOutOfOrder (text : List ℕ) (at number : ℕ) : Type 0 where
  pub read : SectionText
  pub after : List SectionText
  pub stands : StandAt text at read after
  pub begins : BeginsSection (lines (drop at text)) read.header
  pub misplaced : read.header ≡ numbered number → number ≤ 16 → ⊥

-- the section of this number at the place `at` is at fault at `place`
abbrev pub IsBadSession : List ℕ → ℕ → ℕ → ℕ → Type 0
IsBadSession text at number place =
    (IsOutOfOrder text at number × (place ≡ at))
    ⊎ ((number ≤ 16) × BreaksSection text at (numbered number) place)

-- the setup that stands at the place, up to the end, or none
abbrev pub HasSetup : List ℕ → ℕ → ℕ → Option Section → Type 0
HasSetup text at end None = (end ≡ at) × (BeginsSection (lines (drop at text)) Setup → ⊥)
HasSetup text at end (Some setup) = HasSection text at end Setup setup

-- without a setup the first section isn't one
abbrev pub NoSetup : List ℕ → ℕ → Option Section → List Section → Type 0
NoSetup text at None [] = BeginsSection (lines (drop at text)) Setup → ⊥
NoSetup text at _ _ = Unit {0}

-- The sections that are read, up to the place `at`, where the next one begins or the text ends.
pub record HasSections (text : List ℕ) (at : ℕ) (setup : Option Section)
    (sessions : List Section) : Type 0 where
  pub done : List SectionText
  pub split : (script_parts text).sections ≡ done ++ (parts_of at (lines (drop at text))).sections
  pub starts : StartsSection (lines (drop at text))
  pub order : AreNumbered (first_number setup) done
  pub blocks : HaveBlocks done (all_sections setup sessions)
  pub no_setup : NoSetup text at setup sessions
  pub within : at ≤ length text
