-- What is read of a source: all of it, or one byte more than a script may have.
use Rattle.std.specs.Prelude.{◌≡◌, ℕ, ◌+◌, ◌≤◌, List, [], length, take}
use Rattle.std.specs.Option.{option_map, ForSome}
use Rattle.io_edge.specs.Content.{after_giving}
use Rattle.io_edge.specs.Runs.{ReadsOn, ReadsToFault}
use Rattle.io_edge.specs.declared.source.Source.{Ghosts}
use Rattle.script.specs.Script.{max_script}
use Rattle.shell.specs.declared.input.InputFault.{InputFault}
use Rattle.shell.specs.declared.input.InputFault.TheVariants.{Source, OutOfMemory}

-- the most bytes that are read: one more than a script may have
abbrev pub read_limit : ℕ
read_limit = max_script + 1

module _ {S : Type 0} (s : Ghosts S) where
  -- The source was read to its end, or to one byte more than a script may have, and no pull failed.
  pub record WasRead (old new : S) : Type 0 where
    pub given : s.content new ≡ option_map (after_giving read_limit) (s.content old)
    pub still : s.faults new ≡ s.faults old

  -- At most so many bytes were read, and no pull failed.
  pub record ReadsWithin (most : ℕ) (old new : S) : Type 0 where
    pub bytes : List ℕ
    pub few : length bytes ≤ most
    pub read : ReadsOn s old new bytes

  -- At most so many bytes were read, and then a pull failed, which was the last.
  pub record FailsWithin (most : ℕ) (old new : S) : Type 0 where
    pub count : ℕ
    pub few : count ≤ most
    pub read : ReadsToFault s old new count

  -- reading stopped early, with at most so many bytes: a pull failed, or memory ran out
  abbrev pub StopsWithin : ℕ → InputFault → S → S → Type 0
  StopsWithin most Source old new = FailsWithin most old new
  StopsWithin most OutOfMemory old new = ReadsWithin most old new

  -- the input is what is read of the source
  abbrev pub IsInput : S → List ℕ → Type 0
  IsInput old input = ForSome (s.content old) (λ content. input ≡ take read_limit content.left)

  -- nothing is left
  abbrev pub HasEnded : S → Type 0
  HasEnded now = ForSome (s.content now) (λ content. content.left ≡ [])
