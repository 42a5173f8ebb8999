-- What the blocks of sections were answered with.
use Rattle.std.specs.Prelude.{◌≡◌, ℕ, ◌<◌, ◌≤◌, List, [], ◌∷◌, length, drop, Option, None, IsSome, slice_get}
use Rattle.std.specs.List.{AllByRecursion, flat_map}
use Rattle.base_types.specs.Causes.{one_more}
use Rattle.row_types.specs.declared.block.Block.{Block}
use Rattle.plain_model.specs.declared.reply.Reply.{Reply}
use Rattle.plain_model.specs.Blocks.{Said}
use Rattle.section_runs.specs.declared.section.ReadySection.{ReadySection}
use Rattle.section_runs.specs.declared.section.SectionRun.{SectionRun}
use Rattle.section_runs.specs.declared.section.Halt.{Halt}
use Rattle.section_runs.specs.declared.section.Halt.TheVariants.{Done, Stopped, OutOfMemory}

-- the blocks of a section: those behind its leading statements
abbrev pub to_run : ReadySection → List Block
to_run section = drop (length section.leads) section.blocks

-- the blocks that have replies, each with its own
abbrev pub with_replies : List Block → List (List Reply) → List Said
with_replies [] replies = []
with_replies (block ∷ blocks) [] = []
with_replies (block ∷ blocks) (replies ∷ more) =
    record { block = block; replies = replies } ∷ with_replies blocks more

-- the blocks of a section that have replies
abbrev pub said_by : SectionRun → List Said
said_by run = with_replies (to_run run.section) run.said

-- the blocks of all sections that have replies, one after the other
abbrev pub all_said : List SectionRun → List Said
all_said runs = flat_map said_by runs

-- the blocks of a section that have no replies
abbrev pub left_in : SectionRun → List Block
left_in run = drop (length run.said) (to_run run.section)

-- Where a section ended as it does, so many of its blocks are left. One that isn't run, since the disk had
-- failed before, may have none to begin with.
abbrev pub Leaves : Halt → ℕ → Type 0
Leaves Done left = left ≡ 0
Leaves Stopped left = Unit {0}
Leaves OutOfMemory left = 0 < left

-- No more blocks have replies than there are. All have where nothing stopped the section, and not all where
-- memory ran out.
pub record IsAnswered (run : SectionRun) : Type 0 where
  pub few : length run.said ≤ length (to_run run.section)
  pub left : Leaves run.halt (length (left_in run))

-- the section wasn't run, since the disk had failed before
abbrev pub IsUnrun : SectionRun → Type 0
IsUnrun run = (run.said ≡ []) × (run.halt ≡ Stopped)

-- once the disk has failed in a section, none of the later ones is run
abbrev pub AreStopped : List SectionRun → Type 0
AreStopped [] = Unit {0}
AreStopped (run ∷ runs) = (run.halt ≡ Stopped → AllByRecursion IsUnrun runs) × AreStopped runs

-- what stops two parts of a run together: a fault of the disk where it stops either, else memory that ran
-- out, else nothing
abbrev pub worse : Halt → Halt → Halt
worse Done other = other
worse Stopped other = Stopped
worse OutOfMemory Done = OutOfMemory
worse OutOfMemory Stopped = Stopped
worse OutOfMemory OutOfMemory = OutOfMemory

-- what stops some of the sections, the worst of it
abbrev pub halt_of : List SectionRun → Halt
halt_of [] = Done
halt_of (run ∷ runs) = worse run.halt (halt_of runs)

-- the count of the disk's faults: one more where it failed
abbrev pub faults_after : Halt → ℕ → ℕ
faults_after Done faults = faults
faults_after Stopped faults = one_more faults
faults_after OutOfMemory faults = faults

-- this block, where the disk failed, and else another
abbrev pub block_at : Halt → Option Block → Option Block → Option Block
block_at Done block other = other
block_at Stopped block other = block
block_at OutOfMemory block other = other

-- the block of a section at which the disk failed
abbrev pub stopped_by : SectionRun → Option Block
stopped_by run = block_at run.halt (slice_get (to_run run.section) (length run.said)) None

-- that of the first section in which it did
abbrev pub stopped_in : List SectionRun → Option Block
stopped_in [] = None
stopped_in (run ∷ runs) =
    block_at run.halt (slice_get (to_run run.section) (length run.said)) (stopped_in runs)

-- where the disk failed, there is a block at which it did
abbrev pub FailsAt : Halt → Option Block → Type 0
FailsAt halt block = halt ≡ Stopped → IsSome block
