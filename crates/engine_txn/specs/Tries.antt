-- Facts by what a try of a block comes to.
use Rattle.std.specs.Prelude.{◌≡◌, ℕ, false, List, Option, ⊤}
use Rattle.std.specs.List.{AllByRecursion}
use Rattle.row_types.specs.declared.block.Block.{Block}
use Rattle.row_types.specs.declared.definition.TableDef.{TableDef}
use Rattle.plain_model.specs.declared.reply.Reply.{Reply}
use Rattle.plain_model.specs.Calls.{Call, is_running}
use Rattle.engine_txn.specs.declared.tried.Tried.{Tried}
use Rattle.engine_txn.specs.declared.tried.Tried.TheVariants.{Said, Stopped, OutOfMemory, Died}
use Rattle.engine_txn.specs.BlockRuns.{TryGoes}
use Rattle.engine_txn.specs.BlockSaid.{BlockSaid, ReplyWasGiven}
use Rattle.engine_txn.specs.StatementRuns.{RunsBlock}
use Rattle.engine_txn.specs.Transactions.{CommitsLast, DiedBy, EndsByFault, IsOneTry, IsUndone}
use Rattle.engine_txn.specs.Transactions.{Uncommitted}

-- a fact of the replies, where there are some
abbrev pub IfSaid : Tried → (List Reply → Type 0) → Type 0
IfSaid (Said replies) Fact = Fact replies.items
IfSaid Stopped Fact = ⊤
IfSaid OutOfMemory Fact = ⊤
IfSaid (Died holder age) Fact = ⊤

-- a fact where a device failed
abbrev pub IfStopped : Tried → Type 0 → Type 0
IfStopped Stopped Fact = Fact
IfStopped (Said replies) Fact = ⊤
IfStopped OutOfMemory Fact = ⊤
IfStopped (Died holder age) Fact = ⊤

-- a fact of the session in the way and of the age to try again with
abbrev pub IfDied : Tried → (ℕ → ℕ → Type 0) → Type 0
IfDied (Died holder age) Fact = Fact holder age
IfDied (Said replies) Fact = ⊤
IfDied Stopped Fact = ⊤
IfDied OutOfMemory Fact = ⊤

-- a fact where the block is to be as if it hadn't been tried
abbrev pub IsKept : Tried → Type 0 → Type 0
IsKept OutOfMemory Fact = Fact
IsKept (Died holder age) Fact = Fact
IsKept (Said replies) Fact = ⊤
IsKept Stopped Fact = ⊤

-- no transaction runs where the block has ended or died, and where
-- memory ran out unless it did so for the undo too
abbrev pub HasEnded : Tried → List Call → Type 0
HasEnded (Said replies) new = is_running new ≡ false
HasEnded (Died holder age) new = is_running new ≡ false
HasEnded OutOfMemory new = IsUndone new
HasEnded Stopped new = ⊤

-- all that is said of a try
pub record Tries (defs : List TableDef) (age : Option ℕ) (block : Block)
    (old : List Call) (tried : Tried) (new : List Call) : Type 0 where
  pub goes : TryGoes defs age block old tried new
  pub began : IsOneTry age old new
  pub commits : CommitsLast old new
  pub said : IfSaid tried (λ replies. BlockSaid defs age block replies old new)
  pub causes : IfSaid tried (λ replies. AllByRecursion (ReplyWasGiven old new) replies)
  pub calls : RunsBlock defs block old new
  pub stopped : IfStopped tried (EndsByFault old new)
  pub died : IfDied tried (λ holder age. DiedBy holder age old new)
  pub ended : HasEnded tried new
  pub kept : IsKept tried (Uncommitted old new)
