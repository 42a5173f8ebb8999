-- What a try of a block comes to over a keeper in memory.
use Rattle.std.specs.Prelude.{◌≡◌, ℕ, false, List, []}
use Rattle.std.specs.List.{AllByRecursion}
use Rattle.row_types.specs.declared.block.Block.{Block}
use Rattle.row_types.specs.declared.definition.TableDef.{TableDef}
use Rattle.plain_model.specs.declared.reply.Reply.{Reply}
use Rattle.plain_model.specs.declared.reply.Reply.TheVariants.{Refused}
use Rattle.plain_model.specs.declared.reply.Refusal.TheVariants as refusals
use Rattle.plain_model.specs.declared.stop.Resource.{Resource}
use Rattle.plain_model.specs.Blocks.{block_means}
use Rattle.plain_model.specs.Calls.{Call, is_running}
use Rattle.op_log.specs.declared.change.RowChange.{RowChange}
use Rattle.engine_txn.specs.declared.tried.Tried.{Tried}
use Rattle.engine_txn.specs.declared.tried.Tried.TheVariants.{Said, Stopped, OutOfMemory, Died}
use Rattle.call_log.specs.History.{settled, with_batch, batches_of, last_batch, MayBeSpent, MayLackWith}
use Rattle.call_log.specs.Played.{empty_tables}

-- what a reply says to be lacking is used up where the log has these batches
abbrev pub LacksBy : List TableDef → List (List RowChange) → Reply → Type 0
LacksBy defs batches reply =
    (resource : Resource) → reply ≡ Refused (refusals.Resource resource) → MayLackWith defs batches resource

-- what a reply says to be spent may be spent after these calls
abbrev pub SpentBy : List Call → Reply → Type 0
SpentBy calls reply = (limit : ℕ) → reply ≡ Refused (refusals.Spent limit) → MayBeSpent calls limit

-- the replies and the tables after it are the block's, and its changes are one batch more
pub record SaidBy (defs : List TableDef) (block : Block) (old : List Call) (replies : List Reply)
    (new : List Call) : Type 0 where
  pub means : block_means block (settled (empty_tables defs) old) replies (settled (empty_tables defs) new)
  pub batches : batches_of new ≡ with_batch (batches_of old) (last_batch new)
  pub same : last_batch new ≡ [] → settled (empty_tables defs) new ≡ settled (empty_tables defs) old
  pub causes : AllByRecursion (LacksBy defs (batches_of old)) replies
  pub spent : AllByRecursion (SpentBy new) replies
  pub ended : is_running new ≡ false

-- the tables and the batches are as before
pub record StaysAs (defs : List TableDef) (old new : List Call) : Type 0 where
  pub settled_is : settled (empty_tables defs) new ≡ settled (empty_tables defs) old
  pub batches : batches_of new ≡ batches_of old
  pub none : last_batch new ≡ []
  pub ended : is_running new ≡ false

-- the block is answered, or memory ran out and nothing is changed
abbrev pub Comes : List TableDef → Block → List Call → Tried → List Call → Type 0
Comes defs block old (Said replies) new = SaidBy defs block old replies.items new
Comes defs block old OutOfMemory new = StaysAs defs old new
Comes defs block old Stopped new = ⊥
Comes defs block old (Died holder age) new = ⊥
