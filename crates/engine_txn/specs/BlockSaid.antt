-- What a block's replies and its transaction's tables are.
use Rattle.std.specs.Prelude.{◌⊎◌, ℕ, List, ◌∷◌, Option, ⊤}
use Rattle.row_types.specs.Tables.{Tables}
use Rattle.row_types.specs.declared.block.Block.{Block}
use Rattle.row_types.specs.declared.definition.TableDef.{TableDef}
use Rattle.plain_model.specs.declared.reply.Reply.{Reply}
use Rattle.plain_model.specs.declared.reply.Reply.TheVariants.{Refused}
use Rattle.plain_model.specs.declared.reply.Refusal.TheVariants as refusals
use Rattle.plain_model.specs.declared.stop.Stop.TheVariants as stops
use Rattle.plain_model.specs.Blocks.{block_means}
use Rattle.plain_model.specs.CallPlays.{tables_of}
use Rattle.plain_model.specs.Calls.{Call, Committed}
use Rattle.sql_exec.specs.Plays.{PlaysFrom}
use Rattle.engine_txn.specs.Transactions.{BeganNone, BeganWith, GaveSince}

-- the tables that a transaction leaves which began with these: those
-- after its operations where it is committed, else the first ones
abbrev pub left_by : Tables → List Call → Tables
left_by first (Committed ∷ calls) = tables_of first calls
left_by first calls = first

-- wherever the calls are those of some tables, the replies and the
-- tables that the transaction leaves are those that the block means
abbrev pub MeansBlock : List TableDef → Block → List Reply → List Call → Type 0
MeansBlock defs block replies new =
    (first : Tables) → PlaysFrom defs first new → block_means block first replies (left_by first new)

-- no transaction was begun, and the replies are the block's on any tables, which stay
pub record SaidWithout (age : Option ℕ) (block : Block) (replies : List Reply)
    (old new : List Call) : Type 0 where
  pub calls : BeganNone age old new
  pub means : (first : Tables) → block_means block first replies first

-- a transaction was begun, and the replies and the tables that it leaves are the block's
pub record SaidWithin (defs : List TableDef) (age : Option ℕ) (block : Block) (replies : List Reply)
    (old new : List Call) : Type 0 where
  pub calls : BeganWith age old new
  pub means : MeansBlock defs block replies new

-- the replies to a block are those that it means
abbrev pub BlockSaid : List TableDef → Option ℕ → Block → List Reply → List Call → List Call → Type 0
BlockSaid defs age block replies old new =
    SaidWithout age block replies old new ⊎ SaidWithin defs age block replies old new

-- a reply that a resource is lacking, or that something is spent, is what a call since gave
abbrev pub ReplyWasGiven : List Call → List Call → Reply → Type 0
ReplyWasGiven old new (Refused (refusals.Resource resource)) = GaveSince (stops.Refused resource) old new
ReplyWasGiven old new (Refused (refusals.Spent limit)) = GaveSince (stops.Spent limit) old new
ReplyWasGiven old new reply = ⊤
