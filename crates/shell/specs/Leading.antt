-- The leading statements of a setup: what each is, its reply, and the tables that there are behind it.
use Rattle.std.specs.Prelude.{◌≡◌, ℕ, List, [], ◌∷◌, Option, None, Some, Result, Ok, Err}
use Rattle.row_types.specs.declared.block.Block.{Block}
use Rattle.row_types.specs.declared.block.Block.TheVariants.{Alone, Transaction}
use Rattle.row_types.specs.declared.definition.TableDef.{TableDef}
use Rattle.row_types.specs.declared.fault.SchemaFault.{SchemaFault}
use Rattle.row_types.specs.Schema.{verdict}
use Rattle.row_types.specs.Tables.{Tables, schema_of, with_table}
use Rattle.sql_parse.specs.declared.statement.Statement.{Statement}
use Rattle.sql_parse.specs.declared.statement.Statement.TheVariants as statements
use Rattle.plain_model.specs.declared.reply.Reply.{Reply}
use Rattle.plain_model.specs.declared.reply.Reply.TheVariants.{Done, Refused}
use Rattle.plain_model.specs.declared.reply.Refusal.{Refusal}
use Rattle.plain_model.specs.declared.reply.Refusal.TheVariants.{Syntax}
use Rattle.plain_model.specs.Blocks.{IsRead}
use Rattle.plain_model.specs.Refusals.{refusal_of_schema}
use Rattle.shell.specs.declared.leading.Lead.{Lead}
use Rattle.shell.specs.declared.leading.Lead.TheVariants.{Create, NoStatement}

-- the block is this leading statement: a CREATE, or a text that is no statement
abbrev pub IsLead : Block → Lead → Type 0
IsLead (Alone text) (Create def) = IsRead text (Ok (statements.Create def))
IsLead (Alone text) (NoStatement at) = IsRead text (Err at)
IsLead (Transaction t) lead = ⊥

-- the refusal that a verdict on a table is; none where the table is accepted
abbrev pub refused_as : Result (Unit {0}) SchemaFault → Option Refusal
refused_as (Ok accepted) = None
refused_as (Err fault) = refusal_of_schema fault

-- done, unless it is refused
abbrev pub done_unless : Option Refusal → Reply
done_unless None = Done
done_unless (Some refusal) = Refused refusal

-- the reply to a leading statement
abbrev pub lead_reply : Tables → Lead → Reply
lead_reply tables (Create def) = done_unless (refused_as (verdict (schema_of tables) def))
lead_reply tables (NoStatement at) = Refused (Syntax at)

-- the tables after a leading statement
abbrev pub behind_lead : Tables → Lead → Tables
behind_lead tables (Create def) = with_table tables def
behind_lead tables (NoStatement at) = tables

-- From the first tables on, the blocks begin with leading statements that have these replies, up to the first
-- block that is none, and these are the tables behind them.
abbrev pub AreLeading : List Block → Tables → List Reply → Tables → Type 0
AreLeading [] first replies last = (replies ≡ []) × (last ≡ first)
AreLeading (block ∷ blocks) first [] last = ((lead : Lead) → ¬ (IsLead block lead)) × (last ≡ first)
AreLeading (block ∷ blocks) first (reply ∷ replies) last =
    (lead : Lead) × IsLead block lead × (reply ≡ lead_reply first lead)
    × AreLeading blocks (behind_lead first lead) replies last

-- a leading statement is done: whatever the tables of the schema are, it has its reply, and these are the
-- definitions behind it
pub record IsDone (lead : Lead) (old : List TableDef) (reply : Reply) (new : List TableDef) : Type 0 where
  pub reply_is : (tables : Tables) → schema_of tables ≡ old → reply ≡ lead_reply tables lead
  pub new_is : (tables : Tables) → schema_of tables ≡ old → schema_of (behind_lead tables lead) ≡ new

-- the table that a statement asks for, where it is a CREATE
abbrev pub created_by : Statement → Option TableDef
created_by (statements.Create def) = Some def
created_by other = None
