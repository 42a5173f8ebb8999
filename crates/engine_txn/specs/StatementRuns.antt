-- Which calls are made for the statements of a block.
use Rattle.std.specs.Prelude.{◌≡◌, ◌⊎◌, ℕ, Bool, true, false, not, List, [], ◌∷◌, Option, None, Some, Result}
use Rattle.std.specs.Prelude.{Ok, Err}
use Rattle.row_types.specs.Block.{Placed}
use Rattle.row_types.specs.declared.block.Block.{Block}
use Rattle.row_types.specs.declared.block.Block.TheVariants.{Alone, Transaction}
use Rattle.row_types.specs.declared.definition.TableDef.{TableDef}
use Rattle.sql_parse.specs.declared.statement.Statement.{Statement}
use Rattle.sql_check.specs.Misfits.{misfit}
use Rattle.sql_check.specs.Plans.{plan_of}
use Rattle.sql_check.specs.declared.fault.CheckFault.{CheckFault}
use Rattle.plain_model.specs.declared.reply.Refusal.{Refusal}
use Rattle.plain_model.specs.Blocks.{IsRead, misplaced}
use Rattle.plain_model.specs.Calls.{Asked, AskLock, Call, Locked, Did, Stopped}
use Rattle.plain_model.specs.Runs.{is_row_call}
use Rattle.sql_exec.specs.Means.{LocksBy, lock_of, mode_of}
use Rattle.sql_exec.specs.Sends.{Sends}
use Rattle.engine_txn.specs.Transactions.{AllSince}

-- a call asked for a lock, a row operation or a mark
abbrev pub asks_rows : Asked → Bool
asks_rows (AskLock name mode) = true
asks_rows asked = is_row_call asked

-- a lock, a row operation, or a request for one
abbrev pub is_row_work : Call → Bool
is_row_work (Locked name mode) = true
is_row_work (Did op) = true
is_row_work (Stopped asked stop) = asks_rows asked
is_row_work call = false

-- nothing was called but locks, row operations and marks
abbrev pub RowWork : List Call → List Call → Type 0
RowWork old new = AllSince is_row_work old new

-- no lock, row operation or mark was asked for
abbrev pub NoRowWork : List Call → List Call → Type 0
NoRowWork old new = AllSince (λ call. not (is_row_work call)) old new

-- the calls for a statement that fits the tables: its lock first, and then its rows in order
pub record RunsPlan (defs : List TableDef) (statement : Statement) (old new : List Call) : Type 0 where
  pub lock : LocksBy (lock_of (plan_of defs statement)) (mode_of (plan_of defs statement)) old new
  pub sent : Sends defs statement old new

-- for one that doesn't fit nothing is called
abbrev pub RunsUnless : Option CheckFault → List TableDef → Statement → List Call → List Call → Type 0
RunsUnless None defs statement old new = RunsPlan defs statement old new
RunsUnless (Some fault) defs statement old new = new ≡ old

-- the calls for a statement
abbrev pub RunsStatement : List TableDef → Statement → List Call → List Call → Type 0
RunsStatement defs statement old new = RunsUnless (misfit defs statement) defs statement old new

-- for one that is refused where it stands nothing is called either
abbrev pub RunsPlaced : Option Refusal → List TableDef → Statement → List Call → List Call → Type 0
RunsPlaced None defs statement old new = RunsStatement defs statement old new
RunsPlaced (Some refusal) defs statement old new = new ≡ old

-- the calls for a text that stands behind BEGIN or alone
abbrev pub RunsText : Bool → List TableDef → Result Statement ℕ → List Call → List Call → Type 0
RunsText is_inside defs (Ok statement) old new =
    RunsPlaced (misplaced is_inside statement) defs statement old new
RunsText is_inside defs (Err at) old new = new ≡ old

-- the calls for texts, one after the other, up to the last or to one at which the block is given up
abbrev pub RunsTexts : Bool → List TableDef → List Placed → List Call → List Call → Type 0
RunsTexts is_inside defs [] old new = new ≡ old
RunsTexts is_inside defs (text ∷ texts) old new =
    (new ≡ old)
    ⊎ ((read : Result Statement ℕ) × IsRead text read
    × ((mid : List Call) × RunsText is_inside defs read old mid × RunsTexts is_inside defs texts mid new))

-- the statements stand behind BEGIN
abbrev pub has_begin : Block → Bool
has_begin (Alone text) = false
has_begin (Transaction t) = true

-- the texts of a block, without BEGIN and its end
abbrev pub texts_of : Block → List Placed
texts_of (Alone text) = text ∷ []
texts_of (Transaction t) = t.statements

-- the calls on rows are those for the texts of the block, behind its begin and before its end
pub record RunsBlock (defs : List TableDef) (block : Block) (old new : List Call) : Type 0 where
  pub begun : List Call
  pub ended : List Call
  pub begins : NoRowWork old begun
  pub texts : RunsTexts (has_begin block) defs (texts_of block) begun ended
  pub ends : NoRowWork ended new
