-- How far a block's transaction has come.
use Rattle.std.specs.Prelude.{◌≡◌, ◌⊎◌, ℕ, ◌-◌, ◌+◌, ◌≤◌, Bool, true, false, drop, length, List, [], ◌∷◌}
use Rattle.std.specs.Prelude.{◌++◌, None, Some, Result, Ok, Err, IsTrue}
use Rattle.std.specs.List.{AllByRecursion}
use Rattle.row_types.specs.Block.{Placed}
use Rattle.row_types.specs.Tables.{Tables}
use Rattle.row_types.specs.declared.block.Block.{Block}
use Rattle.row_types.specs.declared.block.Block.TheVariants.{Transaction as Behind}
use Rattle.row_types.specs.declared.block.Transaction.{Transaction}
use Rattle.row_types.specs.declared.definition.TableDef.{TableDef}
use Rattle.sql_parse.specs.declared.statement.Statement.{Statement}
use Rattle.plain_model.specs.declared.reply.Reply.{Reply}
use Rattle.plain_model.specs.declared.reply.Reply.TheVariants.{Done}
use Rattle.plain_model.specs.declared.stop.Stop.{Stop}
use Rattle.plain_model.specs.declared.stop.Stop.TheVariants as stops
use Rattle.plain_model.specs.Blocks.{IsRead, RunsSoFar, TransactionAnswers, misplaced, without_block}
use Rattle.plain_model.specs.CallPlays.{tables_of}
use Rattle.plain_model.specs.Calls.{AskCommit, AskUndo, Call, Committed, Undone, Stopped, is_running}
use Rattle.sql_exec.specs.Means.{IsOwnOrBy}
use Rattle.sql_exec.specs.Plays.{PlaysFrom}
use Rattle.engine_txn.specs.declared.read.Read.{Read}
use Rattle.engine_txn.specs.declared.read.Read.TheVariants.{Allowed, Refused as NotRead}
use Rattle.engine_txn.specs.BlockRuns.{BrokeOff, Finishes, spent_at}
use Rattle.engine_txn.specs.BlockSaid.{MeansBlock, ReplyWasGiven}
use Rattle.engine_txn.specs.StatementRuns.{RunsStatement, RunsTexts, RowWork, has_begin, texts_of}
use Rattle.engine_txn.specs.Steps.{Halts}
use Rattle.engine_txn.specs.TextRuns.{Course, IsEarly, StoppedBy, TextReplied, TextStopped, TextsGo, course_of}
use Rattle.engine_txn.specs.TextRuns.{refused_as}
use Rattle.engine_txn.specs.Transactions.{AllSince, CommitsLast, Uncommitted}

-- ---- One text

-- what a text is read as, where it stands
abbrev pub ReadAs : Bool → Placed → Read → Type 0
ReadAs is_inside text (Allowed statement) =
    IsRead text (Ok statement) × (misplaced is_inside statement ≡ None)
ReadAs is_inside text (NotRead refusal) =
    (read : Result Statement ℕ) × IsRead text read × (refused_as is_inside read ≡ Some refusal)

-- the calls for a statement, but where memory ran out before
abbrev pub RunsOr : Result Reply Stop → List TableDef → Statement → List Call → List Call → Type 0
RunsOr (Ok reply) defs statement old new = RunsStatement defs statement old new
RunsOr (Err stop) defs statement old new = IsEarly stop old new ⊎ RunsStatement defs statement old new

-- a text behind BEGIN is answered, or a stop ended it
abbrev pub AnswersText : List TableDef → Placed → List Call → Result Reply Stop → List Call → Type 0
AnswersText defs text old (Ok reply) new = TextReplied true defs text old reply new
AnswersText defs text old (Err stop) new = TextStopped true defs text old stop new

-- ---- The statements behind BEGIN

-- wherever the calls are those of some tables, the replies so far are those of the transaction
abbrev pub SaidSoFar : List TableDef → Transaction → List Placed → List Reply → List Call → Type 0
SaidSoFar defs t rest replies now =
    (first : Tables) → PlaysFrom defs first now
    → RunsSoFar t.statements rest t.end first replies (tables_of first now)

-- the calls so far: whatever the rest of the texts call, all together call it
abbrev pub CallsSoFar : List TableDef → List Placed → List Placed → List Call → List Call → Type 0
CallsSoFar defs texts rest begun now =
    (last : List Call) → RunsTexts true defs rest now last → RunsTexts true defs texts begun last

-- the replies so far are that to BEGIN and those to the first texts:
-- however the rest goes, all together go so
pub record GoesSoFar (defs : List TableDef) (texts rest : List Placed) (begun : List Call)
    (replies : List Reply) (now : List Call) : Type 0 where
  pub own : List Reply
  pub split : replies ≡ Done ∷ own
  pub goes : (course : Course) (last : List Call) → TextsGo true defs rest now course last
      → TextsGo true defs texts begun (course_of own course) last

-- the statements but for the rest are answered, and the transaction runs
pub record Going (defs : List TableDef) (t : Transaction) (rest : List Placed) (begun : List Call)
    (replies : List Reply) (now : List Call) : Type 0 where
  pub works : RowWork begun now
  pub runs : CallsSoFar defs t.statements rest begun now
  pub so_far : GoesSoFar defs t.statements rest begun replies now
  pub said : SaidSoFar defs t rest replies now
  pub causes : AllByRecursion (ReplyWasGiven begun now) replies
  pub running : IsTrue (is_running now)

-- the statements that have no reply yet, where the first reply is that to BEGIN
abbrev pub rest_of : Transaction → List Reply → List Placed
rest_of t replies = drop (length replies - 1) t.statements

-- the last of the replies is that its text is spent
pub record GoesToSpent (defs : List TableDef) (texts : List Placed) (begun : List Call)
    (replies : List Reply) (now : List Call) : Type 0 where
  pub own : List Reply
  pub limit : ℕ
  pub split : replies ≡ Done ∷ (own ++ spent_at limit ∷ [])
  pub goes : TextsGo true defs texts begun (course_of own (StoppedBy (stops.Spent limit))) now

-- a statement was spent, and what follows it is answered with NO BLOCK
pub record CutShort (defs : List TableDef) (t : Transaction) (begun : List Call)
    (replies : List Reply) (now : List Call) : Type 0 where
  pub works : RowWork begun now
  pub runs : RunsTexts true defs t.statements begun now
  pub to_spent : GoesToSpent defs t.statements begun replies now
  pub said : (first : Tables) → PlaysFrom defs first now
      → TransactionAnswers t.statements t.end first (replies ++ without_block (rest_of t replies) t.end) first
  pub causes : AllByRecursion (ReplyWasGiven begun now) replies
  pub ended : is_running now ≡ false
  pub some : 1 ≤ length replies
  pub few : length replies ≤ length t.statements + 1

-- ---- The whole transaction

-- the call ends a transaction, or was to end it
abbrev pub is_end : Call → Bool
is_end Committed = true
is_end Undone = true
is_end (Stopped AskCommit stop) = true
is_end (Stopped AskUndo stop) = true
is_end call = false

-- the calls for the texts of a block, and then for its end
pub record Ran (defs : List TableDef) (block : Block) (begun now : List Call) : Type 0 where
  pub mid : List Call
  pub works : RowWork begun mid
  pub texts : RunsTexts (has_begin block) defs (texts_of block) begun mid
  pub ends : AllSince is_end mid now

-- the block is answered, and its transaction has ended
pub record Answered (defs : List TableDef) (block : Block) (begun : List Call)
    (replies : List Reply) (now : List Call) : Type 0 where
  pub ran : Ran defs block begun now
  pub goes : Finishes defs block begun replies now
  pub means : MeansBlock defs block replies now
  pub causes : AllByRecursion (ReplyWasGiven begun now) replies
  pub commits : CommitsLast begun now
  pub ended : is_running now ≡ false

-- a stop came before anything was committed
pub record Broken (defs : List TableDef) (block : Block) (begun : List Call)
    (stop : Stop) (now : List Call) : Type 0 where
  pub ran : Ran defs block begun now
  pub broke : BrokeOff defs block begun stop now
  pub cause : IsOwnOrBy now stop
  pub halts : Halts stop
  pub kept : Uncommitted begun now

-- the statements behind BEGIN were run up to the last, up to one that was spent, or up to a stop
abbrev pub RunsInside : List TableDef → Transaction → List Call → List Reply → Result Bool Stop
    → List Call → Type 0
RunsInside defs t begun replies (Ok true) now = Going defs t [] begun replies now
RunsInside defs t begun replies (Ok false) now = CutShort defs t begun replies now
RunsInside defs t begun replies (Err stop) now = Broken defs (Behind t) begun stop now

-- a transaction was run to its end, or up to a stop
abbrev pub RunsBegun : {T : Type 0} → List TableDef → Block → List Call → (T → List Reply) → Result T Stop
    → List Call → Type 0
RunsBegun defs block begun replies (Ok done) now = Answered defs block begun (replies done) now
RunsBegun defs block begun replies (Err stop) now = Broken defs block begun stop now
