-- What a block means, and blocks one after the other.
use Rattle.std.specs.Prelude.{◌≡◌, ◌⊎◌, ℕ, Bool, true, false, List, [], ◌∷◌, ◌++◌, map, Option, None, Some}
use Rattle.std.specs.Prelude.{Result, Ok, Err}
use Rattle.row_types.specs.Block.{Placed}
use Rattle.row_types.specs.declared.block.Block.{Block}
use Rattle.row_types.specs.declared.block.Block.TheVariants.{Alone, Transaction}
use Rattle.row_types.specs.declared.block.BlockEnd.{BlockEnd}
use Rattle.row_types.specs.declared.block.BlockEnd.TheVariants.{Commit, Rollback, CutOff}
use Rattle.row_types.specs.Tables.{Tables}
use Rattle.sql_parse.specs.Grammar.{IsStatement}
use Rattle.sql_parse.specs.Faults.{IsText, IsFault}
use Rattle.sql_parse.specs.declared.statement.Statement.{Statement}
use Rattle.sql_parse.specs.declared.statement.Statement.TheVariants as statements
use Rattle.plain_model.specs.declared.stop.Resource.{Resource}
use Rattle.plain_model.specs.declared.stop.Resource.TheVariants.{LogFull}
use Rattle.plain_model.specs.declared.reply.Reply.{Reply}
use Rattle.plain_model.specs.declared.reply.Reply.TheVariants.{Done, Refused}
use Rattle.plain_model.specs.declared.reply.Refusal.{Refusal}
use Rattle.plain_model.specs.declared.reply.Refusal.TheVariants as refusals
use Rattle.plain_model.specs.Meaning.{means}
use Rattle.plain_model.specs.Lacks.{MayLack}

-- ---- A statement, where it stands

-- the statement that a text is, or the place at which it is none
abbrev pub IsRead : Placed → Result Statement ℕ → Type 0
IsRead text (Ok statement) = IsText IsStatement text.base text.text statement
IsRead text (Err at) = IsFault IsStatement text.base text.text at

-- the refusal of a statement that isn't allowed where it stands, behind BEGIN or not
abbrev pub misplaced : Bool → Statement → Option Refusal
misplaced is_inside (statements.Create created) = Some refusals.OnlyFirst
misplaced true statements.Begin = Some refusals.InBlock
misplaced true statements.Commit = Some refusals.InBlock
misplaced true statements.Rollback = Some refusals.InBlock
misplaced false statements.Begin = None
misplaced false statements.Commit = Some refusals.NoBlock
misplaced false statements.Rollback = Some refusals.NoBlock
misplaced is_inside (statements.Insert s) = None
misplaced is_inside (statements.Select s) = None
misplaced is_inside (statements.Totals s) = None
misplaced is_inside (statements.Update s) = None
misplaced is_inside (statements.Delete s) = None

-- the text is a statement that is allowed where it stands
abbrev pub IsAllowed : Bool → Result Statement ℕ → Type 0
IsAllowed is_inside (Ok statement) = misplaced is_inside statement ≡ None
IsAllowed is_inside (Err at) = ⊥

-- a statement is refused, and the tables stay
abbrev pub IsRefused : Refusal → Tables → Reply → Tables → Type 0
IsRefused refusal old reply new = (reply ≡ Refused refusal) × (new ≡ old)

-- the reply and the tables after it are those that the statement means
abbrev pub IsMeant : Statement → Tables → Reply → Tables → Type 0
IsMeant statement old reply new = (reply ≡ (means old statement).0) × (new ≡ (means old statement).1)

-- a resource is lacking, and the tables stay
abbrev pub IsLacking : Statement → Tables → Reply → Tables → Type 0
IsLacking statement old reply new =
    (resource : Resource) × MayLack old statement resource
    × IsRefused (refusals.Resource resource) old reply new

-- what a statement is answered with: the refusal of its place where there is one, else what it means, or that
-- a resource for it is lacking
abbrev pub AnswersUnless : Option Refusal → Statement → Tables → Reply → Tables → Type 0
AnswersUnless (Some refusal) statement old reply new = IsRefused refusal old reply new
AnswersUnless None statement old reply new =
    IsMeant statement old reply new ⊎ IsLacking statement old reply new

-- what a text is answered with in a transaction that runs
abbrev pub Answers : Bool → Result Statement ℕ → Tables → Reply → Tables → Type 0
Answers is_inside (Err at) old reply new = IsRefused (refusals.Syntax at) old reply new
Answers is_inside (Ok statement) old reply new =
    AnswersUnless (misplaced is_inside statement) statement old reply new

-- the reply is SPENT: as many transactions, operations or checkpoints as there may be were made
abbrev pub IsSpent : Reply → Type 0
IsSpent reply = (limit : ℕ) × (reply ≡ Refused (refusals.Spent limit))

-- the reply is LOG FULL
abbrev pub IsLogFull : Reply → Type 0
IsLogFull reply = (bytes limit : ℕ) × (reply ≡ Refused (refusals.Resource (LogFull bytes limit)))

-- the reply is one with which no transaction is begun: SPENT or LOG FULL
abbrev pub IsNotBegun : Reply → Type 0
IsNotBegun reply = IsSpent reply ⊎ IsLogFull reply

-- ---- A statement that stands alone

-- it is answered in a transaction of its own, or its transaction isn't begun and the tables stay
abbrev pub AloneAnswers : Result Statement ℕ → Tables → Reply → Tables → Type 0
AloneAnswers read old reply new =
    Answers false read old reply new ⊎ (IsAllowed false read × IsNotBegun reply × (new ≡ old))

-- ---- BEGIN, and what follows it

-- the replies to a block's end, where the transaction runs no longer
abbrev pub end_without : BlockEnd → List Reply
end_without Commit = Refused refusals.NoBlock ∷ []
end_without Rollback = Refused refusals.NoBlock ∷ []
end_without CutOff = []

-- NO BLOCK for each of the later statements and for the end
abbrev pub without_block : List Placed → BlockEnd → List Reply
without_block texts end = map (λ text. Refused refusals.NoBlock) texts ++ end_without end

-- COMMIT leaves the tables that there are now, any other end the first ones
abbrev pub end_tables : BlockEnd → Tables → Tables → Tables
end_tables Commit first now = now
end_tables Rollback first now = first
end_tables CutOff first now = first

-- the replies to an end that isn't spent
abbrev pub end_replies : BlockEnd → List Reply
end_replies Commit = Done ∷ []
end_replies Rollback = Done ∷ []
end_replies CutOff = []

-- an end that is spent has a reply, which a cut-off one hasn't
abbrev pub IsSpentEnd : BlockEnd → List Reply → Type 0
IsSpentEnd Commit replies = (reply : Reply) × IsSpent reply × (replies ≡ reply ∷ [])
IsSpentEnd Rollback replies = (reply : Reply) × IsSpent reply × (replies ≡ reply ∷ [])
IsSpentEnd CutOff replies = ⊥

-- the block's end, from its first tables and those that there are now
abbrev pub Ends : BlockEnd → Tables → Tables → List Reply → Tables → Type 0
Ends end first now replies last =
    ((replies ≡ end_replies end) × (last ≡ end_tables end first now))
    ⊎ (IsSpentEnd end replies × (last ≡ first))

-- The statements behind BEGIN run in order, and the block ends; or one is
-- spent, the tables are the first ones again, and all that follows is NO BLOCK
abbrev pub Inside : List Placed → BlockEnd → Tables → Tables → List Reply → Tables → Type 0
Inside [] end first now replies last = Ends end first now replies last
Inside (text ∷ texts) end first now [] last = ⊥
Inside (text ∷ texts) end first now (reply ∷ replies) last = (read : Result Statement ℕ) × IsRead text read
    × (((next : Tables) × Answers true read now reply next × Inside texts end first next replies last)
    ⊎ (IsAllowed true read × IsSpent reply × (replies ≡ without_block texts end) × (last ≡ first)))

-- BEGIN is done and the rest runs, or BEGIN is refused and all that follows is NO BLOCK
abbrev pub TransactionAnswers : List Placed → BlockEnd → Tables → List Reply → Tables → Type 0
TransactionAnswers texts end first [] last = ⊥
TransactionAnswers texts end first (reply ∷ replies) last =
    ((reply ≡ Done) × Inside texts end first first replies last)
    ⊎ (IsNotBegun reply × (replies ≡ without_block texts end) × (last ≡ first))

-- ---- Blocks

-- the replies to a block, and the tables after it
abbrev pub block_means : Block → Tables → List Reply → Tables → Type 0
block_means (Alone text) first replies last =
    (read : Result Statement ℕ) × IsRead text read
    × ((reply : Reply) × (replies ≡ reply ∷ []) × AloneAnswers read first reply last)
block_means (Transaction t) first replies last = TransactionAnswers t.statements t.end first replies last

-- a block with the replies to it
pub record Said : Type 0 where
  pub block : Block
  pub replies : List Reply

-- blocks run one after the other from the first tables to the last
abbrev pub Serial : Tables → List Said → Tables → Type 0
Serial first [] last = first ≡ last
Serial first (said ∷ more) last =
    (next : Tables) × block_means said.block first said.replies next × Serial next more last

-- the reply is neither that a resource is lacking nor SPENT
abbrev pub IsPlain : Reply → Type 0
IsPlain reply =
    ((resource : Resource) → reply ≡ Refused (refusals.Resource resource) → ⊥)
    × ((limit : ℕ) → reply ≡ Refused (refusals.Spent limit) → ⊥)

-- the answer to a text where no resource is lacking and nothing is spent
abbrev pub PlainAnswer : Bool → Placed → Tables → Reply → Tables → Type 0
PlainAnswer is_inside text old reply new =
    (read : Result Statement ℕ) × IsRead text read × Answers is_inside read old reply new × IsPlain reply

-- the replies so far to a transaction, with the tables that there
-- are now: whatever the rest of it does, all together do it
abbrev pub RunsSoFar : List Placed → List Placed → BlockEnd → Tables → List Reply → Tables → Type 0
RunsSoFar texts rest end first replies now =
    (more : List Reply) (last : Tables) → Inside rest end first now more last
    → TransactionAnswers texts end first (replies ++ more) last
