-- The ways that a try of a block goes: what is called, in order, and what comes of it.
use Rattle.std.specs.Prelude.{◌≡◌, ◌⊎◌, ℕ, false, List, [], ◌∷◌, ◌++◌, drop, length, unwrap_or, Option, Some}
use Rattle.std.specs.Prelude.{Result, ⊤}
use Rattle.row_types.specs.declared.block.Block.{Block}
use Rattle.row_types.specs.declared.block.Block.TheVariants.{Alone, Transaction}
use Rattle.row_types.specs.declared.block.BlockEnd.{BlockEnd}
use Rattle.row_types.specs.declared.block.BlockEnd.TheVariants.{Commit, Rollback, CutOff}
use Rattle.row_types.specs.declared.definition.TableDef.{TableDef}
use Rattle.sql_parse.specs.declared.statement.Statement.{Statement}
use Rattle.plain_model.specs.declared.reply.Reply.{Reply}
use Rattle.plain_model.specs.declared.reply.Reply.TheVariants.{Done, Refused}
use Rattle.plain_model.specs.declared.reply.Refusal.{Refusal}
use Rattle.plain_model.specs.declared.reply.Refusal.TheVariants as refusals
use Rattle.plain_model.specs.declared.stop.Stop.{Stop}
use Rattle.plain_model.specs.declared.stop.Stop.TheVariants as stops
use Rattle.plain_model.specs.Blocks.{IsRead, end_replies, without_block}
use Rattle.plain_model.specs.Calls.{AskBegin, Call, Began, Stopped}
use Rattle.engine_txn.specs.declared.tried.Tried.{Tried}
use Rattle.engine_txn.specs.declared.tried.Tried.TheVariants as tries
use Rattle.engine_txn.specs.StatementRuns.{has_begin, texts_of}
use Rattle.engine_txn.specs.Steps.{Fails, FailsAs, GivesUp, RefusesBegin, Says, end_asks, end_call}
use Rattle.engine_txn.specs.TextRuns.{IsAllowedAs, StoppedBy, TextsGo, Through, course_of, refused_as}

-- ---- The replies to a whole block

-- what ends a block: a statement that stands alone is committed
abbrev pub end_of : Block → BlockEnd
end_of (Alone text) = Commit
end_of (Transaction t) = t.end

-- the reply that something is spent
abbrev pub spent_at : ℕ → Reply
spent_at limit = Refused (refusals.Spent limit)

-- it is the reply to an end that is spent, which a cut-off one hasn't
abbrev pub spent_end : BlockEnd → ℕ → List Reply
spent_end Commit limit = spent_at limit ∷ []
spent_end Rollback limit = spent_at limit ∷ []
spent_end CutOff limit = []

-- the replies where the texts have these and the end was done
abbrev pub replies_done : Block → List Reply → List Reply
replies_done (Alone text) said = said
replies_done (Transaction t) said = Done ∷ (said ++ end_replies t.end)

-- those where the end is spent: a statement that stands alone has no other reply then
abbrev pub replies_spent : Block → List Reply → ℕ → List Reply
replies_spent (Alone text) said limit = spent_at limit ∷ []
replies_spent (Transaction t) said limit = Done ∷ (said ++ spent_end t.end limit)

-- those where the last text that has a reply is spent: all that follows is NO BLOCK
abbrev pub replies_cut : Block → List Reply → List Reply
replies_cut (Alone text) said = said
replies_cut (Transaction t) said = Done ∷ (said ++ without_block (drop (length said) t.statements) t.end)

-- those where the transaction isn't begun, for this reason
abbrev pub replies_refused : Block → Refusal → List Reply
replies_refused (Alone text) refusal = Refused refusal ∷ []
replies_refused (Transaction t) refusal = Refused refusal ∷ without_block t.statements t.end

-- ---- A transaction that was begun

-- the transaction was ended by its last call, or is spent since that call
abbrev pub EndsBlock : Block → List Reply → List Call → List Reply → List Call → Type 0
EndsBlock block said mid replies new =
    ((replies ≡ replies_done block said) × (new ≡ end_call (end_of block) ∷ mid))
    ⊎ ((limit : ℕ) × (replies ≡ replies_spent block said limit)
    × (new ≡ Stopped (end_asks (end_of block)) (stops.Spent limit) ∷ mid))

-- every text has a reply, and then the end comes
pub record RanThrough (defs : List TableDef) (block : Block) (begun : List Call) (replies : List Reply)
    (new : List Call) : Type 0 where
  pub said : List Reply
  pub mid : List Call
  pub texts : TextsGo (has_begin block) defs (texts_of block) begun (course_of said Through) mid
  pub ends : EndsBlock block said mid replies new

-- a text is spent, and nothing more is called
pub record RanShort (defs : List TableDef) (block : Block) (begun : List Call) (replies : List Reply)
    (new : List Call) : Type 0 where
  pub said : List Reply
  pub limit : ℕ
  pub texts : TextsGo (has_begin block) defs (texts_of block) begun
      (course_of said (StoppedBy (stops.Spent limit))) new
  pub replies_are : replies ≡ replies_cut block (said ++ spent_at limit ∷ [])

-- the block has these replies
abbrev pub Finishes : List TableDef → Block → List Call → List Reply → List Call → Type 0
Finishes defs block begun replies new =
    RanThrough defs block begun replies new ⊎ RanShort defs block begun replies new

-- the end failed, after every text had a reply
abbrev pub EndFailed : List TableDef → Block → List Call → List Reply → Stop → List Call → Type 0
EndFailed defs block begun said stop new =
    (mid : List Call) × TextsGo (has_begin block) defs (texts_of block) begun (course_of said Through) mid
    × (new ≡ Stopped (end_asks (end_of block)) stop ∷ mid) × Fails stop

-- a text was ended by a stop, or the end failed
pub record BrokeOff (defs : List TableDef) (block : Block) (begun : List Call) (stop : Stop)
    (new : List Call) : Type 0 where
  pub said : List Reply
  pub at : TextsGo (has_begin block) defs (texts_of block) begun (course_of said (StoppedBy stop)) new
      ⊎ EndFailed defs block begun said stop new

-- ---- The ways

-- a statement that stands alone is refused where it stands
abbrev pub RefusedAlone : Block → Tried → Type 0
RefusedAlone (Alone text) tried =
    (read : Result Statement ℕ) × (refusal : Refusal) × IsRead text read
    × (refused_as false read ≡ Some refusal) × Says tried (Refused refusal ∷ [])
RefusedAlone (Transaction t) tried = ⊥

-- nothing was called: memory ran out, or a statement that stands alone is refused
pub record NothingCalled (block : Block) (old : List Call) (tried : Tried) (new : List Call) : Type 0 where
  pub calls : new ≡ old
  pub why : (tried ≡ tries.OutOfMemory) ⊎ RefusedAlone block tried

-- a transaction begins with a BEGIN, and for a statement that stands alone and is allowed there
abbrev pub MayBegin : Block → Type 0
MayBegin (Alone text) = (statement : Statement) × IsAllowedAs false text statement
MayBegin (Transaction t) = ⊤

-- a begin was refused or failed
abbrev pub BeginTells : Block → Stop → Tried → Type 0
BeginTells block stop tried =
    ((refusal : Refusal) × RefusesBegin stop refusal × Says tried (replies_refused block refusal))
    ⊎ (Fails stop × FailsAs stop tried)

-- the begin was the only call, and no transaction was begun
pub record NotBegun (age : Option ℕ) (block : Block) (old : List Call) (tried : Tried)
    (new : List Call) : Type 0 where
  pub begins : MayBegin block
  pub stop : Stop
  pub calls : new ≡ Stopped (AskBegin age) stop ∷ old
  pub tells : BeginTells block stop tried

-- a transaction was begun, and the block has its replies
pub record HasRun (defs : List TableDef) (age : Option ℕ) (block : Block) (old : List Call)
    (tried : Tried) (new : List Call) : Type 0 where
  pub begins : MayBegin block
  pub number : ℕ
  pub replies : List Reply
  pub says : Says tried replies
  pub runs : Finishes defs block (Began age number ∷ old) replies new

-- a transaction was begun, and given up after a stop
pub record WasGivenUp (defs : List TableDef) (age : Option ℕ) (block : Block) (old : List Call)
    (tried : Tried) (new : List Call) : Type 0 where
  pub begins : MayBegin block
  pub number : ℕ
  pub stop : Stop
  pub last : List Call
  pub broke : BrokeOff defs block (Began age number ∷ old) stop last
  pub gives : GivesUp (unwrap_or age number) last stop tried new

-- the ways that a try goes
abbrev pub TryGoes : List TableDef → Option ℕ → Block → List Call → Tried → List Call → Type 0
TryGoes defs age block old tried new =
    NothingCalled block old tried new ⊎ NotBegun age block old tried new
    ⊎ HasRun defs age block old tried new ⊎ WasGivenUp defs age block old tried new
