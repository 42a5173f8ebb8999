-- The texts of a block, one after the other: the reply to each, and the calls that it comes from.
use Rattle.std.specs.Prelude.{◌≡◌, ◌⊎◌, ℕ, Bool, List, [], ◌∷◌, Option, None, Some, Result, Ok, Err, IsTrue, ⊤}
use Rattle.row_types.specs.Block.{Placed}
use Rattle.row_types.specs.Tables.{Tables}
use Rattle.row_types.specs.declared.definition.TableDef.{TableDef}
use Rattle.sql_parse.specs.declared.statement.Statement.{Statement}
use Rattle.plain_model.specs.declared.reply.Reply.{Reply}
use Rattle.plain_model.specs.declared.reply.Reply.TheVariants.{Refused}
use Rattle.plain_model.specs.declared.reply.Refusal.{Refusal}
use Rattle.plain_model.specs.declared.reply.Refusal.TheVariants as refusals
use Rattle.plain_model.specs.declared.stop.Stop.{Stop}
use Rattle.plain_model.specs.declared.stop.Stop.TheVariants as stops
use Rattle.plain_model.specs.Blocks.{Answers, IsRead, misplaced}
use Rattle.plain_model.specs.CallPlays.{tables_of}
use Rattle.plain_model.specs.Calls.{Asked, Call, Stopped, is_running}
use Rattle.sql_exec.specs.Means.{IsNoLack}
use Rattle.sql_exec.specs.Plays.{PlaysFrom}
use Rattle.engine_txn.specs.StatementRuns.{RunsStatement, RunsText}
use Rattle.engine_txn.specs.Transactions.{GaveSince, Grown}

-- ---- One text

-- what the reply to a statement says to be lacking is what one of
-- its calls gave, and that something is spent it never says by itself
abbrev pub HasCause : List Call → List Call → Reply → Type 0
HasCause old new (Refused (refusals.Resource resource)) = GaveSince (stops.Refused resource) old new
HasCause old new (Refused (refusals.Spent limit)) = ⊥
HasCause old new reply = ⊤

-- wherever the calls are those of some tables, the reply to a text is what it means on them
abbrev pub AnswersRead : Bool → List TableDef → Result Statement ℕ → List Call → Reply → List Call → Type 0
AnswersRead is_inside defs read old reply new =
    (first : Tables) → PlaysFrom defs first new
    → Answers is_inside read (tables_of first old) reply (tables_of first new)

-- a text has this reply, which comes from the calls since
pub record TextReplied (is_inside : Bool) (defs : List TableDef) (text : Placed) (old : List Call)
    (reply : Reply) (new : List Call) : Type 0 where
  pub read : Result Statement ℕ
  pub is_read : IsRead text read
  pub calls : RunsText is_inside defs read old new
  pub means : AnswersRead is_inside defs read old reply new
  pub cause : HasCause old new reply

-- the text is this statement, and it is allowed where it stands
abbrev pub IsAllowedAs : Bool → Placed → Statement → Type 0
IsAllowedAs is_inside text statement = IsRead text (Ok statement) × (misplaced is_inside statement ≡ None)

-- the last of the calls since gave this stop, and before it a transaction ran
pub record GaveLast (stop : Stop) (old new : List Call) : Type 0 where
  pub asked : Asked
  pub before : List Call
  pub last : new ≡ Stopped asked stop ∷ before
  pub since : Grown old before
  pub running : IsTrue (is_running before)

-- the last of the calls since gave this stop, or memory ran out between them
abbrev pub IsOwnOrGiven : List Call → List Call → Stop → Type 0
IsOwnOrGiven old new stop = (stop ≡ stops.OutOfMemory) ⊎ GaveLast stop old new

-- a stop ends a statement, and it isn't that a resource is lacking
pub record StopsSince (old new : List Call) (stop : Stop) : Type 0 where
  pub cause : IsOwnOrGiven old new stop
  pub kind : IsNoLack stop

-- why a text is refused where it stands
abbrev pub refused_as : Bool → Result Statement ℕ → Option Refusal
refused_as is_inside (Err at) = Some (refusals.Syntax at)
refused_as is_inside (Ok statement) = misplaced is_inside statement

-- memory ran out before anything was called
abbrev pub IsEarly : Stop → List Call → List Call → Type 0
IsEarly stop old new = (stop ≡ stops.OutOfMemory) × (new ≡ old)

-- a text has no reply of its own: there was no memory to read it, or a stop ended its statement
abbrev pub TextStopped : Bool → List TableDef → Placed → List Call → Stop → List Call → Type 0
TextStopped is_inside defs text old stop new =
    IsEarly stop old new
    ⊎ ((statement : Statement) × IsAllowedAs is_inside text statement × RunsStatement defs statement old new
    × IsOwnOrGiven old new stop)

-- ---- All of them

-- how texts go, one after the other: each has a reply, up to the last, or to one that a stop ends
pub data Course : Type 0 where
  Through : Course
  Replied : (reply : Reply) → Course → Course
  StoppedBy : (stop : Stop) → Course

-- these replies, and then as the course goes on
abbrev pub course_of : List Reply → Course → Course
course_of [] course = course
course_of (reply ∷ replies) course = Replied reply (course_of replies course)

-- texts go so: the calls of each begin where those of the one before it end
abbrev pub TextsGo : Bool → List TableDef → List Placed → List Call → Course → List Call → Type 0
TextsGo is_inside defs [] old Through new = new ≡ old
TextsGo is_inside defs [] old (Replied reply course) new = ⊥
TextsGo is_inside defs [] old (StoppedBy stop) new = ⊥
TextsGo is_inside defs (text ∷ texts) old Through new = ⊥
TextsGo is_inside defs (text ∷ texts) old (Replied reply course) new =
    (mid : List Call) × TextReplied is_inside defs text old reply mid
    × TextsGo is_inside defs texts mid course new
TextsGo is_inside defs (text ∷ texts) old (StoppedBy stop) new =
    TextStopped is_inside defs text old stop new
