-- The tables that calls are of.
use Rattle.std.proofs.Common.{◌≡◌, inl, inr, ℕ, Bool, List, Option, None, Some, Result, Ok, Err, refl, sym, ap, ◌∙◌}
use Rattle.std.specs.Prelude.{option_and_then, reverse}
use Rattle.row_types.specs.declared.definition.TableDef.{TableDef}
use Rattle.row_types.specs.Tables.{Tables, schema_of}
use Rattle.key_space.proofs.PlaysLaws.{schema_stays}
use Rattle.sql_parse.specs.declared.statement.Statement.{Statement}
use Rattle.sql_check.specs.Misfits.{misfit}
use Rattle.sql_check.specs.declared.fault.CheckFault.{CheckFault}
use Rattle.plain_model.specs.declared.reply.Reply.{Reply}
use Rattle.plain_model.specs.declared.reply.Reply.TheVariants.{Refused}
use Rattle.plain_model.specs.declared.reply.Refusal.{Refusal}
use Rattle.plain_model.specs.Refusals.{refusal_of_check}
use Rattle.plain_model.specs.Meaning.{means, means_unless, unfit}
use Rattle.plain_model.specs.Blocks.{IsMeant}
use Rattle.plain_model.specs.CallPlays.{CallsPlay, tables_of}
use Rattle.plain_model.specs.Calls.{Call, Began, Committed, Undone, Locked, Did, Opened, Stopped, ops_of}
use Rattle.plain_model.proofs.CallLaws.{plays_as_listed}
use Rattle.sql_exec.specs.Plays.{LacksPlay, PlaysFrom}
use Rattle.engine_txn.specs.Transactions.{here, then, Continues, HasBegun}
use Rattle.engine_txn.specs.StatementRuns.{RowWork}
use Rattle.engine_txn.specs.BlockSaid.{left_by}

-- ---- Earlier calls are those of the same tables

answers_back : (first : Tables) (old new : List Call) → Continues old new → CallsPlay first new → CallsPlay first old
answers_back first old _ here play = play
answers_back first old _ (then (Began age number) calls passes more) play = absurd cc
answers_back first old _ (then Committed calls passes more) play = answers_back first old calls more play
answers_back first old _ (then Undone calls passes more) play = answers_back first old calls more play
answers_back first old _ (then (Locked name mode) calls passes more) play = answers_back first old calls more play
answers_back first old _ (then (Did op) calls passes more) play = answers_back first old calls more play.1
answers_back first old _ (then (Opened generation) calls passes more) play = answers_back first old calls more play
answers_back first old _ (then (Stopped asked stop) calls passes more) play = answers_back first old calls more play

lacks_back : (first : Tables) (old new : List Call) → Continues old new → LacksPlay first new → LacksPlay first old
lacks_back first old _ here play = play
lacks_back first old _ (then (Began age number) calls passes more) play = absurd cc
lacks_back first old _ (then Committed calls passes more) play = lacks_back first old calls more play
lacks_back first old _ (then Undone calls passes more) play = lacks_back first old calls more play
lacks_back first old _ (then (Locked name mode) calls passes more) play = lacks_back first old calls more play
lacks_back first old _ (then (Did op) calls passes more) play = lacks_back first old calls more play
lacks_back first old _ (then (Opened generation) calls passes more) play = lacks_back first old calls more play
lacks_back first old _ (then (Stopped asked stop) calls passes more) play = lacks_back first old calls more play.1

pub plays_back : (defs : List TableDef) (first : Tables) (old new : List Call) → Continues old new → PlaysFrom defs first new → PlaysFrom defs first old
plays_back defs first old new goes plays = record {
  tables = plays.tables;
  schema = plays.schema;
  answers = answers_back first old new goes plays.answers;
  lacks = lacks_back first old new goes plays.lacks;
}

-- ---- The schema stays, so a statement that doesn't fit it is refused

pub schema_now : (defs : List TableDef) (first : Tables) (calls : List Call) → PlaysFrom defs first calls → schema_of (tables_of first calls) ≡ defs
schema_now defs first calls plays =
    schema_stays first (tables_of first calls) (reverse (ops_of calls)) plays.tables (plays_as_listed first calls plays.answers) ∙ plays.schema

unfit_is : (defs : List TableDef) (tables : Tables) (statement : Statement) (fault : CheckFault) (refusal : Refusal) → schema_of tables ≡ defs → misfit defs statement ≡ Some fault → refusal_of_check fault ≡ Some refusal → unfit tables statement ≡ Some refusal
unfit_is defs tables statement fault refusal schema is refuses =
    let here : misfit (schema_of tables) statement ≡ Some fault = ap (λ (ds : List TableDef). misfit ds statement) schema ∙ is in
    ap (λ (o : Option CheckFault). option_and_then refusal_of_check o) here ∙ refuses

pub unfit_means : (defs : List TableDef) (tables : Tables) (statement : Statement) (fault : CheckFault) (refusal : Refusal) → schema_of tables ≡ defs → misfit defs statement ≡ Some fault → refusal_of_check fault ≡ Some refusal → IsMeant statement tables (Refused refusal) tables
unfit_means defs tables statement fault refusal schema is refuses =
    let meaning : means tables statement ≡ (Refused refusal, tables) = ap (λ (o : Option Refusal). means_unless o tables statement) (unfit_is defs tables statement fault refusal schema is refuses) in
    (sym (ap (λ (p : Reply × Tables). p.0) meaning), sym (ap (λ (p : Reply × Tables). p.1) meaning))

-- ---- What a transaction leaves

-- behind a begin nothing is left changed while there is only work on rows
pub left_first : (first : Tables) (begun now : List Call) → HasBegun begun → RowWork begun now → left_by first now ≡ first
left_first first begun _ (age, number, old, is) here = ap (left_by first) is
left_first first begun _ has (then (Began age number) calls passes more) = absurd cc
left_first first begun _ has (then Committed calls passes more) = absurd cc
left_first first begun _ has (then Undone calls passes more) = refl
left_first first begun _ has (then (Locked name mode) calls passes more) = refl
left_first first begun _ has (then (Did op) calls passes more) = refl
left_first first begun _ has (then (Opened generation) calls passes more) = refl
left_first first begun _ has (then (Stopped asked stop) calls passes more) = refl

-- the tables at the begin are the first ones
pub tables_begun : (first : Tables) (begun : List Call) → HasBegun begun → tables_of first begun ≡ first
tables_begun first begun (age, number, old, is) = ap (tables_of first) is
