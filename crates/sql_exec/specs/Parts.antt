-- What the calls of a part of a statement come to.
use Rattle.std.specs.Prelude.{◌≡◌, ℕ, List, Result, IfErr, IfOk, IsTrue, OnOk}
use Rattle.row_types.specs.declared.definition.TableDef.{TableDef}
use Rattle.key_space.specs.Plays.{Rows}
use Rattle.sql_check.specs.Columns.{def_at}
use Rattle.sql_check.specs.declared.plan.Plan.{Plan}
use Rattle.plain_model.specs.declared.reply.Reply.{Reply}
use Rattle.plain_model.specs.declared.stop.Stop.{Stop}
use Rattle.plain_model.specs.Calls.{Call, is_running}
use Rattle.plain_model.specs.PlanMeaning.{plan_acts}
use Rattle.sql_exec.specs.declared.act.Changes.{Changes}
use Rattle.sql_exec.specs.Bodies.{ChangesEnd, OnlyForward}
use Rattle.sql_exec.specs.Means.{IsOwnOrBy, Stops}
use Rattle.sql_exec.specs.Plays.{OnTable}
use Rattle.sql_exec.specs.Sends.{PlanSends, SendsNothing}

-- rows of table n are looked up and none changes; where that ends well,
-- this is said of the rows that the table has
pub record Reads {T : Type 0} (defs : List TableDef) (n : ℕ) (Says : T → Rows → Type 0) (old : List Call)
    (result : Result T Stop) (new : List Call) : Type 0 where
  pub forward : OnlyForward old new
  pub sent : SendsNothing old new
  pub runs : OnOk result (IsTrue (is_running new))
  pub end : IfErr result (Stops new)
  pub says : IfOk result (λ found. OnTable defs n (λ r s. Says found r × (s ≡ r)) old new)

-- the reply is that of a plan which leaves the rows as they are
abbrev pub PlanReplies : TableDef → Plan → Reply → Rows → Type 0
PlanReplies def plan reply rows = plan_acts def plan rows ≡ (reply, rows)

-- rows of table n are changed as a plan says, up to an end of it
pub record Changed (defs : List TableDef) (n : ℕ) (plan : Plan) (old : List Call)
    (result : Result Changes Stop) (new : List Call) : Type 0 where
  pub forward : OnlyForward old new
  pub runs : OnOk result (IsTrue (is_running new))
  pub end : IfErr result (IsOwnOrBy new)
  pub plain : OnTable defs n (ChangesEnd (def_at defs n) plan result) old new
  pub sent : PlanSends defs n plan old new
