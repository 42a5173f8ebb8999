-- Every statement that changes rows ends in the same way.
use Rattle.std.proofs.Common.{◌≡◌, inl, inr, ℕ, List, ◌∷◌, Result, Ok, Err, refl, sym, ap, subst, ◌∙◌}
use Rattle.row_types.specs.declared.definition.TableDef.{TableDef}
use Rattle.row_types.specs.declared.row.Value.{Value}
use Rattle.row_types.specs.Tables.{Tables}
use Rattle.key_space.specs.Plays.{Rows}
use Rattle.sql_check.specs.declared.plan.Plan.{Plan}
use Rattle.plain_model.specs.declared.reply.Reply.{Reply}
use Rattle.plain_model.specs.declared.reply.Reply.TheVariants as replies
use Rattle.plain_model.specs.declared.reply.Refusal.{Refusal}
use Rattle.plain_model.specs.declared.reply.Refusal.TheVariants as refusals
use Rattle.plain_model.specs.declared.stop.Stop.{Stop}
use Rattle.plain_model.specs.declared.stop.Stop.TheVariants as stops
use Rattle.plain_model.specs.Calls.{AskMark, AskUndoTo, Call, Stopped, MayGive, op_count}
use Rattle.plain_model.specs.CallPlays.{tables_of}
use Rattle.plain_model.specs.Meaning.{table_at}
use Rattle.plain_model.specs.Runs.{Since, here, did, keys_taken, rows_put, stopped}
use Rattle.sql_exec.specs.declared.act.Act.{Act}
use Rattle.sql_exec.specs.declared.act.Changes.{Changes}
use Rattle.sql_exec.specs.declared.act.Changes.TheVariants.{Made, Duplicate, OutOfRange}
use Rattle.sql_exec.specs.Bodies.{ChangesEnd, IsSettled, IsUndone, PlanEnds}
use Rattle.sql_exec.specs.Means.{IsNoLack}
use Rattle.sql_exec.specs.Plays.{OnTable, Turns}
use Rattle.sql_exec.specs.Sends.{ChangeSends, SendsOnly}
use Rattle.sql_exec.proofs.OneTable.{stays, weaker}
use Rattle.sql_exec.proofs.Playing.{plays_since, undone}

-- no lack is given by a call that goes back
pub no_lack : (mark : ℕ) (stop : Stop) → MayGive (AskUndoTo mark) stop → IsNoLack stop
no_lack mark (stops.Refused resource) may = may
no_lack mark (stops.Die holder) may = tt
no_lack mark (stops.Fault file) may = tt
no_lack mark (stops.Spent limit) may = tt
no_lack mark stops.OutOfMemory may = tt

undone_since : (mark : ℕ) (why : Refusal) (mid : List Call) (result : Result Reply Stop) (new : List Call) → IsUndone mark why mid result new → Since mid new
undone_since mark why mid (Ok reply) new is = subst (Since mid) (sym is.1) (did _ _ here)
undone_since mark why mid (Err stop) new is = subst (Since mid) (sym is.0) (stopped (AskUndoTo mark) stop _ refl here)

pub settled_since : (mark : ℕ) (ended : Result Changes Stop) (mid : List Call) (result : Result Reply Stop) (new : List Call) → IsSettled mark ended mid result new → Since mid new
settled_since mark (Ok (Made count)) mid result new is = subst (Since mid) (sym is.1) here
settled_since mark (Ok (Duplicate key)) mid result new is = undone_since mark (refusals.Duplicate key) mid result new is
settled_since mark (Ok OutOfRange) mid result new is = undone_since mark refusals.Range mid result new is
settled_since mark (Err (stops.Refused resource)) mid result new is = undone_since mark (refusals.Resource resource) mid result new is
settled_since mark (Err (stops.Die holder)) mid result new is = subst (Since mid) (sym is.1) here
settled_since mark (Err (stops.Fault file)) mid result new is = subst (Since mid) (sym is.1) here
settled_since mark (Err (stops.Spent limit)) mid result new is = subst (Since mid) (sym is.1) here
settled_since mark (Err stops.OutOfMemory) mid result new is = subst (Since mid) (sym is.1) here

-- ---- Reply and effect

err_ends : (def : TableDef) (plan : Plan) (stop : Stop) (result : Result Reply Stop) (old new : Rows) → result ≡ Err stop → PlanEnds def plan result old new
err_ends def plan stop result old new is = subst (λ r. PlanEnds def plan r old new) (sym is) tt

-- the calls since were made on the same tables, whose rows have ended so
turned : (n : ℕ) (F G : Rows → Rows → Type 0) (first : Tables) (start mid new : List Call) → tables_of first new ≡ tables_of first mid → ((r s : Rows) → F r s → G r s)
    → Turns n F (tables_of first start) (tables_of first mid) → Turns n G (tables_of first start) (tables_of first new)
turned n F G first start mid new same more turns = subst (Turns n G (tables_of first start)) (sym same) (weaker n F G (tables_of first start) (tables_of first mid) more turns)

module _ (n : ℕ) (def : TableDef) (plan : Plan) where
  undone_ends : (mark : ℕ) (why : Refusal) (ended : Result Changes Stop) (first : Tables) (start mid : List Call) (result : Result Reply Stop) (new : List Call) → mark ≡ op_count start → Since start mid → IsUndone mark why mid result new
      → (Turns n (ChangesEnd def plan ended) (tables_of first start) (tables_of first mid))
      → PlanEnds def plan (Ok (replies.Refused why)) (table_at (tables_of first start) n).rows (table_at (tables_of first start) n).rows → Turns n (PlanEnds def plan result) (tables_of first start) (tables_of first new)
  undone_ends mark why ended first start mid (Ok said) new at since is body ends =
      stays n (PlanEnds def plan (Ok said)) (tables_of first start) (tables_of first new) (undone first start mid new mark at since is.1)
      (subst (λ (reply : Reply). PlanEnds def plan (Ok reply) (table_at (tables_of first start) n).rows (table_at (tables_of first start) n).rows) (sym is.0) ends)
  undone_ends mark why ended first start mid (Err stop) new at since is body ends = turned n (ChangesEnd def plan ended) (PlanEnds def plan (Err stop)) first start mid new (ap (tables_of first) is.0) (λ r s e. tt) body

  passed_on : (stop : Stop) (ended : Result Changes Stop) (first : Tables) (start mid : List Call) (result : Result Reply Stop) (new : List Call) → (result ≡ Err stop) × (new ≡ mid)
      → Turns n (ChangesEnd def plan ended) (tables_of first start) (tables_of first mid) → Turns n (PlanEnds def plan result) (tables_of first start) (tables_of first new)
  passed_on stop ended first start mid result new is body = turned n (ChangesEnd def plan ended) (PlanEnds def plan result) first start mid new (ap (tables_of first) is.1) (λ r s e. err_ends def plan stop result r s is.0) body

  -- a statement comes to what its changes come to
  pub settled_ends : (mark : ℕ) (ended : Result Changes Stop) (first : Tables) (start mid : List Call) (result : Result Reply Stop) (new : List Call) → mark ≡ op_count start → Since start mid → IsSettled mark ended mid result new
      → Turns n (ChangesEnd def plan ended) (tables_of first start) (tables_of first mid) → Turns n (PlanEnds def plan result) (tables_of first start) (tables_of first new)
  settled_ends mark (Ok (Made count)) first start mid result new at since is body =
      turned n (ChangesEnd def plan (Ok (Made count))) (PlanEnds def plan result) first start mid new (ap (tables_of first) is.1) (λ r s e. subst (λ (x : Result Reply Stop). PlanEnds def plan x r s) (sym is.0) (inl e)) body
  settled_ends mark (Ok (Duplicate key)) first start mid result new at since is body = undone_ends mark (refusals.Duplicate key) (Ok (Duplicate key)) first start mid result new at since is body (inl body.rows)
  settled_ends mark (Ok OutOfRange) first start mid result new at since is body = undone_ends mark refusals.Range (Ok OutOfRange) first start mid result new at since is body (inl body.rows)
  settled_ends mark (Err (stops.Refused resource)) first start mid result new at since is body =
      undone_ends mark (refusals.Resource resource) (Err (stops.Refused resource)) first start mid result new at since is body (inr (resource, body.rows, refl, refl))
  settled_ends mark (Err (stops.Die holder)) first start mid result new at since is body = passed_on (stops.Die holder) (Err (stops.Die holder)) first start mid result new is body
  settled_ends mark (Err (stops.Fault file)) first start mid result new at since is body = passed_on (stops.Fault file) (Err (stops.Fault file)) first start mid result new is body
  settled_ends mark (Err (stops.Spent limit)) first start mid result new at since is body = passed_on (stops.Spent limit) (Err (stops.Spent limit)) first start mid result new is body
  settled_ends mark (Err stops.OutOfMemory) first start mid result new at since is body = passed_on stops.OutOfMemory (Err stops.OutOfMemory) first start mid result new is body

-- in the words of the calls
pub plan_ends : (defs : List TableDef) (n : ℕ) (def : TableDef) (plan : Plan) (mark : ℕ) (ended : Result Changes Stop) (old mid : List Call) (result : Result Reply Stop) (new : List Call)
    → mark ≡ op_count old → Since old mid → IsSettled mark ended mid result new → OnTable defs n (ChangesEnd def plan ended) old mid → OnTable defs n (PlanEnds def plan result) old new
plan_ends defs n def plan mark ended old mid result new at since is body first plays =
    settled_ends n def plan mark ended first old mid result new at since is (body first (plays_since defs first mid new (settled_since mark ended mid result new is) plays))

-- ---- what is sent

undone_sent : (mark : ℕ) (why : Refusal) (mid : List Call) (result : Result Reply Stop) (new : List Call) → IsUndone mark why mid result new → (rows_put new ≡ rows_put mid) × (keys_taken new ≡ keys_taken mid)
undone_sent mark why mid (Ok reply) new is = (ap rows_put is.1, ap keys_taken is.1)
undone_sent mark why mid (Err stop) new is = (ap rows_put is.0, ap keys_taken is.0)

settled_sent : (mark : ℕ) (ended : Result Changes Stop) (mid : List Call) (result : Result Reply Stop) (new : List Call) → IsSettled mark ended mid result new → (rows_put new ≡ rows_put mid) × (keys_taken new ≡ keys_taken mid)
settled_sent mark (Ok (Made count)) mid result new is = (ap rows_put is.1, ap keys_taken is.1)
settled_sent mark (Ok (Duplicate key)) mid result new is = undone_sent mark (refusals.Duplicate key) mid result new is
settled_sent mark (Ok OutOfRange) mid result new is = undone_sent mark refusals.Range mid result new is
settled_sent mark (Err (stops.Refused resource)) mid result new is = undone_sent mark (refusals.Resource resource) mid result new is
settled_sent mark (Err (stops.Die holder)) mid result new is = (ap rows_put is.1, ap keys_taken is.1)
settled_sent mark (Err (stops.Fault file)) mid result new is = (ap rows_put is.1, ap keys_taken is.1)
settled_sent mark (Err (stops.Spent limit)) mid result new is = (ap rows_put is.1, ap keys_taken is.1)
settled_sent mark (Err stops.OutOfMemory) mid result new is = (ap rows_put is.1, ap keys_taken is.1)

-- the calls that settle a statement send nothing
pub settled_only : (rows : Rows) (keys : List ℕ) (mark : ℕ) (ended : Result Changes Stop) (old mid : List Call) (result : Result Reply Stop) (new : List Call) → IsSettled mark ended mid result new → SendsOnly rows keys old mid → SendsOnly rows keys old new
settled_only rows keys mark ended old mid result new is sends =
    let same = settled_sent mark ended mid result new is in record {
      put = record { sent = sends.put.sent; rest = sends.put.rest; front = sends.put.front; added = same.0 ∙ sends.put.added };
      taken = record { sent = sends.taken.sent; rest = sends.taken.rest; front = sends.taken.front; added = same.1 ∙ sends.taken.added };
    }

pub change_sent : (defs : List TableDef) (n : ℕ) (act : List Value → Act) (mark : ℕ) (ended : Result Changes Stop) (old mid : List Call) (result : Result Reply Stop) (new : List Call) → IsSettled mark ended mid result new → ChangeSends defs n act old mid → ChangeSends defs n act old new
change_sent defs n act mark ended old mid result new is body first plays =
    settled_only _ _ mark ended old mid result new is (body first (plays_since defs first mid new (settled_since mark ended mid result new is) plays))

-- a mark that isn't given ends the statement
pub no_mark : (defs : List TableDef) (n : ℕ) (def : TableDef) (plan : Plan) (stop : Stop) (result : Result Reply Stop) (old new : List Call) → result ≡ Err stop → new ≡ Stopped AskMark stop ∷ old → OnTable defs n (PlanEnds def plan result) old new
no_mark defs n def plan stop result old new is told first plays =
    stays n (PlanEnds def plan result) (tables_of first old) (tables_of first new) (ap (tables_of first) told) (err_ends def plan stop result (table_at (tables_of first old) n).rows (table_at (tables_of first old) n).rows is)
