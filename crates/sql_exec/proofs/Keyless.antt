-- A statement that is about no key.
use Rattle.std.proofs.Common.{◌≡◌, Bool, true, false, if◌then◌else◌, ℤ, List, [], ◌∷◌, map, Result, Ok, Err, sym, subst}
use Rattle.std.specs.Prelude.{IfErr, IfOk}
use Rattle.std.specs.List.{list_all}
use Rattle.row_types.specs.declared.row.Value.TheVariants as values
use Rattle.sql_check.specs.declared.plan.Plan.{Plan}
use Rattle.sql_check.specs.declared.plan.Plan.TheVariants as plans
use Rattle.plain_model.specs.declared.reply.Reply.{Reply}
use Rattle.plain_model.specs.declared.reply.Reply.TheVariants as replies
use Rattle.plain_model.specs.declared.reply.Refusal.TheVariants.{Range}
use Rattle.plain_model.specs.declared.stop.Stop.{Stop}
use Rattle.plain_model.specs.declared.stop.Stop.TheVariants as stops
use Rattle.plain_model.specs.Values.{fits_int}
use Rattle.sql_exec.specs.Bodies.{RepliesWithoutKeys}
use Rattle.sql_exec.specs.Means.{IsNoLackReply, IsOwn}
use Rattle.sql_exec.specs.Selects.{sums_of}

total_lacks_nothing : (fit : Bool) (numbers : List ℤ) → IsNoLackReply (if fit then replies.Rows (map values.Int numbers ∷ []) else replies.Refused Range)
total_lacks_nothing true numbers = tt
total_lacks_nothing false numbers = tt

lacks_nothing : (plan : Plan) (reply : Reply) → RepliesWithoutKeys plan reply → IsNoLackReply reply
lacks_nothing (plans.Insert p) reply is = subst IsNoLackReply (sym is) tt
lacks_nothing (plans.Select p) reply is = subst IsNoLackReply (sym is) tt
lacks_nothing (plans.Totals p) reply is = subst IsNoLackReply (sym is) (total_lacks_nothing (list_all fits_int (sums_of p [])) (sums_of p []))
lacks_nothing (plans.Update p) reply is = subst IsNoLackReply (sym is) tt
lacks_nothing (plans.Delete p) reply is = subst IsNoLackReply (sym is) tt
lacks_nothing plans.Create reply is = subst IsNoLackReply (sym is) tt
lacks_nothing plans.Begin reply is = subst IsNoLackReply (sym is) tt
lacks_nothing plans.Commit reply is = subst IsNoLackReply (sym is) tt
lacks_nothing plans.Rollback reply is = subst IsNoLackReply (sym is) tt

pub is_own : (plan : Plan) (result : Result Reply Stop) → IfOk result (RepliesWithoutKeys plan) → IfErr result (λ stop. stop ≡ stops.OutOfMemory) → IsOwn result
is_own plan (Ok reply) is memory = lacks_nothing plan reply is
is_own plan (Err stop) is memory = memory
