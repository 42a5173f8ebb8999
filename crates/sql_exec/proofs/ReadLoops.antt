-- What a loop that reads a range piece by piece knows, and what its exits come to.
use Rattle.std.proofs.Common.{arith, ◌≡◌, ◌∙◌, ◌+◌, ◌≤◌, ◌∷◌, ◌++◌, ℕ, List, [], Result, Ok, Err, IsTrue, inl, refl, sym, ap, subst}
use Rattle.row_types.specs.declared.definition.TableDef.{TableDef}
use Rattle.row_types.specs.Schema.{keys_at}
use Rattle.key_space.specs.declared.range.Range.{Range}
use Rattle.key_space.specs.Plays.{Part, Rows}
use Rattle.key_space.specs.Ranges.{IsNotEmpty}
use Rattle.sql_check.specs.Columns.{def_at}
use Rattle.sql_check.specs.declared.plan.Plan.{Plan}
use Rattle.plain_model.specs.declared.reply.Reply.{Reply}
use Rattle.plain_model.specs.declared.stop.Stop.{Stop}
use Rattle.plain_model.specs.declared.stop.Stop.TheVariants as stops
use Rattle.plain_model.specs.Calls.{AskChunk, Call, Did, MayGive, Stopped, is_running}
use Rattle.plain_model.specs.CallPlays.{tables_of}
use Rattle.plain_model.specs.Meaning.{table_at}
use Rattle.sql_exec.specs.Acts.{rows_in}
use Rattle.sql_exec.specs.Bodies.{CanRead, OnlyForward, PlanEnds, here}
use Rattle.sql_exec.specs.Parts.{PlanReplies, Reads}
use Rattle.sql_exec.specs.Plays.{OnTable}
use Rattle.sql_exec.specs.Sends.{SendsNothing}
use Rattle.sql_exec.proofs.Forward.{forward_on, forward_since}
use Rattle.sql_exec.proofs.OneTable.{on_after, on_weaker, stays}
use Rattle.sql_exec.proofs.PieceLaws.{none_from}
use Rattle.sql_exec.proofs.Playing.{read_since}
use Rattle.sql_exec.proofs.Reading.{chunk_stops, read_can, read_forward, read_nothing, read_on, read_runs, reads_stop, stopped_forward, stopped_nothing}

pub no_more : (calls : List Call) → SendsNothing calls calls
no_more calls = record { put = refl; taken = refl }

pub nothing_on : (a b c : List Call) → SendsNothing a b → SendsNothing b c → SendsNothing a c
nothing_on a b c first next = record { put = next.put ∙ first.put; taken = next.taken ∙ first.taken }

-- memory ran out behind what was read
pub memory_ends : {T : Type 0} {defs : List TableDef} {n : ℕ} {Says : T → Rows → Type 0} {old new : List Call} (result : Result T Stop) → result ≡ Err stops.OutOfMemory → OnlyForward old new → SendsNothing old new → Reads defs n Says old result new
memory_ends {defs = defs} {n = n} {Says = Says} {old = old} {new = new} result is forward sent = subst (λ r. Reads defs n Says old r new) (sym is) (record {
  forward = forward;
  sent = sent;
  runs = tt;
  end = record { cause = inl refl; kind = tt };
  says = tt;
})

-- what is read behind what was read stopped
pub stops_on : {T U : Type 0} {defs : List TableDef} {n : ℕ} {Says : T → Rows → Type 0} {Other : U → Rows → Type 0} {old mid new : List Call} (stop : Stop) (result : Result T Stop) → result ≡ Err stop → OnlyForward old mid → SendsNothing old mid
    → Reads defs n Other mid (Err stop) new → Reads defs n Says old result new
stops_on {defs = defs} {n = n} {Says = Says} {old = old} {mid = mid} {new = new} stop result is forward sent read = subst (λ r. Reads defs n Says old r new) (sym is) (record {
  forward = forward_on old mid new forward read.forward;
  sent = nothing_on old mid new sent read.sent;
  runs = tt;
  end = read.end;
  says = tt;
})

pub reads_weaker : {T : Type 0} {defs : List TableDef} {n : ℕ} {old new : List Call} (First Next : T → Rows → Type 0) → ((found : T) (rows : Rows) → First found rows → Next found rows) → (result : Result T Stop) → Reads defs n First old result new
    → Reads defs n Next old result new
reads_weaker {defs = defs} {n = n} {old = old} {new = new} First Next more (Ok found) read = record {
  forward = read.forward;
  sent = read.sent;
  runs = read.runs;
  end = tt;
  says = on_weaker defs n (λ r s. First found r × (s ≡ r)) (λ r s. Next found r × (s ≡ r)) old new (λ r s f. (more found r f.0, f.1)) read.says;
}
reads_weaker First Next more (Err stop) read = record { forward = read.forward; sent = read.sent; runs = tt; end = read.end; says = tt }

-- what is read behind calls that only read is said of the rows at their start
pub says_after : {T : Type 0} {defs : List TableDef} {n : ℕ} {start old new : List Call} (Says : T → Rows → Type 0) (found : T) → OnlyForward start old → SendsNothing start old → Reads defs n Says old (Ok found) new
    → OnTable defs n (λ r s. Says found r × (s ≡ r)) start new
says_after {defs = defs} {n = n} {start = start} {old = old} {new = new} Says found forward sent read =
    on_after defs n (λ r s. s ≡ r) (λ r s. Says found r × (s ≡ r)) (λ r s. Says found r × (s ≡ r)) start old new (forward_since old new read.forward)
    (λ r s t f e. (subst (Says found) f e.0, e.1 ∙ f)) (reads_stop defs n (λ r s. s ≡ r) start old forward sent (λ r. refl)) read.says

-- a plan that was read ends so
pub plan_read : {defs : List TableDef} {n : ℕ} {old new : List Call} (plan : Plan) (result : Result Reply Stop) → Reads defs n (PlanReplies (def_at defs n) plan) old result new → OnTable defs n (PlanEnds (def_at defs n) plan result) old new
plan_read {defs = defs} {n = n} {old = old} {new = new} plan (Ok reply) read =
    on_weaker defs n (λ r s. PlanReplies (def_at defs n) plan reply r × (s ≡ r)) (PlanEnds (def_at defs n) plan (Ok reply)) old new (λ r s f. inl (f.0 ∙ ap (λ (l : Rows). (reply, l)) (sym f.1))) read.says
plan_read {defs = defs} {n = n} {old = old} {new = new} plan (Err stop) read = reads_stop defs n (PlanEnds (def_at defs n) plan (Err stop)) old new read.forward read.sent (λ r. tt)

-- the rows of a range below its rest were read, and this is said of them
pub record ReadSoFar (defs : List TableDef) (n : ℕ) (range rest : Range) (Says : Rows → Type 0) (start now : List Call) : Type 0 where
  pub forward : OnlyForward start now
  pub sent : SendsNothing start now
  pub can : CanRead now n rest.lo.number rest.hi.number
  pub low : range.lo.number ≤ rest.lo.number
  pub some : IsNotEmpty rest
  pub high : rest.hi.number ≡ range.hi.number
  pub says : OnTable defs n (λ r s. Says (rows_in (keys_at defs n) range.lo.number rest.lo.number r) × (s ≡ r)) start now

pub none_read : (defs : List TableDef) (n : ℕ) (range : Range) (Says : Rows → Type 0) (calls : List Call) → CanRead calls n range.lo.number range.hi.number → IsNotEmpty range → Says [] → ReadSoFar defs n range range Says calls calls
none_read defs n range Says calls can some none = record {
  forward = here;
  sent = no_more calls;
  can = can;
  low = omega arith;
  some = some;
  high = refl;
  says = λ first plays. stays n (λ r s. Says (rows_in (keys_at defs n) range.lo.number range.lo.number r) × (s ≡ r)) (tables_of first calls) (tables_of first calls) refl
      (subst Says (sym (none_from (keys_at defs n) range.lo.number (table_at (tables_of first calls) n).rows)) none, refl);
}

module _ {defs : List TableDef} {n : ℕ} {range rest : Range} {Says : Rows → Type 0} {start old new : List Call} (so_far : ReadSoFar defs n range rest Says start old) where
  pub stops_reading : {T : Type 0} {Ends : T → Rows → Type 0} (stop : Stop) (result : Result T Stop) → result ≡ Err stop → new ≡ Stopped (AskChunk n rest) stop ∷ old → MayGive (AskChunk n rest) stop → Reads defs n Ends start result new
  stops_reading {T = T} {Ends = Ends} stop result is told may = subst (λ (r : Result T Stop). Reads defs n Ends start r new) (sym is) (record {
    forward = stopped_forward n rest stop start old new so_far.forward told;
    sent = stopped_nothing n rest stop start old new so_far.sent told;
    runs = tt;
    end = chunk_stops n rest stop old new so_far.can.0 told may;
    says = tt;
  })

  module _ {upto : ℕ} {list : Rows} (told : new ≡ Did (Part n rest.lo.number upto list) ∷ old) where
    pub piece_forward : OnlyForward start new
    piece_forward = read_forward n rest.lo.number upto list start old new told so_far.forward

    pub piece_nothing : SendsNothing start new
    piece_nothing = read_nothing n rest.lo.number upto list start old new told so_far.sent

    pub memory_ends_reading : {T : Type 0} {Ends : T → Rows → Type 0} (result : Result T Stop) → result ≡ Err stops.OutOfMemory → Reads defs n Ends start result new
    memory_ends_reading result is = memory_ends result is piece_forward piece_nothing

    pub ends_reading : {T : Type 0} {Ends : T → Rows → Type 0} (found : T) → OnTable defs n (λ r s. Ends found r × (s ≡ r)) start new → Reads defs n Ends start (Ok found) new
    ends_reading found says = record {
      forward = piece_forward;
      sent = piece_nothing;
      runs = read_runs n rest.lo.number upto list start old new told so_far.can.0;
      end = tt;
      says = says;
    }

    module _ (up : rest.lo.number ≤ upto) (Next : Rows → Type 0) (step : (before : Rows) → Says before → Next (before ++ list)) where
      pub read_piece : OnTable defs n (λ r s. Next (rows_in (keys_at defs n) range.lo.number (upto + 1) r) × (s ≡ r)) start new
      read_piece =
          let marks = keys_at defs n in
          read_on n rest.lo.number upto list start old new told defs range.lo.number so_far.low up (forward_since start old so_far.forward) (λ r. Says (rows_in marks range.lo.number rest.lo.number r)) (λ r. Next (rows_in marks range.lo.number (upto + 1) r))
          (λ r order split e. subst Next (sym split) (step (rows_in marks range.lo.number rest.lo.number r) e)) so_far.says

      pub read_whole : upto ≡ rest.hi.number → OnTable defs n (λ r s. Next (rows_in (keys_at defs n) range.lo.number (range.hi.number + 1) r) × (s ≡ r)) start new
      read_whole last = subst (λ hi. OnTable defs n (λ r s. Next (rows_in (keys_at defs n) range.lo.number (hi + 1) r) × (s ≡ r)) start new) (last ∙ so_far.high) read_piece

      pub reads_on : (behind : Range) → (behind.lo.number ≡ upto + 1) × (behind.hi.number ≡ rest.hi.number) × (upto + 1 ≤ rest.hi.number) → ReadSoFar defs n range behind Next start new
      reads_on behind is = record {
        forward = piece_forward;
        sent = piece_nothing;
        can = read_can n rest.lo.number upto list start old new told rest.lo.number rest.hi.number behind.lo.number behind.hi.number (omega (arith, up, is.0)) (omega (arith, is.1)) so_far.can;
        low = omega (arith, so_far.low, up, is.0);
        some = omega (arith, is.0, is.1, is.2);
        high = is.1 ∙ so_far.high;
        says = subst (λ mid. OnTable defs n (λ r s. Next (rows_in (keys_at defs n) range.lo.number mid r) × (s ≡ r)) start new) (sym is.0) read_piece;
      }

-- a part of the keys that may be looked up
pub can_within : (calls : List Call) (n lo hi from to : ℕ) → lo ≤ from → to ≤ hi → CanRead calls n lo hi → CanRead calls n from to
can_within calls n lo hi from to up down can = (can.0, record { table_is = can.1.table_is; locked = λ key low high. can.1.locked key (omega (arith, up, low)) (omega (arith, down, high)) })

pub can_later : (old new : List Call) (n lo hi : ℕ) → OnlyForward old new → IsTrue (is_running new) → CanRead old n lo hi → CanRead new n lo hi
can_later old new n lo hi forward runs can = (runs, read_since old new n lo hi (forward_since old new forward) can.1)
