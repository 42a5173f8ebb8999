use Rattle.std.proofs.Common.{rules, arith, ◌≡◌, ◌∙◌, ◌+◌, ◌-◌, ◌≤◌, List, Err, Ok, length, refl, sym, ap, subst}
use Rattle.std.specs.Prelude.{IfSome}
use Rattle.std.proofs.lemmas.Bool.{eqb-true, eqb-false}
use Rattle.row_types.specs.declared.definition.TableDef.{TableDef}
use Rattle.row_types.specs.Schema.{keys_at}
use Rattle.key_space.specs.declared.key.Key.{Key}
use Rattle.key_space.specs.Plays.{Rows}
use Rattle.plain_model.specs.declared.stop.Stop.{Stop}
use Rattle.plain_model.specs.declared.stop.Stop.TheVariants.{OutOfMemory as NoMemory}
use Rattle.plain_model.specs.CallPlays.{tables_of}
use Rattle.plain_model.specs.Meaning.{table_at}
use Rattle.sql_exec.specs.Acts.{rows_in}
use Rattle.sql_exec.specs.declared.window.Part.{Part}
use Rattle.sql_exec.specs.Bodies.{here}
use Rattle.sql_exec.specs.Parts.{Reads}
use Rattle.sql_exec.specs.Plays.{OnTable}
use Rattle.sql_exec.specs.Windows.{FoundLast, last_shown}
use Rattle.sql_exec.proofs.Forward.{forward_on, forward_since}
use Rattle.sql_exec.proofs.Lasting.{last_none, last_whole, window_read}
use Rattle.sql_exec.proofs.OneTable.{stays}
use Rattle.sql_exec.proofs.PieceLaws.{none_from}
use Rattle.sql_exec.proofs.ReadLoops.{can_later, can_within, memory_ends, no_more, nothing_on, stops_on}
use Rattle.sql_exec.proofs.falling.last_found.Goals as goal

pub loop-wanted-init : goal.loop-wanted-init
loop-wanted-init g c =
    let calls = g.R.RowCalls.calls c.args.rows.now in
    let defs = g.R.RowCalls.defs c.args.rows.now in
    let p = c.args.p.now in
    let n = p.table in
    let end = c.args.range.hi.number + 1 in
    let limit = c.args.limit in
    let marks = keys_at defs n in
    record {
      schema = refl;
      forward = here;
      sent = no_more calls;
      can = c.requires.can;
      low = refl;
      some = c.requires.range;
      high = omega arith;
      says = λ first plays. stays n (λ r s. (c.new-found.result.items ≡ last_shown p limit (rows_in marks end end r)) × (s ≡ r)) (tables_of first calls) (tables_of first calls) refl
          (c.new-found.ensures.items ∙ last_none p limit ∙ sym (ap (last_shown p limit) (none_from marks end (table_at (tables_of first calls) n).rows)), refl);
    }

pub returns-in_default-clause-read : goal.returns-in_default-clause-read
returns-in_default-clause-read g c =
    let p = c.args.p.now in
    let limit = c.args.limit in
    let range = c.args.range in
    let rest = c.loop-wanted.rest in
    let start = g.R.RowCalls.calls c.args.rows.now in
    let old = g.R.RowCalls.calls c.loop-wanted.rows in
    let inv = c.loop-wanted.invariant in
    let found : Rows = c.loop-wanted.found.items in
    let many : limit ≤ length found = subst (λ (l : Rows). limit ≤ length l) c.as_slice.ensures.value (c.still_wanted.ensures.none c.in_default.is) in
    record {
      forward = inv.forward;
      sent = inv.sent;
      runs = inv.can.0;
      end = tt;
      says = last_whole (g.R.RowCalls.defs c.args.rows.now) p.table p limit found start old old range.lo.number (rest.hi.number + 1) (range.hi.number + 1) (omega (arith, inv.low, inv.some)) (omega (arith, inv.high)) many (forward_since start old inv.forward) inv.says;
    }

pub last_part-requires-clause-can : goal.last_part-requires-clause-can
last_part-requires-clause-can g c =
    let range = c.args.range in
    let rest = c.loop-wanted.rest in
    let inv = c.loop-wanted.invariant in
    can_within (g.R.RowCalls.calls c.loop-wanted.rows) c.args.p.now.table range.lo.number range.hi.number rest.lo.number rest.hi.number (omega (arith, inv.low)) inv.high inv.can

pub returns-in_err-part-clause-read : goal.returns-in_err-part-clause-read
returns-in_err-part-clause-read g c =
    let p = c.args.p.now in
    let stop : Stop = c.in_err-part.field-0.0 in
    let is : c.from_residual.result ≡ Err stop = search rules in
    let inv = c.loop-wanted.invariant in
    stops_on stop c.from_residual.result is inv.forward inv.sent
    (subst (λ (ds : List TableDef). Reads ds p.table (λ (part : Part). FoundLast (keys_at ds p.table) part.window p c.in-Some.wanted part.found.items) (g.R.RowCalls.calls c.loop-wanted.rows) (Err stop) (g.R.RowCalls.calls c.last_part.new.rows)) inv.schema c.in_err-part.ensures.read)

pub returns-in_err-add-clause-read : goal.returns-in_err-add-clause-read
returns-in_err-add-clause-read g c =
    let calls = g.R.RowCalls.calls in
    let start = calls c.args.rows.now in
    let old = calls c.loop-wanted.rows in
    let new = calls c.last_part.new.rows in
    let inv = c.loop-wanted.invariant in
    let read = c.in_ok-part.ensures.read in
    let is : c.from_residual-in_err-add.result ≡ Err NoMemory = search rules in
    memory_ends c.from_residual-in_err-add.result is (forward_on start old new inv.forward read.forward) (nothing_on start old new inv.sent read.sent)

pub returns-then-eq-clause-read : goal.returns-then-eq-clause-read
returns-then-eq-clause-read g c =
    let calls = g.R.RowCalls.calls in
    let defs = g.R.RowCalls.defs c.args.rows.now in
    let p = c.args.p.now in
    let n = p.table in
    let limit = c.args.limit in
    let marks = keys_at defs n in
    let range = c.args.range in
    let start = calls c.args.rows.now in
    let old = calls c.loop-wanted.rows in
    let new = calls c.last_part.new.rows in
    let inv = c.loop-wanted.invariant in
    let found : Rows = c.loop-wanted.found.items in
    let window = c.in_ok-part.part.window in
    let facts : (c.in-Some.wanted ≡ limit - length found) × (1 ≤ c.in-Some.wanted) = subst (λ o. IfSome o (λ w. (w ≡ limit - length found) × (1 ≤ w))) c.in-Some.is (subst (λ (l : Rows). IfSome c.still_wanted.result (λ w. (w ≡ limit - length l) × (1 ≤ w))) c.as_slice.ensures.value c.still_wanted.ensures.some) in
    let read = subst (λ (ds : List TableDef). Reads ds n (λ (part : Part). FoundLast (keys_at ds n) part.window p c.in-Some.wanted part.found.items) old (Ok c.in_ok-part.part) new) inv.schema c.in_ok-part.ensures.read in
    let more = window_read p limit c.in-Some.wanted found c.in_ok-part.part.found.items window (c.loop-wanted.rest.hi.number + 1) (range.hi.number + 1) inv.forward read.forward inv.says read.says c.in_ok-part.ensures.some (ap (λ (k : Key). k.number + 1) c.in_ok-part.ensures.high) (omega (arith, inv.high)) facts in
    let last : window.lo.number ≡ range.lo.number = eqb-true window.lo.number c.loop-wanted.rest.lo.number (sym c.eq.ensures ∙ c.if-eq.true) ∙ inv.low in
    record {
      forward = forward_on start old new inv.forward read.forward;
      sent = nothing_on start old new inv.sent read.sent;
      runs = read.runs;
      end = tt;
      says = subst (λ lo. OnTable defs n (λ r s. (c.add.new.found.items ≡ last_shown p limit (rows_in marks lo (range.hi.number + 1) r)) × (s ≡ r)) start new) last
          (subst (λ (l : Rows). OnTable defs n (λ r s. (l ≡ last_shown p limit (rows_in marks window.lo.number (range.hi.number + 1) r)) × (s ≡ r)) start new) (sym c.in_ok-add.ensures) more);
    }

pub loop-wanted-smaller : goal.loop-wanted-smaller
loop-wanted-smaller g c =
    let window = c.in_ok-part.part.window in
    let rest = c.loop-wanted.rest in
    omega (arith, c.in_ok-part.ensures.low, c.in_ok-part.ensures.some, ap (λ (k : Key). k.number) c.in_ok-part.ensures.high, eqb-false window.lo.number rest.lo.number (sym c.eq.ensures ∙ c.if-eq.false))

pub loop-wanted-preserved : goal.loop-wanted-preserved
loop-wanted-preserved g c =
    let calls = g.R.RowCalls.calls in
    let defs = g.R.RowCalls.defs c.args.rows.now in
    let p = c.args.p.now in
    let n = p.table in
    let limit = c.args.limit in
    let marks = keys_at defs n in
    let range = c.args.range in
    let start = calls c.args.rows.now in
    let old = calls c.loop-wanted.rows in
    let new = calls c.last_part.new.rows in
    let inv = c.loop-wanted.invariant in
    let found : Rows = c.loop-wanted.found.items in
    let window = c.in_ok-part.part.window in
    let facts : (c.in-Some.wanted ≡ limit - length found) × (1 ≤ c.in-Some.wanted) = subst (λ o. IfSome o (λ w. (w ≡ limit - length found) × (1 ≤ w))) c.in-Some.is (subst (λ (l : Rows). IfSome c.still_wanted.result (λ w. (w ≡ limit - length l) × (1 ≤ w))) c.as_slice.ensures.value c.still_wanted.ensures.some) in
    let read = subst (λ (ds : List TableDef). Reads ds n (λ (part : Part). FoundLast (keys_at ds n) part.window p c.in-Some.wanted part.found.items) old (Ok c.in_ok-part.part) new) inv.schema c.in_ok-part.ensures.read in
    let high = ap (λ (k : Key). k.number) c.in_ok-part.ensures.high in
    let more = window_read p limit c.in-Some.wanted found c.in_ok-part.part.found.items window (c.loop-wanted.rest.hi.number + 1) (range.hi.number + 1) inv.forward read.forward inv.says read.says c.in_ok-part.ensures.some (ap (λ (k : Key). k.number + 1) c.in_ok-part.ensures.high) (omega (arith, inv.high)) facts in
    let low = c.in_ok-part.ensures.low in
    let other = eqb-false window.lo.number c.loop-wanted.rest.lo.number (sym c.eq.ensures ∙ c.if-eq.false) in
    let back : window.lo.number ≡ window.lo.number - 1 + 1 = omega (arith, low, other) in
    record {
      schema = c.last_part.ensures.schema ∙ inv.schema;
      forward = forward_on start old new inv.forward read.forward;
      sent = nothing_on start old new inv.sent read.sent;
      can = can_later old new n range.lo.number range.hi.number read.forward read.runs inv.can;
      low = inv.low;
      some = omega (arith, low, other);
      high = omega (arith, c.in_ok-part.ensures.some, high, inv.high);
      says = subst (λ mid. OnTable defs n (λ r s. (c.add.new.found.items ≡ last_shown p limit (rows_in marks mid (range.hi.number + 1) r)) × (s ≡ r)) start new) back
          (subst (λ (l : Rows). OnTable defs n (λ r s. (l ≡ last_shown p limit (rows_in marks window.lo.number (range.hi.number + 1) r)) × (s ≡ r)) start new) (sym c.in_ok-add.ensures) more);
    }
