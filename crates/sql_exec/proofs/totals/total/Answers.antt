use Rattle.std.proofs.Common.{rules, arith, ◌≡◌, ◌∙◌, ◌++◌, ◌≤◌, ℤ, List, length, map, Err, refl, sym, ap, subst}
use Rattle.std.proofs.lemmas.List.{length-map}
use Rattle.key_space.specs.Plays.{Rows}
use Rattle.sql_check.specs.declared.plan.TotalPlan.{TotalPlan}
use Rattle.plain_model.specs.declared.reply.Reply.TheVariants as replies
use Rattle.plain_model.specs.declared.reply.Refusal.TheVariants as refusals
use Rattle.plain_model.specs.declared.stop.Stop.{Stop}
use Rattle.plain_model.specs.declared.stop.Stop.TheVariants.{OutOfMemory as NoMemory}
use Rattle.plain_model.specs.Meaning.{totals_reply}
use Rattle.sql_exec.specs.Bodies.{here}
use Rattle.sql_exec.specs.Selects.{GoesOver, sums_of}
use Rattle.sql_exec.proofs.Forward.{forward_since}
use Rattle.sql_exec.proofs.PieceLaws.{behind_is}
use Rattle.sql_exec.proofs.Reading.{never_goes_over, totals_end}
use Rattle.sql_exec.proofs.ReadLoops.{ReadSoFar, ends_reading, memory_ends, memory_ends_reading, no_more, none_read, piece_forward, read_whole, reads_on, stops_reading}
use Rattle.sql_exec.proofs.Summing.{written_back}
use Rattle.sql_exec.proofs.Totalling.{zero_of, zeros_are}
use Rattle.sql_exec.proofs.totals.total.Goals as goal

pub returns-in_err-sums-clause-read : goal.returns-in_err-sums-clause-read
returns-in_err-sums-clause-read g c =
    let is : c.from_residual.result ≡ Err NoMemory = search rules in
    memory_ends c.from_residual.result is here (no_more (g.R.RowCalls.calls c.args.rows.now))

pub loop-sums-init : goal.loop-sums-init
loop-sums-init g c =
    let p = c.args.p.now in
    let zeros : c.in_ok-sums.sums.items ≡ map zero_of p.totals = c.in_ok-sums.ensures ∙ ap (λ (ts : List TotalPlan). map zero_of ts) c.as_slice.ensures in
    record {
      schema = refl;
      len = ap length zeros ∙ length-map p.totals zero_of;
      so_far = none_read (g.R.RowCalls.defs c.args.rows.now) p.table c.args.range (λ rows. c.in_ok-sums.sums.items ≡ sums_of p rows) (g.R.RowCalls.calls c.args.rows.now) c.requires.can c.requires.range (zeros ∙ zeros_are p);
    }

pub returns-in_err-piece-clause-read : goal.returns-in_err-piece-clause-read
returns-in_err-piece-clause-read g c =
    let stop : Stop = c.in_err-piece.field-0.0 in
    let is : c.from_residual-in_err-piece.result ≡ Err stop = search rules in
    stops_reading c.loop-sums.invariant.so_far stop c.from_residual-in_err-piece.result is c.in_err-piece.ensures.told c.in_err-piece.ensures.cause

pub returns-then-not-add_rows-clause-read : goal.returns-then-not-add_rows-clause-read
returns-then-not-add_rows-clause-read g c =
    let calls = g.R.RowCalls.calls in
    let p = c.args.p.now in
    let so_far = c.loop-sums.invariant.so_far in
    let told = c.in_ok-piece.ensures.told in
    ends_reading so_far told (replies.Refused refusals.Range)
    (never_goes_over (g.R.RowCalls.defs c.args.rows.now) p.table c.args.range.lo.number c.loop-sums.rest.lo.number c.in_ok-piece.piece.upto.number c.in_ok-piece.piece.rows (calls c.args.rows.now) (calls c.loop-sums.rows) (calls c.chunk.new.self) told so_far.low c.in_ok-piece.ensures.low
    (forward_since _ _ so_far.forward) p c.loop-sums.sums.items (omega (arith, c.in_ok-piece.ensures.high, so_far.high, c.requires.ints c.args.range refl))
    (λ before e. subst (λ (l : Rows). GoesOver p (before ++ l)) c.as_slice-in-loop-sums.ensures (c.if-not-add_rows.ensures.over refl before (c.deref_mut.ensures.value ∙ e))) so_far.says _)

pub returns-in_err-totals_reply-clause-read : goal.returns-in_err-totals_reply-clause-read
returns-in_err-totals_reply-clause-read g c =
    let is : c.from_residual-in_err-totals_reply.result ≡ Err NoMemory = search rules in
    memory_ends_reading c.loop-sums.invariant.so_far c.in_ok-piece.ensures.told c.from_residual-in_err-totals_reply.result is

pub returns-in_default-clause-read : goal.returns-in_default-clause-read
returns-in_default-clause-read g c =
    let p = c.args.p.now in
    let so_far = c.loop-sums.invariant.so_far in
    let told = c.in_ok-piece.ensures.told in
    let sums : List ℤ = c.add_rows.new.sums in
    let whole = read_whole so_far told c.in_ok-piece.ensures.low (λ rows. sums ≡ sums_of p rows) (λ before e. c.if-not-add_rows.ensures.added refl before (c.deref_mut.ensures.value ∙ e) ∙ ap (λ (l : Rows). sums_of p (before ++ l)) c.as_slice-in-loop-sums.ensures) (c.behind.ensures.none c.in_default.is) in
    let len : length sums ≡ length c.loop-sums.sums.items = c.add_rows.ensures.len ∙ ap length c.deref_mut.ensures.value in
    let room : length c.loop-sums.sums.items ≤ c.loop-sums.sums.len = search rules in
    let back = written_back c.loop-sums.sums.len sums c.loop-sums.sums.items len room in
    let said : c.in_ok-totals_reply.field-0 ≡ totals_reply sums = c.in_ok-totals_reply.ensures ∙ ap totals_reply (c.deref.ensures.value ∙ back) in
    ends_reading so_far told c.in_ok-totals_reply.field-0
    (totals_end (g.R.RowCalls.defs c.args.rows.now) p c.args.range c.requires.kept (g.R.RowCalls.calls c.args.rows.now) (g.R.RowCalls.calls c.chunk.new.self) (forward_since _ _ (piece_forward so_far told)) sums c.in_ok-totals_reply.field-0 said whole)

pub loop-sums-preserved : goal.loop-sums-preserved
loop-sums-preserved g c =
    let p = c.args.p.now in
    let inv = c.loop-sums.invariant in
    let sums : List ℤ = c.add_rows.new.sums in
    let len : length sums ≡ length c.loop-sums.sums.items = c.add_rows.ensures.len ∙ ap length c.deref_mut.ensures.value in
    let room : length c.loop-sums.sums.items ≤ c.loop-sums.sums.len = search rules in
    let back = written_back c.loop-sums.sums.len sums c.loop-sums.sums.items len room in
    let behind = c.in-Some.more in
    record {
      schema = c.in_ok-piece.ensures.schema ∙ inv.schema;
      len = ap length back ∙ len ∙ inv.len;
      so_far = subst (λ (l : List ℤ). ReadSoFar (g.R.RowCalls.defs c.args.rows.now) p.table c.args.range behind (λ rows. l ≡ sums_of p rows) (g.R.RowCalls.calls c.args.rows.now) (g.R.RowCalls.calls c.chunk.new.self)) (sym back)
          (reads_on inv.so_far c.in_ok-piece.ensures.told c.in_ok-piece.ensures.low (λ rows. sums ≡ sums_of p rows) (λ before e. c.if-not-add_rows.ensures.added refl before (c.deref_mut.ensures.value ∙ e) ∙ ap (λ (l : Rows). sums_of p (before ++ l)) c.as_slice-in-loop-sums.ensures)
          behind (behind_is c.loop-sums.rest behind c.in_ok-piece.piece.upto.number (sym c.behind.ensures.value ∙ c.in-Some.is)));
    }
