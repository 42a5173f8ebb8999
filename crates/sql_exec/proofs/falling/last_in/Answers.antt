use Rattle.std.proofs.Common.{rules, ◌≡◌, ◌∙◌, ◌++◌, ◌<◌, Err, Option, refl, sym, ap, subst}
use Rattle.std.specs.Prelude.{IfSome}
use Rattle.key_space.specs.Plays.{Rows}
use Rattle.plain_model.specs.declared.stop.Stop.{Stop}
use Rattle.plain_model.specs.declared.stop.Stop.TheVariants.{OutOfMemory as NoMemory}
use Rattle.sql_exec.specs.declared.window.Width.{Width}
use Rattle.sql_exec.specs.declared.window.Window.TheVariants.{GivenUp, Whole}
use Rattle.sql_exec.specs.Windows.{last_shown}
use Rattle.sql_exec.proofs.Lasting.{last_none, same_width}
use Rattle.sql_exec.proofs.PieceLaws.{behind_is}
use Rattle.sql_exec.proofs.Reading.{reads_stop}
use Rattle.sql_exec.proofs.ReadLoops.{ends_reading, memory_ends_reading, none_read, piece_forward, piece_nothing, read_whole, reads_on, stops_reading}
use Rattle.sql_exec.proofs.falling.last_in.Goals as goal

pub loop-found-init : goal.loop-found-init
loop-found-init g c =
    let p = c.args.p.now in record {
      schema = refl;
      so_far = none_read (g.R.RowCalls.defs c.args.rows.now) p.table c.args.window (λ rows. c.new-found.result.items ≡ last_shown p c.args.wanted rows) (g.R.RowCalls.calls c.args.rows.now) c.requires.can c.requires.window
          (c.new-found.ensures.items ∙ last_none p c.args.wanted);
    }

pub returns-in_err-piece-clause-read : goal.returns-in_err-piece-clause-read
returns-in_err-piece-clause-read g c =
    let stop : Stop = c.in_err-piece.field-0.0 in
    let is : c.from_residual.result ≡ Err stop = search rules in
    stops_reading c.loop-found.invariant.so_far stop c.from_residual.result is c.in_err-piece.ensures.told c.in_err-piece.ensures.cause

pub returns-in_err-collect_last-clause-read : goal.returns-in_err-collect_last-clause-read
returns-in_err-collect_last-clause-read g c =
    let is : c.from_residual-in_err-collect_last.result ≡ Err NoMemory = search rules in
    memory_ends_reading c.loop-found.invariant.so_far c.in_ok-piece.ensures.told c.from_residual-in_err-collect_last.result is

pub returns-in_default-clause-read : goal.returns-in_default-clause-read
returns-in_default-clause-read g c =
    let p = c.args.p.now in
    let so_far = c.loop-found.invariant.so_far in
    let told = c.in_ok-piece.ensures.told in
    ends_reading so_far told (Whole c.collect_last.new.found)
    (read_whole so_far told c.in_ok-piece.ensures.low (λ rows. c.collect_last.new.found.items ≡ last_shown p c.args.wanted rows) c.in_ok-collect_last.ensures (c.behind.ensures.none c.in_default.is))

pub returns-in-Some-narrower-clause-read : goal.returns-in-Some-narrower-clause-read
returns-in-Some-narrower-clause-read g c =
    let so_far = c.loop-found.invariant.so_far in
    let told = c.in_ok-piece.ensures.told in
    ends_reading so_far told (GivenUp c.in-Some-narrower.next)
    (reads_stop (g.R.RowCalls.defs c.args.rows.now) c.args.p.now.table _ (g.R.RowCalls.calls c.args.rows.now) (g.R.RowCalls.calls c.chunk.new.self) (piece_forward so_far told) (piece_nothing so_far told) (λ r. (tt, refl)))

pub returns-in-Some-narrower-clause-given_up : goal.returns-in-Some-narrower-clause-given_up
returns-in-Some-narrower-clause-given_up g c = λ next e.
    let less : c.in-Some-narrower.next.halvings < c.args.width.halvings = subst (λ (o : Option Width). IfSome o (λ (w : Width). w.halvings < c.args.width.halvings)) c.in-Some-narrower.is c.narrower.ensures in
    subst (λ (w : Width). w.halvings < c.args.width.halvings) (same_width c.in-Some-narrower.next next e) less

pub loop-found-preserved : goal.loop-found-preserved
loop-found-preserved g c =
    let p = c.args.p.now in
    let so_far = c.loop-found.invariant.so_far in
    let behind = c.in-Some.more in record {
      schema = c.in_ok-piece.ensures.schema ∙ c.loop-found.invariant.schema;
      so_far = reads_on so_far c.in_ok-piece.ensures.told c.in_ok-piece.ensures.low (λ rows. c.collect_last.new.found.items ≡ last_shown p c.args.wanted rows) c.in_ok-collect_last.ensures
          behind (behind_is c.loop-found.rest behind c.in_ok-piece.piece.upto.number (sym c.behind.ensures.value ∙ c.in-Some.is));
    }
