use Rattle.std.proofs.Common.{rules, arith, ◌≡◌, ◌∙◌, ◌++◌, Err, refl, sym, ap, length}
use Rattle.key_space.specs.Plays.{Rows}
use Rattle.plain_model.specs.declared.stop.Stop.TheVariants.{OutOfMemory as NoMemory}
use Rattle.plain_model.specs.declared.stop.Stop.{Stop}
use Rattle.sql_exec.specs.Selects.{shown_of}
use Rattle.sql_exec.proofs.PieceLaws.{behind_is}
use Rattle.sql_exec.proofs.Reading.{enough_found, on_ordered}
use Rattle.sql_exec.proofs.ReadLoops.{ends_reading, memory_ends_reading, none_read, piece_forward, read_piece, read_whole, reads_on, stops_reading}
use Rattle.sql_exec.proofs.Showing.{enough, shown_none}
use Rattle.sql_exec.proofs.Forward.{forward_since}
use Rattle.sql_exec.proofs.select.found_in.Goals as goal

pub loop-found-init : goal.loop-found-init
loop-found-init g c =
    let p = c.args.p.now in record {
      schema = refl;
      so_far = none_read (g.R.RowCalls.defs c.args.rows.now) p.table c.args.range (λ rows. c.new-found.result.items ≡ shown_of p c.args.wanted rows) (g.R.RowCalls.calls c.args.rows.now) c.requires.can c.requires.range
          (c.new-found.ensures.items ∙ sym (shown_none p c.args.wanted));
    }

pub returns-in_err-piece-clause-read : goal.returns-in_err-piece-clause-read
returns-in_err-piece-clause-read g c =
    let stop : Stop = c.in_err-piece.field-0.0 in
    let is : c.from_residual.result ≡ Err stop = search rules in
    stops_reading c.loop-found.invariant.so_far stop c.from_residual.result is c.in_err-piece.ensures.told c.in_err-piece.ensures.cause

pub returns-in_err-collect-clause-read : goal.returns-in_err-collect-clause-read
returns-in_err-collect-clause-read g c =
    let is : c.from_residual-in_err-collect.result ≡ Err NoMemory = search rules in
    memory_ends_reading c.loop-found.invariant.so_far c.in_ok-piece.ensures.told c.from_residual-in_err-collect.result is

pub returns-in_default-clause-read : goal.returns-in_default-clause-read
returns-in_default-clause-read g c =
    let p = c.args.p.now in
    let so_far = c.loop-found.invariant.so_far in
    let told = c.in_ok-piece.ensures.told in
    ends_reading so_far told c.collect.new.found
    (read_whole so_far told c.in_ok-piece.ensures.low (λ rows. c.collect.new.found.items ≡ shown_of p c.args.wanted rows) c.in_ok-collect.ensures (c.behind.ensures.none c.in_default.is))

pub returns-then-is_enough-clause-read : goal.returns-then-is_enough-clause-read
returns-then-is_enough-clause-read g c =
    let defs = g.R.RowCalls.defs c.args.rows.now in
    let p = c.args.p.now in
    let range = c.args.range in
    let so_far = c.loop-found.invariant.so_far in
    let told = c.in_ok-piece.ensures.told in
    let upto = c.in_ok-piece.piece.upto.number in
    let found : Rows = c.collect.new.found.items in
    let asked : c.is_enough.result ≡ enough c.args.wanted (length found) = search rules in
    let more = read_piece so_far told c.in_ok-piece.ensures.low (λ rows. found ≡ shown_of p c.args.wanted rows) c.in_ok-collect.ensures in
    ends_reading so_far told c.collect.new.found
    (on_ordered defs p.table _ _ (g.R.RowCalls.calls c.args.rows.now) (g.R.RowCalls.calls c.chunk.new.self) (forward_since _ _ (piece_forward so_far told))
    (λ r order e. enough_found defs p.table range.lo.number upto range.hi.number p c.args.wanted found r (omega (arith, so_far.low, c.in_ok-piece.ensures.low)) (omega (arith, c.in_ok-piece.ensures.high, so_far.high)) order e (sym asked ∙ c.if-is_enough.true)) more)

pub loop-found-preserved : goal.loop-found-preserved
loop-found-preserved g c =
    let p = c.args.p.now in
    let so_far = c.loop-found.invariant.so_far in
    let behind = c.in-Some.more in record {
      schema = c.in_ok-piece.ensures.schema ∙ c.loop-found.invariant.schema;
      so_far = reads_on so_far c.in_ok-piece.ensures.told c.in_ok-piece.ensures.low (λ rows. c.collect.new.found.items ≡ shown_of p c.args.wanted rows) c.in_ok-collect.ensures
          behind (behind_is c.loop-found.rest behind c.in_ok-piece.piece.upto.number (sym c.behind.ensures.value ∙ c.in-Some.is));
    }
