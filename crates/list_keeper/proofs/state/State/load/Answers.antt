use Rattle.std.proofs.Common.{Option, subst}
use Rattle.std.specs.Prelude.{ℕ}
use Rattle.call_log.specs.History.{settled}
use Rattle.call_log.specs.Played.{empty_tables}
use Rattle.txn_rows.specs.Rows.{IsLoaded}
use Rattle.list_keeper.specs.Kept.{defs_in}
use Rattle.list_keeper.proofs.Left.{idle, was_loaded}
use Rattle.list_keeper.proofs.state.State.load.Goals as goal

pub returns-in-None-clause-kept : goal.returns-in-None-clause-kept
returns-in-None-clause-kept c = λ calls kept.
    let s = c.args.self in
    let tables = settled (empty_tables (defs_in s)) calls in
    let before = idle s.rows s.running s.bytes s.number calls c.requires.idle kept in
    let played = c.in_ok-index.ensures.played _ _ before in
    was_loaded s.rows c.load.new.self s.running s.bytes s.number calls c.load.ensures.defs kept
    c.args.len c.args.batch c.requires.idle c.requires.some c.requires.fit c.requires.len c.requires.room
    (subst (λ (end : Option ℕ). IsLoaded c.load.new.self tables c.args.batch end) c.in-None.is played)
