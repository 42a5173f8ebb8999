use Rattle.std.proofs.Common.{sym, ◌∙◌}
use Rattle.call_log.specs.History.{last_batch}
use Rattle.list_keeper.proofs.Left.{idle, no_changes, none_forced}
use Rattle.list_keeper.specs.Kept.{defs_in}
use Rattle.list_keeper.proofs.state.State.force.Goals as goal

pub returns-then-batch_len-eq0-clause-kept : goal.returns-then-batch_len-eq0-clause-kept
returns-then-batch_len-eq0-clause-kept g c = λ calls kept.
    let s = c.args.self.now in
    let before = idle s.rows s.running s.bytes s.number calls c.requires.idle kept in
    let none = no_changes (defs_in s) (last_batch calls) (sym (c.batch_len.ensures _ _ before) ∙ c.if-batch_len-eq0.true) in
    none_forced s.rows s.running s.bytes s.number calls c.requires.idle kept none

pub returns-then-batch_len-eq0-clause-forced : goal.returns-then-batch_len-eq0-clause-forced
returns-then-batch_len-eq0-clause-forced g c = λ calls kept some.
    let s = c.args.self.now in
    let before = idle s.rows s.running s.bytes s.number calls c.requires.idle kept in
    absurd (some (no_changes (defs_in s) (last_batch calls) (sym (c.batch_len.ensures _ _ before) ∙ c.if-batch_len-eq0.true)))

pub returns-clause-forced : goal.returns-clause-forced
returns-clause-forced g c = λ calls kept some.
    let s = c.args.self.now in
    c.force.ensures.forced _ _ (idle s.rows s.running s.bytes s.number calls c.requires.idle kept)
