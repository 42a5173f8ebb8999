use Rattle.std.proofs.Common.{◌≤◌, ℕ, List, length, sym, subst, ◌∙◌, ap}
use Rattle.lane_format.specs.Lane.{body_of}
use Rattle.op_log.specs.Changes.{body_text}
use Rattle.txn_rows.proofs.Ends.{frame_some, some_frame}
use Rattle.txn_rows.proofs.Forcing.{forces}
use Rattle.txn_rows.proofs.rows.TxnRows.force.Goals as goal

pub force-forced-requires-clause-room : goal.force-forced-requires-clause-room
force-forced-requires-clause-room g c =
    let r = c.requires.batch in
    subst (λ (bs : List ℕ). 6 ≤ length bs) (sym c.deref_mut.ensures.value) (frame_some c.args.self.now.schema r.1 c.args.self.now.frame.items r.2.frame_is r.3)

pub returns-clause-forced : goal.returns-clause-forced
returns-clause-forced g c = λ tables batch idle.
    let r = c.requires.batch in
    let frame = c.deref_mut.result.now in
    let e = c.force-forced.ensures in
    let is = some_frame c.args.self.now.schema batch c.args.self.now.frame.items idle.frame_is (frame_some c.args.self.now.schema r.1 c.args.self.now.frame.items r.2.frame_is r.3) in
    let bytes = c.deref_mut.ensures.value in
    forces g.D.Disk frame (body_text c.args.self.now.schema batch) c.args.writer.now c.force-forced.new.self c.force-forced.result (ap (λ (bs : List ℕ). length bs) bytes ∙ is.0) (ap (λ (bs : List ℕ). body_of bs) bytes ∙ is.1)
    e.appended e.stage e.calls e.fault e.moments e.crash e.durable
