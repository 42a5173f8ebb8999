use Rattle.std.proofs.Common.{◌≡◌, ◌≢◌, [], None, List, Result, Ok, Err, refl, sym, ◌∙◌, ap, subst}
use Rattle.plain_model.specs.declared.reply.Reply.{Reply}
use Rattle.plain_model.specs.Calls.{Call}
use Rattle.row_types.specs.declared.definition.TableDef.{TableDef}
use Rattle.op_log.specs.Changes.{body_text}
use Rattle.engine_txn.specs.Tries.{Tries}
use Rattle.engine_txn.specs.declared.tried.Tried.{Tried}
use Rattle.engine_txn.specs.declared.tried.Tried.TheVariants as tries
use Rattle.lane_format.specs.declared.writer.LaneFault.{LaneFault}
use Rattle.call_log.specs.History.{IsHistory, last_batch}
use Rattle.call_laws.specs.Comings.{Comes, SaidBy}
use Rattle.call_laws.proofs.Comings.{try_comes}
use Rattle.txn_rows.specs.Forces.{Forces}
use Rattle.list_store.specs.Keeping.{defs_of}
use Rattle.list_store.specs.Running as running
use Rattle.list_store.specs.declared.store.ListStore.{ListStore}
use Rattle.list_store.proofs.Forcing.{answered, stopped, unrun}
use Rattle.list_store.proofs.store.ListStore.run.Goals as goal

pub returns-in-OutOfMemory : goal.returns-in-OutOfMemory
returns-in-OutOfMemory g c =
    let d = g.D.Disk in
    let old = c.args.self.now in
    let mid = c.try_block-tried.new.calls in
    let new : ListStore g.row.D.Denot = record { alloc = old.alloc; keeper = mid; writer = old.writer } in
    let e = c.try_block-tried.ensures in
    let keeps = c.requires.1 in
    let past = c.history.ensures in
    let history : IsHistory (defs_of old) mid.calls = subst (λ (l : List TableDef). IsHistory l mid.calls) e.schema past.history in
    let tries : Tries (defs_of old) None c.args.block.now old.keeper.calls c.try_block-tried.result mid.calls = record { began = e.began; goes = e.goes; commits = e.commits; said = e.said; causes = e.causes; calls = e.calls; stopped = e.stopped; died = e.died; ended = e.ended; kept = e.kept } in
    let comes = try_comes (defs_of old) c.args.block.now old.keeper.calls mid.calls c.try_block-tried.result history keeps.forced tries in
    let stays = subst (λ (t : Tried). Comes (defs_of old) c.args.block.now old.keeper.calls t mid.calls) c.in-OutOfMemory.is comes in
    unrun d old new refl e.schema past stays

pub returns-in-Ok : goal.returns-in-Ok
returns-in-Ok g c =
    let d = g.D.Disk in
    let old = c.args.self.now in
    let mid = c.try_block-tried.new.calls in
    let new : ListStore g.row.D.Denot = record { alloc = old.alloc; keeper = c.force.new.self; writer = c.force.new.writer } in
    let e = c.try_block-tried.ensures in
    let keeps = c.requires.1 in
    let past = c.history.ensures in
    let history : IsHistory (defs_of old) mid.calls = subst (λ (l : List TableDef). IsHistory l mid.calls) e.schema past.history in
    let tries : Tries (defs_of old) None c.args.block.now old.keeper.calls c.try_block-tried.result mid.calls = record { began = e.began; goes = e.goes; commits = e.commits; said = e.said; causes = e.causes; calls = e.calls; stopped = e.stopped; died = e.died; ended = e.ended; kept = e.kept } in
    let comes = try_comes (defs_of old) c.args.block.now old.keeper.calls mid.calls c.try_block-tried.result history keeps.forced tries in
    let replies = c.in-Said.replies.items in
    let said : SaidBy (defs_of old) c.args.block.now old.keeper.calls replies mid.calls = subst (λ (t : Tried). Comes (defs_of old) c.args.block.now old.keeper.calls t mid.calls) c.in-Said.is comes in
    let result : c.force.result ≡ Ok tt = c.in-Ok.is in
    let answers = answered d g.met.D.Disk.only_now c.args.block.now old new mid replies e.schema past said c.force.ensures.defs c.force.ensures.calls c.requires.0 keeps
    (λ none. (c.force.ensures.none none).1)
    (λ some. subst (λ r. Forces d (body_text mid.defs (last_batch mid.calls)) old.writer c.force.new.writer r) result (c.force.ensures.forced some)) in
    subst (λ (l : List Reply). running.Answers d c.args.block.now old l new) (sym c.from_vec.ensures) answers

pub returns-in-Err : goal.returns-in-Err
returns-in-Err g c =
    let d = g.D.Disk in
    let old = c.args.self.now in
    let mid = c.try_block-tried.new.calls in
    let new : ListStore g.row.D.Denot = record { alloc = old.alloc; keeper = c.force.new.self; writer = c.force.new.writer } in
    let e = c.try_block-tried.ensures in
    let keeps = c.requires.1 in
    let past = c.history.ensures in
    let history : IsHistory (defs_of old) mid.calls = subst (λ (l : List TableDef). IsHistory l mid.calls) e.schema past.history in
    let tries : Tries (defs_of old) None c.args.block.now old.keeper.calls c.try_block-tried.result mid.calls = record { began = e.began; goes = e.goes; commits = e.commits; said = e.said; causes = e.causes; calls = e.calls; stopped = e.stopped; died = e.died; ended = e.ended; kept = e.kept } in
    let comes = try_comes (defs_of old) c.args.block.now old.keeper.calls mid.calls c.try_block-tried.result history keeps.forced tries in
    let replies = c.in-Said.replies.items in
    let said : SaidBy (defs_of old) c.args.block.now old.keeper.calls replies mid.calls = subst (λ (t : Tried). Comes (defs_of old) c.args.block.now old.keeper.calls t mid.calls) c.in-Said.is comes in
    let why = c.in-Err.field-0 in
    let result : c.force.result ≡ Err why = c.in-Err.is in
    let some : last_batch mid.calls ≢ [] = λ none. let both = sym (c.force.ensures.none none).0 ∙ result in cc in
    stopped d g.met.D.Disk.only_now c.args.block.now old new mid replies e.schema past said c.force.ensures.defs c.force.ensures.calls c.requires.0 keeps why some
    (subst (λ r. Forces d (body_text mid.defs (last_batch mid.calls)) old.writer c.force.new.writer r) result (c.force.ensures.forced some))
