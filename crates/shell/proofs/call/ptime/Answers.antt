use Rattle.std.proofs.Common.{rules, ◌≡◌, sym, subst}
use Rattle.disk_core.specs.declared.store.Store.{Store}
use Rattle.shell.specs.Call.{Answers}
use Rattle.shell.specs.Files.{log_file, outside_of}
use Rattle.shell.specs.Outcome.{view_of}
use Rattle.shell.proofs.Statuses.{all_done, all_read, disk_failed, disk_still, no_run, no_script, sink_failed, source_failed, source_still, stays_damaged, untouched_file}
use Rattle.shell.proofs.call.ptime.Goals as goal

pub returns-clause-answers : goal.returns-clause-answers
returns-clause-answers g c =
    let D = g.row.D.Denot in
    let new : Store D = record { area_a = c.args.store.area_a; area_b = c.args.store.area_b; lanes = c.push_reserved.new.self } in
    let same : log_file new ≡ c.call-even.result.0 = search (rules, c.push_reserved.ensures.items, c.pop.ensures, c.requires.lane) in
    let entry : log_file c.args.store ≡ c.unwrap-even.result.even = search (rules, c.pop.ensures, c.unwrap-even.ensures, c.requires.lane) in
    let Said = λ (old now : D). Answers g.S.Source g.K.Sink g.D.Disk c.args.words.now (outside_of c.args.source.now old) (outside_of c.call-even.new.source now) c.args.sink.now c.print-status.new.sink c.print-status.result in
    let said : Said c.unwrap-even.result.even c.call-even.result.0 = record {
      view = view_of c.call-even.result.1;
      why = c.call-even.ensures;
      shows = c.print-status.ensures;
    } in
    subst (Said (log_file c.args.store)) (sym same) (subst (λ (x : D). Said x c.call-even.result.0) (sym entry) said)

pub returns-clause-done : goal.returns-clause-done
returns-clause-done g c = all_done _ _ _ _ _ _ _ _ _ (returns-clause-answers g c)

pub returns-clause-usage : goal.returns-clause-usage
returns-clause-usage g c = no_run _ _ _ _ _ _ _ _ _ (returns-clause-answers g c)

pub returns-clause-disk : goal.returns-clause-disk
returns-clause-disk g c = disk_failed _ _ _ _ _ _ _ _ _ (returns-clause-answers g c)

pub returns-clause-source : goal.returns-clause-source
returns-clause-source g c = source_failed _ _ _ _ _ _ _ _ _ (returns-clause-answers g c)

pub returns-clause-sink : goal.returns-clause-sink
returns-clause-sink g c = sink_failed _ _ _ _ _ _ _ _ _ (returns-clause-answers g c)

pub returns-clause-script : goal.returns-clause-script
returns-clause-script g c = no_script _ _ _ _ _ _ _ _ _ (returns-clause-answers g c)

pub returns-clause-damaged : goal.returns-clause-damaged
returns-clause-damaged g c = stays_damaged _ _ _ _ _ _ _ _ _ (returns-clause-answers g c)

pub returns-clause-read : goal.returns-clause-read
returns-clause-read g c = all_read _ _ _ _ _ _ _ _ _ (returns-clause-answers g c)

pub returns-clause-untouched : goal.returns-clause-untouched
returns-clause-untouched g c = untouched_file _ _ _ _ _ _ _ _ _ (returns-clause-answers g c)

pub returns-clause-no_disk_fault : goal.returns-clause-no_disk_fault
returns-clause-no_disk_fault g c = disk_still _ _ _ _ _ _ _ _ _ (returns-clause-answers g c)

pub returns-clause-no_source_fault : goal.returns-clause-no_source_fault
returns-clause-no_source_fault g c = source_still _ _ _ _ _ _ _ _ _ (returns-clause-answers g c)
