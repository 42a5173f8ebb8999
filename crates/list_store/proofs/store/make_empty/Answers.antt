use Rattle.std.proofs.Common.{◌≢◌, sym, ◌∙◌, ap}
use Rattle.base_types.specs.Causes.{one_more}
use Rattle.disk_core.specs.declared.store.FileName.{FileName}
use Rattle.lane_format.specs.Writer.{even_file, stage_of}
use Rattle.lane_format.specs.declared.writer.Stage.TheVariants.{Failed}
use Rattle.list_store.specs.Faults.{NamesItsFile}
use Rattle.list_store.specs.declared.fault.OpenFault.TheVariants.{Disk}
use Rattle.list_store.proofs.Faulting.{at_this, at_this_err, live_has_cause, map_err}
use Rattle.list_store.proofs.store.make_empty.Goals as goal

pub returns-in_err-close-clause-cause : goal.returns-in_err-close-clause-cause
returns-in_err-close-clause-cause g c =
    let d = g.D.Disk in
    let old = c.args.writer.now in
    let live : (file : FileName) → stage_of old ≢ Failed file = λ file e. let both = sym c.requires.fresh ∙ e in cc in
    let told = live_has_cause d old c.close.new.self c.close.result live c.close.ensures.fault in
    at_this (NamesItsFile d old c.close.new.self) c.from_residual.result c.in_err-close.field-0.0 c.from_residual.ensures.1 (at_this_err (NamesItsFile d old c.close.new.self) c.close.result c.in_err-close.field-0.0 told c.in_err-close.was)

pub returns-clause-cause : goal.returns-clause-cause
returns-clause-cause g c =
    let d = g.D.Disk in
    let old = c.args.writer.now in
    let mid = c.close.new.self in
    let new = c.reset.new.self in
    let shut = c.in_ok-close.ensures.shut.stage in
    let live : (file : FileName) → stage_of mid ≢ Failed file = λ file e. let both = sym shut ∙ e in cc in
    let told = live_has_cause d mid new c.reset.result live c.reset.ensures.fault in
    map_err (NamesItsFile d mid new) (NamesItsFile d old new) c.reset.result (λ e named. (named.0 ∙ ap Disk (ap even_file c.close.ensures.fault.lane), named.1 ∙ ap one_more c.in_ok-close.ensures.fault.still)) told
