use Rattle.std.proofs.Common.{◌∷◌}
use Rattle.section_runs.specs.Trail.{last_of}
use Rattle.shell.proofs.laws.crash_then_run.Goals as goal

pub returns : goal.returns
returns g c defs old new later end shown again bytes image ran quiet next left still =
    let survives = ran.survives bytes quiet in
    c.one_beginning_among.ensures defs (last_of ran.first ran.trail ∷ survives.flying) image next.first next.schema (survives.kept.each image left) (next.opened image still.0)
