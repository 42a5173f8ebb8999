use Rattle.std.proofs.Common.{◌≡◌, ℕ, List, length, Some, sym, ◌∙◌, ap, subst}
use Rattle.std.specs.Option.{ForSome}
use Rattle.disk_core.specs.declared.disk.Disk.{Ghosts}
use Rattle.disk_core.specs.declared.store.LaneDisks.{LaneDisks}
use Rattle.lane_format.specs.Lane.{IsLane, lane_text}
use Rattle.lane_writer.specs.Parity.{is_odd}
use Rattle.lane_writer.specs.Writer.{Holds, disks_of, file_of, lane_of, stage_of}
use Rattle.lane_writer.specs.declared.writer.LaneWriter.{LaneWriter}
use Rattle.lane_writer.specs.declared.writer.Stage.TheVariants.{Open}
use Rattle.test_files.proofs.lane_files.adopted_at_62.Goals as goal

open_there : {D : Type 0} (d : Ghosts D) (w : LaneWriter D) (disks : LaneDisks D) (bodies : List (List ℕ)) → Holds d w 6 bodies → stage_of w ≡ Open 6 62 → lane_of w ≡ 0 → disks ≡ disks_of w
    → ForSome (d.content (file_of (is_odd 6) disks)) (λ bytes. (62 ≡ length (lane_text 6 0 bodies)) × IsLane 6 0 bodies bytes)
open_there d w disks bodies holds stage lane same x told =
    let at : Open 6 holds.gate ≡ Open 6 62 = sym holds.stage ∙ stage in
    let gate : holds.gate ≡ 62 = cc in
    let told' = subst (λ disks. d.content (file_of (is_odd 6) disks) ≡ Some x) same told in
    subst (λ n. (62 ≡ length (lane_text 6 n bodies)) × IsLane 6 n bodies x) lane (sym gate ∙ holds.place x told', holds.file x told')

pub adopt_open-requires-clause-open : goal.adopt_open-requires-clause-open
adopt_open-requires-clause-open g c = λ x told.
    let held = c.requires.open in
    let there = open_there g.D.Disk c.args.first _ held.0 held.1 held.2 c.requires.lane c.into_disks.ensures x told in
    (held.0, there.0, there.1)
