-- The faults of an opening that those of a lane's file are, and what a crash leaves while it is made empty.
use Rattle.std.specs.Prelude.{◌≡◌, ◌⊎◌, ℕ, List}
use Rattle.base_types.specs.Causes.{one_more}
use Rattle.disk_core.specs.declared.disk.Disk.{Ghosts}
use Rattle.lane_format.specs.Crash.{NotOpenOrEmpty}
use Rattle.lane_format.specs.Writer.{disk_of, even_file, lane_of}
use Rattle.lane_format.specs.declared.writer.LaneWriter.{LaneWriter}
use Rattle.lane_format.specs.declared.segment.LaneReadFault.{LaneReadFault}
use Rattle.lane_format.specs.declared.segment.LaneReadFault.TheVariants as reads
use Rattle.lane_format.specs.declared.writer.LaneFault.{LaneFault}
use Rattle.lane_format.specs.declared.writer.LaneFault.TheVariants as writes
use Rattle.list_store.specs.declared.fault.OpenFault.{OpenFault}
use Rattle.list_store.specs.declared.fault.OpenFault.TheVariants.{Disk, Damaged, OutOfMemory}

-- the fault of an opening that a fault of reading is
abbrev pub opening_fault : LaneReadFault → OpenFault
opening_fault (reads.Disk file) = Disk file
opening_fault (reads.Damaged file at) = Damaged file at
opening_fault reads.OutOfMemory = OutOfMemory

-- the fault of an opening that a fault of the writer is
abbrev pub writing_fault : LaneFault → OpenFault
writing_fault (writes.Disk file) = Disk file
writing_fault (writes.Closed file) = Disk file

-- the fault names the lane's even file, and one call of its disk failed
abbrev pub NamesItsFile : {D : Type 0} → Ghosts D → LaneWriter D → LaneWriter D → LaneFault → Type 0
NamesItsFile d old new fault =
    (writing_fault fault ≡ Disk (even_file (lane_of old)))
    × (d.faults (disk_of new) ≡ one_more (d.faults (disk_of old)))

-- what a crash might have left of the disk, or a file that isn't open, or the empty lane of generation 2
abbrev pub OldOrEmpty : {D : Type 0} → Ghosts D → D → List ℕ → Type 0
OldOrEmpty d old image = d.may_leave old image ⊎ NotOpenOrEmpty 2 0 image
