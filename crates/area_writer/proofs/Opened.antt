-- How a call ends that opened a gate, whatever became of the writer's stage.
use Rattle.std.proofs.Common.{◌≡◌, Result, Ok, Err, IsOk, true≢false, refl, sym, subst}
use Rattle.disk_core.specs.declared.disk.Disk.{Ghosts}
use Rattle.area_writer.specs.Writer.{KeepsFault}
use Rattle.area_writer.specs.declared.fault.AreaFault.TheVariants.{Disk, Closed}
use Rattle.area_writer.specs.declared.writer.AreaWriter.{AreaWriter}

-- an Ok is no Err
ok_no_err : {T E : Type 0} (x : T) (e : E) (r : Result T E) → r ≡ Ok x → r ≡ Err e → ⊥
ok_no_err x e r ok err = true≢false (sym (subst IsOk err (subst IsOk (sym ok) refl)))

pub opened_so : {D T U : Type 0} (d : Ghosts D) (old mid new : AreaWriter D) (now : D) (x : T) (y : U) → KeepsFault d old mid now (Ok x) → KeepsFault d old new now (Ok y)
opened_so d old mid new now x y fault = record {
  later = fault.later;
  still = fault.still;
  disk = λ file is. absurd (ok_no_err y (Disk file) (Ok y) refl is);
  closed = λ file. (λ is. absurd (ok_no_err y (Closed file) (Ok y) refl is), λ failed. absurd (ok_no_err x (Closed file) (Ok x) refl ((fault.closed file).1 failed)));
  unchanged = λ failed. absurd (ok_no_err x (Closed failed.0) (Ok x) refl ((fault.closed failed.0).1 failed.1));
}
