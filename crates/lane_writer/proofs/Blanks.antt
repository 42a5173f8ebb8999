-- How the closing of both files ends, from how the closing of each ends.
use Rattle.std.proofs.Common.{◌≡◌, inl, inr, ℕ, List, Bool, true, false, Result, Ok, Err, IsErrAnd, IsOk, IsSomeAnd, refl, sym, ◌∙◌, ap, subst, arith}
use Rattle.std.specs.Option.{ForSome}
use Rattle.base_types.specs.Causes.{one_more}
use Rattle.disk_core.specs.ChangeCalls.{Made, all_made}
use Rattle.disk_core.specs.declared.disk.Disk.{Ghosts}
use Rattle.disk_core.specs.declared.store.FileName.{FileName}
use Rattle.disk_core.specs.declared.store.FileName.TheVariants.{Lane}
use Rattle.lane_writer.specs.Crash.{Leaves}
use Rattle.lane_writer.specs.Plans.{BlanksInOrder, EvenClosed, EvenFailed, IsBlanked, close_calls}
use Rattle.lane_writer.specs.Writer.{IsFailed, KeepsFault, disk_of, lane_of, stage_of}
use Rattle.lane_writer.specs.declared.fault.LaneFault.{LaneFault}
use Rattle.lane_writer.specs.declared.fault.LaneFault.TheVariants.{Disk, Closed}
use Rattle.lane_writer.specs.declared.writer.LaneWriter.{LaneWriter}
use Rattle.lane_writer.specs.declared.writer.Stage.TheVariants.{Adopted, Failed}
use Rattle.lane_writer.proofs.Left.{where_ok}

-- both files are the one of a parity and the other one
pub both : (P : Bool → Type 0) → P true → P false → (parity : Bool) → P parity
both P odd even true = odd
both P odd even false = even

module _ {D : Type 0} (d : Ghosts D) where
  -- the even file failed
  pub even_failed : {T U : Type 0} (old new : LaneWriter D) (why : LaneFault) (first : Result T LaneFault) (result : Result U LaneFault) → first ≡ Err why → IsErrAnd result (λ e. e ≡ why) → ¬ (IsFailed old)
      → KeepsFault d false old new first → disk_of true new ≡ disk_of true old → Made close_calls first (d.calls (disk_of false old)) (d.calls (disk_of false new)) → BlanksInOrder d old new result
  even_failed old new why first (Ok x) is ends live fault other made = absurd ends
  even_failed old new (Closed file) first (Err e) is ends live fault other made = absurd (live (file, (fault.closed file).0 is))
  even_failed old new (Disk file) first (Err e) is ends live fault other made =
      EvenFailed (ap Err (ends ∙ ap Disk (fault.disk file is).0)) other (subst (λ r. Made close_calls r (d.calls (disk_of false old)) (d.calls (disk_of false new))) is made)

  module _ {T : Type 0} (old mid new : LaneWriter D) (result : Result T LaneFault) (stage : stage_of mid ≡ Adopted) (lane : lane_of mid ≡ lane_of old)
      (first_other : disk_of true mid ≡ disk_of true old) (second : KeepsFault d true mid new result) (second_other : disk_of false new ≡ disk_of false mid) where
    not_closed : (file : FileName) → result ≡ Err (Closed file) → ⊥
    not_closed file is = let stages : Adopted ≡ Failed file = sym stage ∙ (second.closed file).0 is in cc

    -- the call is done with the even file
    pub is_blanked : IsBlanked false old result
    is_blanked = by_result result refl where
      by_result : (r : Result T LaneFault) → r ≡ result → IsBlanked false old result
      by_result (Ok x) is = inl (subst IsOk is refl)
      by_result (Err (Disk file)) is = inr (sym is ∙ ap (λ f. Err (Disk f)) ((second.disk file (sym is)).0 ∙ ap (λ n. Lane n true) lane))
      by_result (Err (Closed file)) is = absurd (not_closed file (sym is))

    pub in_order : ForSome (d.calls (disk_of false mid)) (λ calls. IsSomeAnd (d.calls (disk_of false old)) (λ earlier. calls ≡ all_made close_calls earlier))
        → Made close_calls result (d.calls (disk_of true mid)) (d.calls (disk_of true new)) → BlanksInOrder d old new result
    in_order made then = EvenClosed is_blanked
        (λ done. subst (λ x. ForSome (d.calls x) (λ calls. IsSomeAnd (d.calls (disk_of false old)) (λ earlier. calls ≡ all_made close_calls earlier))) (sym second_other) made)
        (subst (λ x. Made close_calls result (d.calls x) (d.calls (disk_of true new))) first_other then)

    pub keeps_second : ¬ (IsFailed old) → ((parity : Bool) → d.faults (disk_of parity mid) ≡ d.faults (disk_of parity old)) → KeepsFault d true old new result
    keeps_second live first = record {
      lane = second.lane ∙ lane;
      later = λ parity. omega (arith, first parity, second.later parity);
      still = where_ok result second.still (λ is still. λ parity. still parity ∙ first parity);
      disk = λ file is. let found = second.disk file is in (found.0 ∙ ap (λ n. Lane n true) lane, found.1 ∙ ap one_more (first true), found.2 ∙ first false, found.3);
      closed = λ file. (λ is. absurd (not_closed file is), λ is. absurd (live (file, is)));
      unchanged = λ failed. absurd (live failed);
    }

-- what was left where a call was done with a file
pub done_for : {D : Type 0} (d : Ghosts D) (old new : D) (A B : Type 0) (P Q : List ℕ → Type 0) → (B → A) → Leaves d old new A P Q → Leaves d old new B P Q
done_for d old new A B P Q follows left = record { moments = left.moments; crash = left.crash; pending = λ done. left.pending (follows done); durable = λ done. left.durable (follows done) }
