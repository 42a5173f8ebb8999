-- How a run of calls keeps what a crash at any of its moments leaves. A call continues a run, and a run follows another.
use Rattle.std.specs.Prelude.{◌≡◌, ◌≤◌, ℕ, List}
use Rattle.std.proofs.Common.{inl, inr, ⊎_elim, ◌∙◌, refl, arith}
use Rattle.disk_core.specs.declared.disk.Disk.{Ghosts}
use Rattle.disk_core.specs.Crash.{Elapses, NoneNew}
use Rattle.disk_core.specs.Moments.{LeavesOnly, OnlyReads}

module _ {D : Type 0} (d : Ghosts D) where
  -- before the first call
  pub started : (disk : D) (P : List ℕ → Type 0) → ((image : List ℕ) → d.left_since disk (d.moment disk) image → P image) → LeavesOnly d disk disk P
  started disk P now = record { later = omega arith; each = now; before = λ t image le left. inl left }

  -- after one call more, where each image that it may leave has P
  pub goes_on : (old mid new : D) (P may_leave : List ℕ → Type 0) → LeavesOnly d old mid P → Elapses (d.moment mid) (d.moment new) (d.left_since mid) (d.left_since new) may_leave → ((image : List ℕ) → may_leave image → P image) → LeavesOnly d old new P
  goes_on old mid new P may_leave run call now = record {
    later = omega (arith, run.later, call.later);
    each = λ image left. ⊎_elim (λ past. run.each image past) (λ is. now image is) (call.nothing_else (d.moment old) image run.later left);
    before = λ t image le left. ⊎_elim (λ past. run.before t image le past) (λ is. inr (now image is)) (call.nothing_else t image (omega (arith, le, run.later)) left);
  }

  -- after another run
  pub joined : (old mid new : D) (P : List ℕ → Type 0) → LeavesOnly d old mid P → LeavesOnly d mid new P → LeavesOnly d old new P
  joined old mid new P first second = record {
    later = omega (arith, first.later, second.later);
    each = λ image left. ⊎_elim (λ past. first.each image past) (λ is. is) (second.before (d.moment old) image first.later left);
    before = λ t image le left. ⊎_elim (λ past. first.before t image le past) (λ is. inr is) (second.before t image (omega (arith, le, first.later)) left);
  }

  -- with less said of the images
  pub weaker : (old new : D) (P Q : List ℕ → Type 0) → ((image : List ℕ) → P image → Q image) → LeavesOnly d old new P → LeavesOnly d old new Q
  weaker old new P Q follows run = record {
    later = run.later;
    each = λ image left. follows image (run.each image left);
    before = λ t image le left. ⊎_elim (λ past. inl past) (λ is. inr (follows image is)) (run.before t image le left);
  }

  -- nothing was called
  pub unread : ((disk : D) (image : List ℕ) → d.left_since disk (d.moment disk) image → d.may_leave disk image) → (disk : D) → OnlyReads d disk disk
  unread only_now disk = record { same = refl; calls = refl; none_new = λ image left. left; moments = started disk (d.may_leave disk) (only_now disk); later = omega arith }

  -- one call more that changes nothing
  pub one_read : (old mid new : D) → OnlyReads d old mid → d.content new ≡ d.content mid → d.calls new ≡ d.calls mid → NoneNew (d.may_leave mid) (d.may_leave new)
      → Elapses (d.moment mid) (d.moment new) (d.left_since mid) (d.left_since new) (d.may_leave new) → d.faults mid ≤ d.faults new → OnlyReads d old new
  one_read old mid new before same calls none time later = record {
    same = same ∙ before.same;
    calls = calls ∙ before.calls;
    none_new = λ image left. before.none_new image (none image left);
    moments = goes_on old mid new (d.may_leave old) (d.may_leave new) before.moments time (λ image left. before.none_new image (none image left));
    later = omega (arith, before.later, later);
  }

  -- one run of reads after another
  pub read_on : (old mid new : D) → OnlyReads d old mid → OnlyReads d mid new → OnlyReads d old new
  read_on old mid new first second = record {
    same = second.same ∙ first.same;
    calls = second.calls ∙ first.calls;
    none_new = λ image left. first.none_new image (second.none_new image left);
    moments = joined old mid new (d.may_leave old) first.moments (weaker mid new (d.may_leave mid) (d.may_leave old) first.none_new second.moments);
    later = omega (arith, first.later, second.later);
  }
