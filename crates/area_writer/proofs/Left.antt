-- From what a disk tells, and what was brought to it, to what every crash leaves.
use Rattle.std.proofs.Common.{◌≡◌, ◌≤◌, ℕ, List, Option, Some, None, IsSome, Result, Ok, Err, IsErr, IsOk, IsSomeAnd, OnOk, [], ◌∷◌, true, false, true≢false, refl, sym, ◌∙◌, ap, subst}
use Rattle.std.specs.Option.{option_map, ForSome}
use Rattle.disk_core.specs.declared.disk.Disk.{Ghosts}
use Rattle.disk_core.specs.Crash.{Elapses, Follows, NothingPending, Only, Tears}
use Rattle.disk_core.specs.ChangeCalls.{CallMade, ChangeCall, Made, StoppedIn, WriteCall, all_made}
use Rattle.disk_core.specs.Device.{written}
use Rattle.disk_core.proofs.Plans.{stopped_before, then_made}
use Rattle.disk_core.specs.HistoryLaws.{nothing_torn}
use Rattle.disk_core.specs.Moments.{LeavesNow, LeavesOnly}
use Rattle.disk_core.proofs.Moments.{started, goes_on, joined}
use Rattle.area_format.specs.Area.{IsNotOpen}
use Rattle.area_writer.specs.Crash.{Leaves, StaysShut, TornFrom}

-- what there is
pub some_of : {A : Type 0} (o : Option A) → IsSome o → (x : A) × (o ≡ Some x)
some_of None told = absurd (true≢false (sym told))
some_of (Some x) told = (x, refl)

-- where nothing is pending after a write, a crash leaves what it wrote
pub only_written : (at : ℕ) (bytes file : List ℕ) (before after : Option (List ℕ)) (may_leave : List ℕ → Type 0) → before ≡ Some file → after ≡ option_map (written at bytes) before → NothingPending after may_leave → Only (written at bytes file) may_leave
only_written at bytes file before after may_leave told is pending = pending (written at bytes file) (is ∙ ap (option_map (written at bytes)) told)

-- what holds at Ok, where it is one
pub done_so : {T E X : Type 0} (r : Result T E) → IsOk r → OnOk r X → X
done_so (Ok x) is holds = holds
done_so (Err e) is holds = absurd (let none : false ≡ true = is in cc)

-- what follows at Ok from there being one
pub where_ok : {T E X Y : Type 0} (r : Result T E) → OnOk r X → (IsOk r → X → Y) → OnOk r Y
where_ok (Ok x) holds follows = follows refl holds
where_ok (Err e) holds follows = tt

-- of three calls the second one failed
pub stopped_two : {T E : Type 0} (first : ChangeCall) (size schema : List ℕ) (r : Result T E) (old mid new : Option (List CallMade)) → IsErr r → ForSome mid (λ calls. IsSomeAnd old (λ earlier. calls ≡ all_made (first ∷ []) earlier))
    → ForSome new (λ calls. IsSomeAnd mid (λ earlier. StoppedIn (WriteCall 33 size ∷ []) earlier calls)) → Made (first ∷ WriteCall 33 size ∷ WriteCall 35 schema ∷ []) r old new
stopped_two first size schema r old mid new err made stopped =
    then_made (first ∷ []) (WriteCall 33 size ∷ WriteCall 35 schema ∷ []) r old mid new made (stopped_before (WriteCall 33 size ∷ []) (WriteCall 35 schema ∷ []) r mid new err stopped)

module _ {D : Type 0} (d : Ghosts D) where
  -- where nothing is pending, what holds of the bytes holds of what a crash leaves
  pub now_as_told : (disk : D) (P : List ℕ → Type 0) → IsSome (d.content disk) → NothingPending (d.content disk) (d.may_leave disk) → ForSome (d.content disk) P → LeavesNow d disk P
  now_as_told disk P told pending holds = record {
    told = told;
    each = λ image now. let bytes = some_of (d.content disk) told in subst P (sym (pending bytes.0 bytes.1 image now)) (holds bytes.0 bytes.1);
  }

  -- at each moment of a write a crash leaves what it makes of an earlier image
  pub one_write : ((disk : D) (image : List ℕ) → d.left_since disk (d.moment disk) image → d.may_leave disk image) → (old new : D) (at : ℕ) (bytes : List ℕ)
      → Elapses (d.moment old) (d.moment new) (d.left_since old) (d.left_since new) (d.may_leave new) → Follows (Tears at bytes) (d.may_leave old) (d.may_leave new)
      → LeavesOnly d old new (TornFrom (d.may_leave old) at bytes)
  one_write only_now old new at bytes time crash =
      let before = started d old (TornFrom (d.may_leave old) at bytes) (λ image left. (image, only_now old image left, nothing_torn at bytes image)) in
      goes_on d old old new (TornFrom (d.may_leave old) at bytes) (d.may_leave new) before time crash

  -- what a step leaves
  pub leaves : ((disk : D) (t : ℕ) (image : List ℕ) → t ≤ d.moment disk → d.may_leave disk image → d.left_since disk t image) → (old new : D) (is_done : Type 0) (P Q : List ℕ → Type 0)
      → LeavesOnly d old new P → (IsSome (d.content old) → IsSome (d.content new)) → (is_done → NothingPending (d.content new) (d.may_leave new)) → (is_done → IsSome (d.content old) → ForSome (d.content new) Q)
      → Leaves d old new is_done P Q
  leaves counts_now old new is_done P Q moments told pending holds = record {
    moments = moments;
    crash = λ known. record { told = told known; each = λ image now. moments.each image (counts_now new (d.moment old) image moments.later now) };
    pending = pending;
    durable = λ done known. now_as_told new Q (told known) (pending done) (holds done known);
  }

  -- one call that opens no file after another
  pub shut_on : (old mid new : D) → StaysShut d old mid → StaysShut d mid new → StaysShut d old new
  shut_on old mid new first second = record {
    moments = λ shut. joined d old mid new IsNotOpen (first.moments shut) (second.moments (first.crash shut));
    crash = λ shut. second.crash (first.crash shut);
  }
