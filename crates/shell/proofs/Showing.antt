-- What the sink took in the end, and the status.
use Rattle.std.proofs.Common.{◌≡◌, ◌≢◌, inl, inr, ℕ, Option, None, Some, Result, Ok, Err, IsErr, refl, sym, ◌∙◌, arith}
use Rattle.io_edge.specs.declared.sink.Sink.{Ghosts}
use Rattle.reply_text.specs.declared.last.Fault.{Fault}
use Rattle.reply_text.specs.declared.last.Fault.TheVariants as faults
use Rattle.reply_text.specs.Printed.{EndsPrinted}
use Rattle.shell.specs.Outcome.{OutcomeView}
use Rattle.shell.specs.Shown.{Shows}
use Rattle.shell.specs.Text.{fault_status, status_of, text_of}

some_status : (fault : Fault) → fault_status fault ≡ 0 → ⊥
some_status faults.Usage is = omega (arith, is)
some_status faults.OutOfMemory is = omega (arith, is)
some_status (faults.Disk file) is = omega (arith, is)
some_status faults.Source is = omega (arith, is)
some_status (faults.Script at) is = omega (arith, is)
some_status (faults.Damaged place) is = omega (arith, is)
some_status faults.NoBase is = omega (arith, is)
some_status faults.Exists is = omega (arith, is)
some_status (faults.Lanes given wanted) is = omega (arith, is)

-- no fault has status 0
pub zero_is_none : (fault : Option Fault) → status_of fault ≡ 0 → fault ≡ None
zero_is_none None is = refl
zero_is_none (Some fault) is = absurd (some_status fault is)

module _ {K : Type 0} (k : Ghosts K) (view : OutcomeView) (old new : K) (status : ℕ) where
  pub shows : {T E : Type 0} (r : Result T E) → EndsPrinted (k.taken old) (k.faults old) (text_of view) r (k.taken new) (k.faults new)
      → (status ≡ 6 → (view.fault ≡ None) × IsErr r) → ((view.fault ≡ None) × IsErr r → status ≡ 6) → (status ≢ 6 → status ≡ status_of view.fault) → Shows k view old new status
  shows (Ok x) is six back other = record {
    front = is.front;
    rest = is.rest;
    text = is.text_is;
    took = is.took;
    whole = inl (is.whole, is.still);
    zero = λ _. (is.whole, is.still);
    six = λ s. absurd (let fails = (six s).1 in cc);
    other = other;
  }
  shows (Err e) is six back other = record {
    front = is.front;
    rest = is.rest;
    text = is.text_is;
    took = is.took;
    whole = inr is.failed;
    zero = λ z. let not_six : status ≢ 6 = λ s. omega (arith, z, s) in let done = zero_is_none view.fault (sym (other not_six) ∙ z) in absurd (omega (arith, z, back (done, refl)));
    six = λ s. ((six s).0, is.failed);
    other = other;
  }
