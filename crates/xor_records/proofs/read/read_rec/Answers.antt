use Rattle.std.proofs.Common.{◌≡◌, ◌≤◌, length, take, subst, sym, ap, ap₂, ◌∙◌, None, Some, ℕ, List, Option, Ok, Result}
use Rattle.xor_records.specs.declared.fault.BadRec.{BadRec}
use Rattle.xor_records.specs.Record.{Record, IsRecord, record_text}
use Rattle.xor_records.specs.Fault.{record_fault}
use Rattle.xor_records.specs.Reading.{record_at, len_at}
use Rattle.xor_records.proofs.TextLaws.{sound, again, IsReadAs}
use Rattle.xor_records.proofs.read.read_rec.Goals as goal

pub returns-in-Some-clause-only : goal.returns-in-Some-clause-only
returns-in-Some-clause-only c = λ rec rest r e.
    absurd (some_none c.in-Some.at (sym c.in-Some.is ∙ c.record_fault.ensures ∙ ap record_fault e ∙ (again rec rest r).0))
  where
    some_none : (n : ℕ) → ◌≡◌ {A = Option ℕ} (Some n) None → ⊥
    some_none n p = cc p

pub returns-in-None-clause-found : goal.returns-in-None-clause-found
returns-in-None-clause-found c =
    let found = sound c.args.from.now (λ k. (c.type_inv.from k).fits) (sym c.record_fault.ensures ∙ c.in-None.is) in
    subst (λ rec. IsReadAs c.args.from.now rec c.sound_record.result.1) (sym c.sound_record.ensures.record)
    (subst (λ len. IsReadAs c.args.from.now (record_at c.args.from.now) len) (sym c.sound_record.ensures.len) found)

pub returns-in-None-clause-only : goal.returns-in-None-clause-only
returns-in-None-clause-only c = λ rec rest r e.
    let read = again rec rest r in
    same c.sound_record.result rec (length (record_text rec)) (c.sound_record.ensures.record ∙ ap record_at e ∙ read.1) (c.sound_record.ensures.len ∙ ap len_at e ∙ read.2)
  where
    same : (x : Record × ℕ) (rec : Record) (len : ℕ) → x.0 ≡ rec → x.1 ≡ len → ◌≡◌ {A = Result (Record × ℕ) BadRec} (Ok x) (Ok (rec, len))
    same x rec len p q = ap₂ (λ (rec : Record) (len : ℕ). Ok (rec, len)) p q
