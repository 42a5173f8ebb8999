-- The deltas of records, one record after another.
use Rattle.std.proofs.Common.{◌≡◌, ℕ, ◌^◌, ◌<◌, ◌≤◌, ◌⊎◌, inl, inr, Bool, true, false, cond, ◌||◌, ◌&&◌, List, [], ◌∷◌, ◌++◌}
use Rattle.std.proofs.Common.{length, get_or, replicate, refl, sym, ap, ap₂, ◌∙◌, subst, arith, All}
use Rattle.std.proofs.Math.Bool.{or_comm}
use Rattle.std.proofs.lemmas.List.{length-replicate, get_or-replicate, get_or_past}
use Rattle.std.proofs.lemmas.Bool.{cases_lt}
use Rattle.std.proofs.lemmas.List.Elements.{All-replicate}
use Rattle.std.proofs.lemmas.List.Folds.{list_any-append}
use Rattle.std.specs.List.{list_any}
use Rattle.fields.specs.Toggle.{byte_at, byte_from, toggled}
use Rattle.fields.proofs.ToggleLaws.{toggled_same, toggled_zero, byte_from_lt}
use Rattle.xor_records.specs.declared.record.Head.{Head}
use Rattle.xor_records.specs.Record.{Record, Diff}
use Rattle.xor_records.specs.Replay.{PageName, PageImage, stamp_of, zeros, is_of, is_owed, owed_byte, changes}
use Rattle.xor_records.proofs.ParityLaws.{flipped_none, flipped_push}
use Rattle.replay_core.specs.Pages.{name_of, is_named}
use Rattle.replay_core.specs.Deltas.{PageDelta, has_delta, xor_of, AreDeltas}
use Rattle.replay_core.proofs.EntryLaws.{same_name}

pub length-zeros : length zeros ≡ 4096
unfolding zeros
length-zeros = length-replicate {A = ℕ} 4096 0

pub zeros_lt : All (λ x. x < 2 ^ 8) zeros
unfolding zeros
zeros_lt = All-replicate (λ x. x < 2 ^ 8) 4096 0 (omega arith)

pub no_deltas : (images : List PageImage) (has_ended : ℕ → Bool) → AreDeltas images has_ended [] []
no_deltas images has_ended = record {
  there = λ name. refl;
  xor = λ name. sym (flipped_none (owed_byte has_ended name (stamp_of images name)) zeros zeros_lt);
}

-- one record more: the pages that have a delta, and what is toggled on each
pub record Grows (images : List PageImage) (has_ended : ℕ → Bool) (r : Record) (old new : List PageDelta) : Type 0 where
  pub there : (name : PageName) → has_delta new name ≡ (changes name r || has_delta old name)
  pub xor : (name : PageName) → xor_of new name ≡ toggled (owed_byte has_ended name (stamp_of images name)) (xor_of old name) r
  pub bytes : (name : PageName) (i : ℕ) → owed_byte has_ended name (stamp_of images name) r i < 2 ^ 8

pub grown : (images : List PageImage) (has_ended : ℕ → Bool) (r : Record) (old new : List PageDelta)
    → Grows images has_ended r old new
    → (records : List Record) → AreDeltas images has_ended records old → AreDeltas images has_ended (records ++ r ∷ []) new
grown images has_ended r old new g records a = record {
  there = λ name.
      g.there name ∙ ap (λ b. changes name r || b) (a.there name) ∙ or_comm (changes name r) (list_any (changes name) records)
      ∙ ap (λ b. list_any (changes name) records || b) (last (changes name r))
      ∙ sym (list_any-append (changes name) records (r ∷ []));
  xor = λ name.
      let at = owed_byte has_ended name (stamp_of images name) in
      g.xor name ∙ ap (λ bytes. toggled at bytes r) (a.xor name) ∙ sym (flipped_push at zeros records r (g.bytes name));
}
  where
    last : (b : Bool) → b ≡ (b || false)
    last true = refl
    last false = refl

-- a record of no page
pub grown_none : (images : List PageImage) (has_ended : ℕ → Bool) (r : Record) (deltas : List PageDelta)
    → ((name : PageName) → changes name r ≡ false)
    → ((e : ℕ → Bool) (name : PageName) (stamp i : ℕ) → owed_byte e name stamp r i ≡ 0)
    → Grows images has_ended r deltas deltas
grown_none images has_ended r deltas none zero = record {
  there = λ name. ap (λ b. b || has_delta deltas name) (sym (none name));
  xor = λ name. toggled_zero (owed_byte has_ended name (stamp_of images name)) (xor_of deltas name) r
      (zero has_ended name (stamp_of images name));
  bytes = λ name i. subst (λ x. x < 2 ^ 8) (sym (zero has_ended name (stamp_of images name) i)) (omega arith);
}

byte_lt : (b : Bool) (head : Head) (xor : List ℕ) (i : ℕ) → All (λ x. x < 2 ^ 8) xor
    → cond b (byte_from head.offset xor i) 0 < 2 ^ 8
byte_lt true head xor i q = byte_from_lt head.offset xor i q
byte_lt false head xor i q = omega arith

-- an owed change is toggled on its page
pub grown_owed : (images : List PageImage) (has_ended : ℕ → Bool) (head : Head) (xor : List ℕ) (old new : List PageDelta)
    → All (λ x. x < 2 ^ 8) xor → is_owed has_ended (stamp_of images (name_of (head.table, head.page))) head ≡ true
    → ((name : PageName) → has_delta new name ≡ (is_named (head.table, head.page) name || has_delta old name))
    → ((name : PageName)
    → xor_of new name
    ≡ cond (is_named (head.table, head.page) name) (toggled (byte_from head.offset) (xor_of old name) xor)
    (xor_of old name))
    → Grows images has_ended (Diff head xor) old new
grown_owed images has_ended head xor old new q owed there flips = record {
  there = there;
  xor = λ name. flips name ∙ go name (is_of name head) refl;
  bytes = λ name i. byte_lt (is_of name head && is_owed has_ended (stamp_of images name) head) head xor i q;
}
  where
    at : PageName → Record → ℕ → ℕ
    at name = owed_byte has_ended name (stamp_of images name)

    go : (name : PageName) (b : Bool) → is_of name head ≡ b
        → cond b (toggled (byte_from head.offset) (xor_of old name) xor) (xor_of old name)
        ≡ toggled (at name) (xor_of old name) (Diff head xor)
    go name true e =
        let here = subst (λ k. is_owed has_ended (stamp_of images (name_of k)) head ≡ true)
        (same_name (head.table, head.page) name e) owed in
        toggled_same (byte_from head.offset) (at name) (xor_of old name) xor (Diff head xor) (λ i.
        ap (λ b. cond b (byte_from head.offset xor i) 0) (sym (ap₂ (λ a b. a && b) e here)))
    go name false e =
        toggled_zero (at name) (xor_of old name) (Diff head xor) (λ i.
        ap (λ b. cond (b && is_owed has_ended (stamp_of images name) head) (byte_from head.offset xor i) 0) e)

-- a change that isn't owed has zeros on its page
pub grown_not_owed : (images : List PageImage) (has_ended : ℕ → Bool) (head : Head) (xor : List ℕ) (old new : List PageDelta)
    → All (λ x. x < 2 ^ 8) xor → is_owed has_ended (stamp_of images (name_of (head.table, head.page))) head ≡ false
    → ((name : PageName) → has_delta new name ≡ (is_named (head.table, head.page) name || has_delta old name))
    → ((name : PageName) → xor_of new name ≡ xor_of old name)
    → Grows images has_ended (Diff head xor) old new
grown_not_owed images has_ended head xor old new q owed there same = record {
  there = there;
  xor = λ name. same name ∙ toggled_zero (at name) (xor_of old name) (Diff head xor) (λ i. zero name i (is_of name head) refl);
  bytes = λ name i. byte_lt (is_of name head && is_owed has_ended (stamp_of images name) head) head xor i q;
}
  where
    at : PageName → Record → ℕ → ℕ
    at name = owed_byte has_ended name (stamp_of images name)

    zero : (name : PageName) (i : ℕ) (b : Bool) → is_of name head ≡ b → at name (Diff head xor) i ≡ 0
    zero name i true e =
        let here = subst (λ k. is_owed has_ended (stamp_of images (name_of k)) head ≡ false)
        (same_name (head.table, head.page) name e) owed in
        ap (λ b. cond b (byte_from head.offset xor i) 0) (ap₂ (λ a b. a && b) e here)
    zero name i false e = ap (λ b. cond (b && is_owed has_ended (stamp_of images name) head) (byte_from head.offset xor i) 0) e

-- ---- bytes of pages

none_at : (n i : ℕ) → get_or {A = ℕ} (replicate n 0) i 0 ≡ 0
none_at n i = go (cases_lt i n)
  where
    go : (i < n) ⊎ (n ≤ i) → get_or {A = ℕ} (replicate n 0) i 0 ≡ 0
    go (inl l) = get_or-replicate n i 0 0 l
    go (inr l) = get_or_past (replicate n 0) i 0 (subst (λ m. m ≤ i) (sym (length-replicate {A = ℕ} n 0)) l)

pub zeros_at : (i : ℕ) → byte_at zeros i ≡ 0
unfolding zeros
zeros_at i = none_at 4096 i

pub byte_lt_at : (xs : List ℕ) (i : ℕ) → All (λ x. x < 2 ^ 8) xs → byte_at xs i < 2 ^ 8
byte_lt_at xs i q = go (cases_lt i (length xs))
  where
    go : (i < length xs) ⊎ (length xs ≤ i) → byte_at xs i < 2 ^ 8
    go (inl l) = q i 0 l
    go (inr l) = subst (λ x. x < 2 ^ 8) (sym (get_or_past xs i 0 l)) (omega arith)

-- zeros toggle nothing
pub toggled_by_zeros : (bytes xor : List ℕ) → xor ≡ zeros → bytes ≡ toggled byte_at bytes xor
toggled_by_zeros bytes xor e = toggled_zero byte_at bytes xor (λ i. ap (λ x. byte_at x i) e ∙ zeros_at i)
