-- Bytes without a fault spell the record that they are read as, and the text of a record has no fault and is read again.
use Rattle.std.proofs.Common.{◌≡◌, ◌≢◌, ℕ, zero, suc, ◌+◌, ◌-◌, ◌*◌, ◌^◌, ◌<◌, ◌≤◌, ◌⊎◌, inl, inr, Bool, true, false, cond, ◌||◌, ◌==◌, List, [], ◌∷◌, ◌++◌, length, get_or, take, drop, Option, None, Some, refl, sym, ap, ap₂, ◌∙◌, subst, arith, eqb-true, nat_lt}
use Rattle.std.specs.Option.{option_or}
use Rattle.std.specs.Int.{w16, w32, w64, to_le_bytes, from_le_bytes}
use Rattle.std.proofs.lemmas.Bool.{cases_lt, le-ltb, lt-ltb, ltb-false, eqb-false, ne_eqb, false≢true}
use Rattle.std.proofs.lemmas.List.{append_assoc, length-append, take_at, take-append-drop, take-take, drop-take, get_or-take, get_or-drop, get_or_past}
use Rattle.std.proofs.lemmas.Nat.{le_bytes_2, le_bytes_4, le_bytes_8, from_le_bytes-to_le_bytes_2, from_le_bytes-to_le_bytes_4, from_le_bytes-to_le_bytes_8}
use Rattle.std.proofs.lemmas.List.Elements.{All-from_get_or}
use Rattle.std.proofs.lemmas.Grind.{common_steps}
use Rattle.fields.specs.Fields.{bytes_at}
use Rattle.xor_records.specs.declared.record.Head.{Head}
use Rattle.xor_records.specs.Record.{Record, Diff, Commit, End, head_text, record_text, IsTxn, IsHead, IsXor, IsRecord}
use Rattle.xor_records.specs.Places.{txn_at, table_at, page_at, stamp_at, offset_at, length_at, xor_at}
use Rattle.xor_records.specs.Fault.{ends_before, breaks_at, txn_fault, stamp_fault, length_fault, xor_fault, diff_fault, record_fault, fault_of_kind, begins_or_ends_with_zero}
use Rattle.xor_records.specs.Reading.{head_at, record_at, len_at}

-- ---- fields of bytes

abbrev pub IsBytes : List ℕ → Type 0
IsBytes bytes = (i : ℕ) → get_or bytes i 0 < 256

field_len : (at k : ℕ) (bytes : List ℕ) → at + k ≤ length bytes → length (bytes_at at k bytes) ≡ k
field_len at k bytes l = grind (arith, common_steps, l)

field_bytes : (at k : ℕ) (bytes : List ℕ) → IsBytes bytes → IsBytes (bytes_at at k bytes)
field_bytes at k bytes h i = go (cases_lt i k)
  where
    go : (i < k) ⊎ (k ≤ i) → get_or (bytes_at at k bytes) i 0 < 256
    go (inl l) = subst (λ n. n < 256) (sym (get_or-take k (drop at bytes) i 0 l ∙ get_or-drop at bytes i 0)) (h (at + i))
    go (inr l) = subst (λ n. n < 256) (sym (get_or_past (bytes_at at k bytes) i 0 (short l))) (omega arith)
      where
        short : k ≤ i → length (bytes_at at k bytes) ≤ i
        short m = grind (arith, common_steps, m)

-- one field more of the front
front_more : (at k : ℕ) (bytes : List ℕ) → take (at + k) bytes ≡ take at bytes ++ bytes_at at k bytes
front_more at k bytes = sym (take-append-drop at (take (at + k) bytes)) ∙ ap₂ (λ a b. a ++ b) (take-take at (at + k) bytes (omega arith)) (drop-take at k bytes)

number_8 : (at : ℕ) (bytes : List ℕ) → IsBytes bytes → at + 8 ≤ length bytes → to_le_bytes w64 (from_le_bytes w64 (bytes_at at 8 bytes)) ≡ bytes_at at 8 bytes
number_8 at bytes h l = le_bytes_8 (bytes_at at 8 bytes) (from_le_bytes w64 (bytes_at at 8 bytes)) (field_len at 8 bytes l) (field_bytes at 8 bytes h) same
  where
    same : from_le_bytes w64 (bytes_at at 8 bytes) ≡ from_le_bytes w64 (bytes_at at 8 bytes)
    same = cc

number_4 : (at : ℕ) (bytes : List ℕ) → IsBytes bytes → at + 4 ≤ length bytes → to_le_bytes w32 (from_le_bytes w32 (bytes_at at 4 bytes)) ≡ bytes_at at 4 bytes
number_4 at bytes h l = le_bytes_4 (bytes_at at 4 bytes) (from_le_bytes w32 (bytes_at at 4 bytes)) (field_len at 4 bytes l) (field_bytes at 4 bytes h) same
  where
    same : from_le_bytes w32 (bytes_at at 4 bytes) ≡ from_le_bytes w32 (bytes_at at 4 bytes)
    same = cc

number_2 : (at : ℕ) (bytes : List ℕ) → IsBytes bytes → at + 2 ≤ length bytes → to_le_bytes w16 (from_le_bytes w16 (bytes_at at 2 bytes)) ≡ bytes_at at 2 bytes
number_2 at bytes h l = le_bytes_2 (bytes_at at 2 bytes) (from_le_bytes w16 (bytes_at at 2 bytes)) (field_len at 2 bytes l) (field_bytes at 2 bytes h) same
  where
    same : from_le_bytes w16 (bytes_at at 2 bytes) ≡ from_le_bytes w16 (bytes_at at 2 bytes)
    same = cc

-- a number that stands in so many bytes is below its width's limit
below_8 : (at : ℕ) (bytes : List ℕ) → IsBytes bytes → at + 8 ≤ length bytes → from_le_bytes w64 (bytes_at at 8 bytes) < 2 ^ 64
below_8 at bytes h l = number_lt_8 (bytes_at at 8 bytes) (field_len at 8 bytes l) (field_bytes at 8 bytes h)
  where
    number_lt_8 : (bs : List ℕ) → length bs ≡ 8 → IsBytes bs → from_le_bytes w64 bs < 2 ^ 64
    number_lt_8 bs e q = omega (arith, q 0, q 1, q 2, q 3, q 4, q 5, q 6, q 7)

below_4 : (at : ℕ) (bytes : List ℕ) → IsBytes bytes → at + 4 ≤ length bytes → from_le_bytes w32 (bytes_at at 4 bytes) < 2 ^ 32
below_4 at bytes h l = number_lt_4 (bytes_at at 4 bytes) (field_len at 4 bytes l) (field_bytes at 4 bytes h)
  where
    number_lt_4 : (bs : List ℕ) → length bs ≡ 4 → IsBytes bs → from_le_bytes w32 bs < 2 ^ 32
    number_lt_4 bs e q = omega (arith, q 0, q 1, q 2, q 3)

below_2 : (at : ℕ) (bytes : List ℕ) → IsBytes bytes → at + 2 ≤ length bytes → from_le_bytes w16 (bytes_at at 2 bytes) < 2 ^ 16
below_2 at bytes h l = number_lt_2 (bytes_at at 2 bytes) (field_len at 2 bytes l) (field_bytes at 2 bytes h)
  where
    number_lt_2 : (bs : List ℕ) → length bs ≡ 2 → IsBytes bs → from_le_bytes w16 bs < 2 ^ 16
    number_lt_2 bs e q = omega (arith, q 0, q 1)

-- ---- what no fault says

or_none : {A : Type 0} (a b : Option A) → option_or a b ≡ None → (a ≡ None) × (b ≡ None)
or_none None b e = (refl, e)
or_none (Some x) b e = absurd (cc e)

whole : (end : ℕ) (bytes : List ℕ) → ends_before end bytes ≡ None → end ≤ length bytes
whole end bytes e = go (cases_lt (length bytes) end)
  where
    go : (length bytes < end) ⊎ (end ≤ length bytes) → end ≤ length bytes
    go (inl l) = absurd (some_is_none (length bytes) (sym (ap (λ b. cond b (Some (length bytes)) None) (lt-ltb (length bytes) end l)) ∙ e))
      where
        some_is_none : (n : ℕ) → ◌≡◌ {A = Option ℕ} (Some n) None → ⊥
        some_is_none n p = cc p
    go (inr l) = l

kept_rule : (at : ℕ) (broken : Bool) → breaks_at at broken ≡ None → broken ≡ false
kept_rule at true e = absurd (cc e)
kept_rule at false e = refl

neither : (a b : Bool) → (a || b) ≡ false → (a ≡ false) × (b ≡ false)
neither true b e = absurd (false≢true (sym e))
neither false b e = (refl, e)

-- a field that is whole and keeps its rule
kept_field : (end at : ℕ) (bytes : List ℕ) (broken : Bool) → option_or (ends_before end bytes) (breaks_at at broken) ≡ None → (end ≤ length bytes) × (broken ≡ false)
kept_field end at bytes broken e =
    let parts = or_none (ends_before end bytes) (breaks_at at broken) e in
    (whole end bytes parts.0, kept_rule at broken parts.1)

fine_end : (end : ℕ) (bytes : List ℕ) → end ≤ length bytes → ends_before end bytes ≡ None
fine_end end bytes l = ap (λ b. cond b (Some (length bytes)) None) (le-ltb (length bytes) end l)

fine_field : (end at : ℕ) (bytes : List ℕ) (broken : Bool) → end ≤ length bytes → broken ≡ false → option_or (ends_before end bytes) (breaks_at at broken) ≡ None
fine_field end at bytes broken l e = ap₂ option_or (ap (λ b. cond b (Some (length bytes)) None) (le-ltb (length bytes) end l)) (ap (λ b. cond b (Some at) None) e)

at_least_one : (n : ℕ) → (n == 0) ≡ false → 1 ≤ n
at_least_one n e =
    let ne = eqb-false n 0 e in
    omega (arith, ne)

not_zero : (n : ℕ) → 1 ≤ n → (n == 0) ≡ false
not_zero n l = ne_eqb n 0 (λ e. absurd (omega (arith, l, e)))

-- ---- what is read is in the grammar

first_byte : (bytes : List ℕ) (k : ℕ) → 1 ≤ length bytes → get_or bytes 0 0 ≡ k → take 1 bytes ≡ k ∷ []
first_byte [] k l e = absurd (omega (arith, l))
first_byte (b ∷ bytes) k l e = ap (λ b. b ∷ []) e

txn_sound : (bytes : List ℕ) → IsBytes bytes → txn_fault bytes ≡ None → IsTxn (txn_at bytes) × (9 ≤ length bytes)
unfolding txn_at table_at page_at stamp_at offset_at length_at
txn_sound bytes h e =
    let parts = kept_field 9 1 bytes (txn_at bytes == 0) e in
    ((at_least_one (txn_at bytes) parts.1, below_8 1 bytes h parts.0), parts.0)

front_9 : (bytes : List ℕ) (k : ℕ) → IsBytes bytes → 9 ≤ length bytes → get_or bytes 0 0 ≡ k → take 9 bytes ≡ (k ∷ []) ++ to_le_bytes w64 (txn_at bytes)
unfolding txn_at table_at page_at stamp_at offset_at length_at
front_9 bytes k h l e = front_more 1 8 bytes ∙ ap₂ (λ a b. a ++ b) (first_byte bytes k (omega (arith, l)) e) (sym (number_8 1 bytes h l))

front_25 : (bytes : List ℕ) → IsBytes bytes → 25 ≤ length bytes → get_or bytes 0 0 ≡ 1 → take 25 bytes ≡ (1 ∷ []) ++ head_text (head_at bytes)
unfolding txn_at table_at page_at stamp_at offset_at length_at
front_25 bytes h l e =
    front_more 23 2 bytes ∙ ap₂ (λ a b. a ++ b)
    (front_more 15 8 bytes ∙ ap₂ (λ a b. a ++ b)
    (front_more 11 4 bytes ∙ ap₂ (λ a b. a ++ b)
    (front_more 9 2 bytes ∙ ap₂ (λ a b. a ++ b) (front_9 bytes 1 h (omega (arith, l)) e) (sym (number_2 9 bytes h (omega (arith, l)))))
    (sym (number_4 11 bytes h (omega (arith, l)))))
    (sym (number_8 15 bytes h (omega (arith, l)))))
    (sym (number_2 23 bytes h l))

diff_text : (bytes : List ℕ) → IsBytes bytes → 27 + length_at bytes ≤ length bytes → get_or bytes 0 0 ≡ 1 → take (27 + length_at bytes) bytes ≡ record_text (Diff (head_at bytes) (xor_at bytes))
unfolding record_text txn_at table_at page_at stamp_at offset_at length_at
diff_text bytes h l e =
    front_more 27 (length_at bytes) bytes
    ∙ ap (λ a. a ++ xor_at bytes)
    (front_more 25 2 bytes ∙ ap₂ (λ a b. a ++ b) (front_25 bytes h (omega (arith, l)) e)
    (sym (number_2 25 bytes h (omega (arith, l))) ∙ ap (to_le_bytes w16) (sym (field_len 27 (length_at bytes) bytes l))))

diff_sound : (bytes : List ℕ) → IsBytes bytes → get_or bytes 0 0 ≡ 1 → diff_fault bytes ≡ None
    → IsRecord (Diff (head_at bytes) (xor_at bytes)) × (take (27 + length_at bytes) bytes ≡ record_text (Diff (head_at bytes) (xor_at bytes))) × (27 + length_at bytes ≤ length bytes)
unfolding txn_at table_at page_at stamp_at offset_at length_at
diff_sound bytes h e d =
    let all = or_none (txn_fault bytes) (option_or (stamp_fault bytes) (option_or (length_fault bytes) (xor_fault bytes))) d in
    let txn = txn_sound bytes h all.0 in
    let parts = or_none (stamp_fault bytes) (option_or (length_fault bytes) (xor_fault bytes)) all.1 in
    let stamp = kept_field 23 15 bytes (stamp_at bytes == 0) parts.0 in
    let tail = or_none (length_fault bytes) (xor_fault bytes) parts.1 in
    let len = kept_field 27 25 bytes (length_at bytes == 0 || nat_lt 4096 (offset_at bytes + length_at bytes)) tail.0 in
    let bounds = neither (length_at bytes == 0) (nat_lt 4096 (offset_at bytes + length_at bytes)) len.1 in
    let xor = kept_field (27 + length_at bytes) 27 bytes (begins_or_ends_with_zero (xor_at bytes)) tail.1 in
    let ends = neither (get_or (xor_at bytes) 0 0 == 0) (get_or (xor_at bytes) (length (xor_at bytes) - 1) 0 == 0) xor.1 in
    let long : length (xor_at bytes) ≡ length_at bytes = field_len 27 (length_at bytes) bytes xor.0 in (
      (
        record {
          txn = txn.0;
          table = below_2 9 bytes h (omega (arith, len.0));
          page = below_4 11 bytes h (omega (arith, len.0));
          stamp = (at_least_one (stamp_at bytes) stamp.1, below_8 15 bytes h (omega (arith, len.0)));
          offset = below_2 23 bytes h (omega (arith, len.0));
        },
        record {
          bytes = All-from_get_or (λ x. x < 2 ^ 8) (xor_at bytes) 0 (λ i l. field_bytes 27 (length_at bytes) bytes h i);
          some = subst (λ n. 1 ≤ n) (sym long) (at_least_one (length_at bytes) bounds.0);
          inside = subst (λ n. offset_at bytes + n ≤ 4096) (sym long) (ltb-false 4096 (offset_at bytes + length_at bytes) bounds.1);
          first = eqb-false (get_or (xor_at bytes) 0 0) 0 ends.0;
          last = eqb-false (get_or (xor_at bytes) (length (xor_at bytes) - 1) 0) 0 ends.1;
        },
      ),
      diff_text bytes h xor.0 e,
      xor.0,
    )

commit_text : (bytes : List ℕ) → IsBytes bytes → 9 ≤ length bytes → get_or bytes 0 0 ≡ 2 → take 9 bytes ≡ record_text (Commit (txn_at bytes))
unfolding record_text
commit_text bytes h l e = front_9 bytes 2 h l e

end_text : (bytes : List ℕ) → IsBytes bytes → 9 ≤ length bytes → get_or bytes 0 0 ≡ 3 → take 9 bytes ≡ record_text (End (txn_at bytes))
unfolding record_text
end_text bytes h l e = front_9 bytes 3 h l e

abbrev pub IsReadAs : List ℕ → Record → ℕ → Type 0
IsReadAs bytes rec len = IsRecord rec × (take len bytes ≡ record_text rec) × (len ≤ length bytes)

pub at_diff : (bytes : List ℕ) → get_or bytes 0 0 ≡ 1 → (record_at bytes ≡ Diff (head_at bytes) (xor_at bytes)) × (len_at bytes ≡ 27 + length_at bytes)
unfolding record_at len_at
at_diff bytes e = (
  ap (λ k. cond (k == 1) (Diff (head_at bytes) (xor_at bytes)) (cond (k == 2) (Commit (txn_at bytes)) (End (txn_at bytes)))) e,
  ap (λ k. cond (k == 1) (27 + length_at bytes) 9) e,
)

pub at_commit : (bytes : List ℕ) → get_or bytes 0 0 ≡ 2 → (record_at bytes ≡ Commit (txn_at bytes)) × (len_at bytes ≡ 9)
unfolding record_at len_at
at_commit bytes e = (
  ap (λ k. cond (k == 1) (Diff (head_at bytes) (xor_at bytes)) (cond (k == 2) (Commit (txn_at bytes)) (End (txn_at bytes)))) e,
  ap (λ k. cond (k == 1) (27 + length_at bytes) 9) e,
)

pub at_end : (bytes : List ℕ) → get_or bytes 0 0 ≡ 3 → (record_at bytes ≡ End (txn_at bytes)) × (len_at bytes ≡ 9)
unfolding record_at len_at
at_end bytes e = (
  ap (λ k. cond (k == 1) (Diff (head_at bytes) (xor_at bytes)) (cond (k == 2) (Commit (txn_at bytes)) (End (txn_at bytes)))) e,
  ap (λ k. cond (k == 1) (27 + length_at bytes) 9) e,
)

-- a record without a fault is of one of the three kinds
pub data Kinds : List ℕ → Type 0 where
  diff : {bytes : List ℕ} → get_or bytes 0 0 ≡ 1 → diff_fault bytes ≡ None → Kinds bytes
  commit : {bytes : List ℕ} → get_or bytes 0 0 ≡ 2 → txn_fault bytes ≡ None → Kinds bytes
  ending : {bytes : List ℕ} → get_or bytes 0 0 ≡ 3 → txn_fault bytes ≡ None → Kinds bytes

kinds_of : (k : ℕ) (bytes : List ℕ) → get_or bytes 0 0 ≡ k → fault_of_kind k bytes ≡ None → Kinds bytes
kinds_of k bytes e f = go (k == 1) (k == 2) (k == 3) refl refl refl f
  where
    go : (a b c : Bool) → (k == 1) ≡ a → (k == 2) ≡ b → (k == 3) ≡ c → cond a (diff_fault bytes) (cond (b || c) (txn_fault bytes) (Some 0)) ≡ None → Kinds bytes
    go true b c p q r h = diff (e ∙ eqb-true k 1 p) h
    go false true c p q r h = commit (e ∙ eqb-true k 2 q) h
    go false false true p q r h = ending (e ∙ eqb-true k 3 r) h
    go false false false p q r h = absurd (cc h)

pub kinds : (bytes : List ℕ) → record_fault bytes ≡ None → (1 ≤ length bytes) × Kinds bytes
unfolding record_fault
kinds bytes f =
    let parts = or_none (ends_before 1 bytes) (fault_of_kind (get_or bytes 0 0) bytes) f in
    (whole 1 bytes parts.0, kinds_of (get_or bytes 0 0) bytes refl parts.1)

read_as : (bytes : List ℕ) (rec : Record) (len : ℕ) → (record_at bytes ≡ rec) × (len_at bytes ≡ len) → IsReadAs bytes rec len → IsReadAs bytes (record_at bytes) (len_at bytes)
read_as bytes rec len e r = subst (λ x. IsReadAs bytes x (len_at bytes)) (sym e.0) (subst (IsReadAs bytes rec) (sym e.1) r)

sound_kind : (bytes : List ℕ) → IsBytes bytes → Kinds bytes → IsReadAs bytes (record_at bytes) (len_at bytes)
sound_kind bytes h (diff e f) = read_as bytes (Diff (head_at bytes) (xor_at bytes)) (27 + length_at bytes) (at_diff bytes e) (diff_sound bytes h e f)
sound_kind bytes h (commit e f) =
    let txn = txn_sound bytes h f in
    read_as bytes (Commit (txn_at bytes)) 9 (at_commit bytes e) (txn.0, commit_text bytes h txn.1 e, txn.1)
sound_kind bytes h (ending e f) =
    let txn = txn_sound bytes h f in
    read_as bytes (End (txn_at bytes)) 9 (at_end bytes e) (txn.0, end_text bytes h txn.1 e, txn.1)

pub sound : (bytes : List ℕ) → IsBytes bytes → record_fault bytes ≡ None → IsReadAs bytes (record_at bytes) (len_at bytes)
sound bytes h f = sound_kind bytes h (kinds bytes f).1

-- by its first byte, what a record without a fault is
kind_diff : (bytes : List ℕ) → IsBytes bytes → get_or bytes 0 0 ≡ 1 → Kinds bytes → IsRecord (Diff (head_at bytes) (xor_at bytes)) × (27 + length_at bytes ≤ length bytes)
kind_diff bytes h e (diff p q) =
    let all = diff_sound bytes h p q in
    (all.0, all.2)
kind_diff bytes h e (commit p q) = absurd (omega (arith, sym e ∙ p))
kind_diff bytes h e (ending p q) = absurd (omega (arith, sym e ∙ p))

pub a_diff : (bytes : List ℕ) → IsBytes bytes → record_fault bytes ≡ None → get_or bytes 0 0 ≡ 1 → IsRecord (Diff (head_at bytes) (xor_at bytes)) × (27 + length_at bytes ≤ length bytes)
a_diff bytes h f e = kind_diff bytes h e (kinds bytes f).1

kind_other : (bytes : List ℕ) → IsBytes bytes → get_or bytes 0 0 ≢ 1 → Kinds bytes → IsTxn (txn_at bytes) × (9 ≤ length bytes)
kind_other bytes h n (diff p q) = absurd (n p)
kind_other bytes h n (commit p q) = txn_sound bytes h q
kind_other bytes h n (ending p q) = txn_sound bytes h q

pub no_diff : (bytes : List ℕ) → IsBytes bytes → record_fault bytes ≡ None → get_or bytes 0 0 ≢ 1 → IsTxn (txn_at bytes) × (9 ≤ length bytes)
no_diff bytes h f n = kind_other bytes h n (kinds bytes f).1

kind_end : (bytes : List ℕ) → get_or bytes 0 0 ≢ 1 → get_or bytes 0 0 ≢ 2 → Kinds bytes → get_or bytes 0 0 ≡ 3
kind_end bytes n m (diff p q) = absurd (n p)
kind_end bytes n m (commit p q) = absurd (m p)
kind_end bytes n m (ending p q) = p

pub an_end : (bytes : List ℕ) → record_fault bytes ≡ None → get_or bytes 0 0 ≢ 1 → get_or bytes 0 0 ≢ 2 → get_or bytes 0 0 ≡ 3
an_end bytes f n m = kind_end bytes n m (kinds bytes f).1

-- ---- what is written is read again

abbrev pub IsReadAgain : List ℕ → Record → Type 0
IsReadAgain bytes rec = (record_fault bytes ≡ None) × (record_at bytes ≡ rec) × (len_at bytes ≡ length (record_text rec))

commit_again : (txn : ℕ) (rest : List ℕ) → IsTxn txn → IsReadAgain (record_text (Commit txn) ++ rest) (Commit txn)
unfolding record_text record_fault record_at len_at txn_at table_at page_at stamp_at offset_at length_at
commit_again txn rest t =
    let same : txn_at (2 ∷ to_le_bytes w64 txn ++ rest) ≡ txn = from_le_bytes-to_le_bytes_8 txn t.1 in
    let long : 9 ≤ length (2 ∷ to_le_bytes w64 txn ++ rest) = omega arith in
    (ap₂ option_or (fine_end 1 (2 ∷ to_le_bytes w64 txn ++ rest) (omega arith)) (fine_field 9 1 (2 ∷ to_le_bytes w64 txn ++ rest) (txn_at (2 ∷ to_le_bytes w64 txn ++ rest) == 0) long (ap (λ n. n == 0) same ∙ not_zero txn t.0)), ap Commit same, refl)

end_again : (txn : ℕ) (rest : List ℕ) → IsTxn txn → IsReadAgain (record_text (End txn) ++ rest) (End txn)
unfolding record_text record_fault record_at len_at txn_at table_at page_at stamp_at offset_at length_at
end_again txn rest t =
    let same : txn_at (3 ∷ to_le_bytes w64 txn ++ rest) ≡ txn = from_le_bytes-to_le_bytes_8 txn t.1 in
    let long : 9 ≤ length (3 ∷ to_le_bytes w64 txn ++ rest) = omega arith in
    (ap₂ option_or (fine_end 1 (3 ∷ to_le_bytes w64 txn ++ rest) (omega arith)) (fine_field 9 1 (3 ∷ to_le_bytes w64 txn ++ rest) (txn_at (3 ∷ to_le_bytes w64 txn ++ rest) == 0) long (ap (λ n. n == 0) same ∙ not_zero txn t.0)), ap End same, refl)

diff_again : (head : Head) (xor rest : List ℕ) → IsHead head → IsXor head.offset xor → IsReadAgain (record_text (Diff head xor) ++ rest) (Diff head xor)
unfolding record_text record_fault record_at len_at txn_at table_at page_at stamp_at offset_at length_at
diff_again head xor rest h x =
    let bytes = 1 ∷ head_text head ++ to_le_bytes w16 (length xor) ++ xor ++ rest in
    let some : 1 ≤ length xor = x.some in
    let inside : head.offset + length xor ≤ 4096 = x.inside in
    let len : length_at bytes ≡ length xor = from_le_bytes-to_le_bytes_2 (length xor) (omega (arith, inside)) in
    let txn : txn_at bytes ≡ head.txn = from_le_bytes-to_le_bytes_8 head.txn h.txn.1 in
    let table : table_at bytes ≡ head.table = from_le_bytes-to_le_bytes_2 head.table h.table in
    let page : page_at bytes ≡ head.page = from_le_bytes-to_le_bytes_4 head.page h.page in
    let stamp : stamp_at bytes ≡ head.stamp = from_le_bytes-to_le_bytes_8 head.stamp h.stamp.1 in
    let offset : offset_at bytes ≡ head.offset = from_le_bytes-to_le_bytes_2 head.offset h.offset in
    let xs : xor_at bytes ≡ xor = ap (λ k. take k (xor ++ rest)) len ∙ take_at xor rest (length xor) refl in
    let long : 27 + length xor ≤ length bytes = omega (arith, length-append xor rest) in
    let end : 27 + length_at bytes ≤ length bytes = subst (λ n. 27 + n ≤ length bytes) (sym len) long in
    let f1 = fine_field 9 1 bytes (txn_at bytes == 0) (omega (arith, long)) (ap (λ n. n == 0) txn ∙ not_zero head.txn h.txn.0) in
    let f2 = fine_field 23 15 bytes (stamp_at bytes == 0) (omega (arith, long)) (ap (λ n. n == 0) stamp ∙ not_zero head.stamp h.stamp.0) in
    let f3 =
    fine_field 27 25 bytes (length_at bytes == 0 || nat_lt 4096 (offset_at bytes + length_at bytes)) (omega (arith, long))
    (ap₂ (λ n m. n == 0 || nat_lt 4096 (m + n)) len offset ∙ ap₂ (λ a b. a || b) (not_zero (length xor) some) (le-ltb 4096 (head.offset + length xor) inside)) in
    let f4 =
    fine_field (27 + length_at bytes) 27 bytes (begins_or_ends_with_zero (xor_at bytes)) end
    (ap begins_or_ends_with_zero xs ∙ ap₂ (λ a b. a || b) (ne_eqb (get_or xor 0 0) 0 x.first) (ne_eqb (get_or xor (length xor - 1) 0) 0 x.last)) in (
      ap₂ option_or (fine_end 1 bytes (omega (arith, long))) (ap₂ option_or f1 (ap₂ option_or f2 (ap₂ option_or f3 f4))),
      ap₂ Diff (λ i. record { txn = txn i; table = table i; page = page i; stamp = stamp i; offset = offset i }) xs,
      ap (λ n. 27 + n) len ∙ omega arith,
    )

pub again : (rec : Record) (rest : List ℕ) → IsRecord rec → IsReadAgain (record_text rec ++ rest) rec
again (Diff head xor) rest r = diff_again head xor rest r.0 r.1
again (Commit txn) rest r = commit_again txn rest r
again (End txn) rest r = end_again txn rest r
