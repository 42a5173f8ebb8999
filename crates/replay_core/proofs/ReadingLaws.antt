-- How the reading of a lane's records begins, goes on by a gate or a record, and ends.
use Rattle.std.proofs.Common.{◌≡◌, Bool, Option, None, Some, Result, Ok, Err, ⊎_elim, inl, inr, ℕ, ◌+◌, ◌-◌, ◌<◌, ◌≤◌, min, List, [], ◌∷◌, ◌++◌, length, take, drop, refl, sym, ◌∙◌, ap, ap₂, subst, arith, append_assoc, length-append}
use Rattle.std.proofs.lemmas.Bool.{cases_lt}
use Rattle.std.proofs.lemmas.List.{append-nil, drop-drop, take-take, take_at, length-take, length-drop}
use Rattle.std.proofs.lemmas.Grind.{flat_map-append}
use Rattle.std.specs.List.{AllByRecursion, flat_map}
use Rattle.xor_records.specs.Record.{Record, Diff, Commit, End, IsRecord, record_text}
use Rattle.lane_format.specs.Batches.{batch_at, stands}
use Rattle.lane_format.specs.declared.gate.AtGate.TheVariants.{Body}
use Rattle.lane_format.specs.declared.segment.Batch.{Batch}
use Rattle.lane_format.specs.LaneRead.{AgreesWith, DamagedAt, Holding, head_reads, lane_reads}
use Rattle.lane_format.specs.declared.head.Head.TheVariants.{Open}
use Rattle.lane_format.proofs.ReadTo.{next_read}
use Rattle.lane_format.proofs.Readings.{agrees, before_damage}
use Rattle.replay_core.specs.Segments.{AreBefore, AreInBody, AreItems, Hold, Placed, ReadUpTo, items_from}
use Rattle.replay_core.proofs.WindowLaws.{take_plus}

-- ---- records

-- a record has 1 to 4,123 bytes
pub record_length : (rec : Record) → IsRecord rec → (1 ≤ length (record_text rec)) × (length (record_text rec) ≤ 4123)
unfolding record_text
record_length (Diff head xor) is = (omega arith, omega (arith, is.1.inside))
record_length (Commit txn) is = (omega arith, omega arith)
record_length (End txn) is = (omega arith, omega arith)

-- a record at the front of bytes stands at the front of the first 4,123 of them
pub front_record : (xs : List ℕ) (rec : Record) (rest : List ℕ) (m n : ℕ) → IsRecord rec → take m xs ≡ record_text rec ++ rest → n ≡ min m 4123 → take n xs ≡ record_text rec ++ take (n - length (record_text rec)) rest
front_record xs rec rest m n is text size =
    let k = length (record_text rec) in
    let bound = (record_length rec is).1 in
    let within : k ≤ m = omega (arith, ap length text, length-append (record_text rec) rest, length-take m xs) in
    let n_is : n ≡ k + (n - k) = omega (arith, bound, within, size) in
    let behind : drop k (take m xs) ≡ rest = ap (drop k) text ∙ drop_front (record_text rec) rest in
    sym (take-take n m xs (omega (arith, size)))
    ∙ ap (take n) text
    ∙ ap (λ j. take j (record_text rec ++ rest)) n_is
    ∙ take_plus k (n - k) (record_text rec ++ rest)
    ∙ ap₂ (λ (a b : List ℕ). a ++ b) (take_at (record_text rec) rest k refl) (ap (take (n - k)) (drop_front (record_text rec) rest))
  where
    drop_front : (a b : List ℕ) → drop (length a) (a ++ b) ≡ b
    drop_front [] b = refl
    drop_front (x ∷ a) b = drop_front a b

-- what was read at the front of bytes as a record has a byte or more
pub record_at_front : (bytes : List ℕ) (rec : Record) (len : ℕ) → IsRecord rec → take len bytes ≡ record_text rec → len ≤ length bytes → 1 ≤ len
record_at_front bytes rec len is text fits = omega (arith, (record_length rec is).0, ap length text, length-take len bytes, fits)

-- ---- items

pub items-push : (at : ℕ) (records : List Record) (rec : Record) (place : ℕ) → place ≡ at + length (flat_map record_text records) → items_from at (records ++ rec ∷ []) ≡ items_from at records ++ record { at = place; rec = rec } ∷ []
items-push at [] rec place is = ap (λ (n : ℕ). let i : Placed = record { at = n; rec = rec } in i ∷ []) (let e : at ≡ place = omega (arith, is) in e)
items-push at (first ∷ records) rec place is =
    ap (λ (l : List Placed). let i : Placed = record { at = at; rec = first } in i ∷ l)
    (items-push (at + length (record_text first)) records rec place (omega (arith, is, length-append (record_text first) (flat_map record_text records))))

all-push : (records : List Record) (rec : Record) → AllByRecursion IsRecord records → IsRecord rec → AllByRecursion IsRecord (records ++ rec ∷ [])
all-push [] rec each is = (is, tt)
all-push (first ∷ records) rec each is = (each.0, all-push records rec each.1 is)

-- one record more
pub items_more : (base place len : ℕ) (bytes : List ℕ) (part : List Placed) (rec : Record) → AreItems base (take (place - base) (drop base bytes)) part → base ≤ place → place + len ≤ length bytes → IsRecord rec → take len (drop place bytes) ≡ record_text rec
    → AreItems base (take (place + len - base) (drop base bytes)) (part ++ record { at = place; rec = rec } ∷ [])
items_more base place len bytes part rec so_far low high is text =
    let k = place - base in
    let back : base + k ≡ place = omega (arith, low) in
    let both : place + len - base ≡ k + len = omega (arith, low) in
    let size : length (take k (drop base bytes)) ≡ k = omega (arith, low, high, length-take k (drop base bytes), length-drop base bytes) in
    let there : place ≡ base + length (flat_map record_text so_far.records) = omega (arith, back, size, ap length so_far.text) in
    record {
      records = so_far.records ++ rec ∷ [];
      each = all-push so_far.records rec so_far.each is;
      text =
          ap (λ n. take n (drop base bytes)) both
          ∙ take_plus k len (drop base bytes)
          ∙ ap₂ (λ (a b : List ℕ). a ++ b) so_far.text (ap (take len) (drop-drop k base bytes ∙ ap (λ n. drop n bytes) back) ∙ text ∙ sym (append-nil (record_text rec)))
          ∙ sym (flat_map-append record_text so_far.records (rec ∷ []));
      items_are = ap (λ (l : List Placed). l ++ record { at = place; rec = rec } ∷ []) so_far.items_are ∙ sym (items-push base so_far.records rec place there);
    }

-- ---- batches

pub hold-push : (batches : List Batch) (batch : Batch) (before part : List Placed) → Hold batches before → AreItems batch.at batch.body part → Hold (batches ++ batch ∷ []) (before ++ part)
hold-push [] batch before part held are = (part, [], are, refl, ap (λ (l : List Placed). l ++ part) held ∙ sym (append-nil part))
hold-push (first ∷ batches) batch before part held are =
    (held.0, held.1 ++ part, held.2, hold-push batches batch held.1 part held.3 are, ap (λ (l : List Placed). l ++ part) held.4 ∙ append_assoc held.0 held.1 part)

-- a body was read to its end
pub whole_body : (bytes : List ℕ) (gate len : ℕ) (before part items : List Placed) → AreBefore bytes before gate → stands (drop gate bytes) (Body len) → AreItems (gate + 5) (take len (drop (gate + 5) bytes)) part → items ≡ before ++ part → AreBefore bytes items (gate + 5 + len)
whole_body bytes gate len before part items whole batch are is = record {
  batches = whole.batches ++ batch_at bytes gate len ∷ [];
  whole = next_read bytes whole.batches gate len whole.whole batch;
  held = subst (Hold (whole.batches ++ batch_at bytes gate len ∷ [])) (sym is) (hold-push whole.batches (batch_at bytes gate len) before part whole.held are);
}

-- ---- how far the file was read

-- where no body is left the reading stands at a gate
pub at_gate_of : (bytes : List ℕ) (items : List Placed) (place end : ℕ) → place ≡ end → ReadUpTo bytes items place end → AreBefore bytes items place
at_gate_of bytes items place end same (inl gate) = gate.0
at_gate_of bytes items place end same (inr body) = absurd (omega (arith, same, body.inside.1))

pub in_body_of : (bytes : List ℕ) (items : List Placed) (place end : ℕ) → place < end → ReadUpTo bytes items place end → AreInBody bytes items place end
in_body_of bytes items place end less (inl gate) = absurd (omega (arith, less, gate.1))
in_body_of bytes items place end less (inr body) = body

-- a batch was opened
pub opened : (bytes : List ℕ) (items : List Placed) (gate len : ℕ) → AreBefore bytes items gate → stands (drop gate bytes) (Body len) → 1 ≤ len → ReadUpTo bytes items (gate + 5) (gate + 5 + len)
opened bytes items gate len whole batch some =
    let none : gate + 5 - (gate + 5) ≡ 0 = omega arith in
    inr (record {
      gate = gate;
      len = len;
      before = items;
      part = [];
      whole = whole;
      batch = batch;
      end_is = refl;
      inside = (omega arith, omega (arith, some));
      read = record { records = []; each = tt; text = ap (λ n. take n (drop (gate + 5) bytes)) none; items_are = refl };
      items_are = sym (append-nil items);
    })

-- a record was read
pub stepped : (bytes : List ℕ) (items : List Placed) (place end len : ℕ) (rec : Record) → AreInBody bytes items place end → end ≤ length bytes → place + len ≤ end → IsRecord rec → take len (drop place bytes) ≡ record_text rec
    → ReadUpTo bytes (items ++ record { at = place; rec = rec } ∷ []) (place + len) end
stepped bytes items place end len rec body fits inside is text =
    let item : Placed = record { at = place; rec = rec } in
    let base = body.gate + 5 in
    let more = items_more base place len bytes body.part rec body.read body.inside.0 (omega (arith, fits, inside)) is text in
    let items_are : items ++ item ∷ [] ≡ body.before ++ (body.part ++ item ∷ []) = ap (λ (l : List Placed). l ++ item ∷ []) body.items_are ∙ append_assoc body.before body.part (item ∷ []) in
    ⊎_elim
    (λ less.
    inr (record {
      gate = body.gate;
      len = body.len;
      before = body.before;
      part = body.part ++ item ∷ [];
      whole = body.whole;
      batch = body.batch;
      end_is = body.end_is;
      inside = (omega (arith, body.inside.0), less);
      read = more;
      items_are = items_are;
    }))
    (λ last.
    let there : place + len ≡ base + body.len = omega (arith, last, inside, body.end_is) in
    let size : place + len - base ≡ body.len = omega (arith, there) in
    let all = whole_body bytes body.gate body.len body.before (body.part ++ item ∷ []) (items ++ item ∷ []) body.whole body.batch (subst (λ n. AreItems base (take n (drop base bytes)) (body.part ++ item ∷ [])) size more) items_are in
    inl (subst (AreBefore bytes (items ++ item ∷ [])) (sym there) all, omega (arith, there, body.end_is)))
    (cases_lt (place + len) end)

-- ---- results

pub ok_no_err : {A E : Type 0} (a : A) (e : E) (r : Result A E) → r ≡ Ok a → r ≡ Err e → ⊥
ok_no_err {A} {E} a e r ok err = absurd (let both : ◌≡◌ {A = Result A E} (Ok a) (Err e) = sym ok ∙ err in cc)

pub ok_same : {A E : Type 0} (a b : A) (r : Result A E) → r ≡ Ok a → r ≡ Ok b → a ≡ b
ok_same {A} {E} a b r one other = let both : ◌≡◌ {A = Result A E} (Ok a) (Ok b) = sym one ∙ other in cc

pub none_some : {A : Type 0} (a : A) → Some a ≡ None → ⊥
none_some {A} a e = absurd (let both : ◌≡◌ {A = Option A} (Some a) None = e in cc)

-- ---- damage

-- a file with a head of its own is damaged behind it
pub behind_head : (generation at : ℕ) → AgreesWith (Open generation) (DamagedAt at) → 11 ≤ at
behind_head generation at (inl whole) = absurd (let both : DamagedAt at ≡ Holding generation whole.0 = whole.1 in cc)
behind_head generation at (inr damage) =
    let both : DamagedAt at ≡ DamagedAt damage.0 = damage.2 in
    let same : at ≡ damage.0 = cc in
    omega (arith, damage.1, same)

-- the end of a batch's body lies before any damage of the file
pub ends_before_damage : (odd : Bool) (lane : ℕ) (bytes : List ℕ) (generation : ℕ) (items : List Placed) (at end later : ℕ) → head_reads odd lane bytes (Open generation) → AreInBody bytes items at end
    → lane_reads odd lane bytes (DamagedAt later) → end ≤ later
ends_before_damage odd lane bytes generation items at end later head body damaged =
    let all = next_read bytes body.whole.batches body.gate body.len body.whole.whole body.batch in
    let least = behind_head generation later (agrees odd lane bytes (Open generation) (DamagedAt later) head damaged) in
    let less = before_damage odd lane bytes later (body.whole.batches ++ batch_at bytes body.gate body.len ∷ []) (body.gate + 5 + body.len) damaged least all in
    omega (arith, less, body.end_is)
