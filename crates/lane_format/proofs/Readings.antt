-- A lane file has exactly one reading.
use Rattle.std.proofs.Common.{◌≡◌, ◌≢◌, ◌⊎◌, inl, inr, ℕ, zero, suc, ◌+◌, ◌%◌, ◌<◌, ◌≤◌, Bool, if◌then◌else◌, List, [], ◌∷◌, ◌++◌, length, take, drop, get_or, slice_index, refl, sym, ◌∙◌, ap, subst, append_assoc, length-append, length-drop, length-take, arith}
use Rattle.std.specs.List.{AllByRecursion, flat_map}
use Rattle.std.specs.Int.{w16, w32, w64, from_le_bytes, to_le_bytes}
use Rattle.std.proofs.lemmas.Bool.{cases_eq, cases_lt}
use Rattle.std.proofs.lemmas.List.{take_at, drop_at, get_or-drop, get_or-take, get_or_past, append-nil}
use Rattle.std.proofs.lemmas.Grind.{flat_map-append}
use Rattle.std.proofs.lemmas.Nat.{from_le_bytes-to_le_bytes_2, from_le_bytes-to_le_bytes_8, le_bytes_4}
use Rattle.lane_format.specs.Lane.{IsBody, IsLane, IsNotOpen, IsOpen, batch_text, header_text}
use Rattle.lane_format.specs.Batches.{ReadTo}
use Rattle.lane_format.specs.LaneRead.{AgreesWith, DamagedAt, HasBatches, HasHead, Holding, IsDamaged, IsOfFile, IsWhole, LacksBatch, LacksHead, LaneRead, NotOpen, generation_in, head_reads, lane_in, lane_reads, placed}
use Rattle.lane_format.specs.LaneRead.{InHead, NoBatch, OtherGeneration, OtherLane, Short}
use Rattle.lane_format.specs.declared.head.Head.{Head}
use Rattle.lane_format.specs.declared.head.Head.TheVariants as head
use Rattle.lane_format.specs.declared.segment.Batch.{Batch}
use Rattle.lane_format.proofs.Gates.{batch_there, length-batch_text, length_lacks, length_told, short_lacks}
use Rattle.lane_format.proofs.Lanes.{one_more_fits}
use Rattle.lane_format.proofs.ReadTo.{batches-push}

-- ---- two runs of batches at the front of a text

body_told : (b c : List ℕ) → batch_text b ≡ batch_text c → b ≡ c
unfolding batch_text
body_told b c is = ap (drop 5) is

same_batch : (b c xs ys : List ℕ) → IsBody b → IsBody c → batch_text b ++ xs ≡ batch_text c ++ ys → (b ≡ c) × (xs ≡ ys)
same_batch b c xs ys b_fits c_fits is =
    let text = batch_text b ++ xs in
    let size : length b ≡ length c = sym (length_told b xs text b_fits refl) ∙ length_told c ys text c_fits is in
    let n = length (batch_text b) in
    let sizes : length (batch_text c) ≡ n = omega (arith, size, length-batch_text b, length-batch_text c) in
    let front : batch_text b ≡ batch_text c = sym (take_at (batch_text b) xs n refl) ∙ ap (take n) is ∙ take_at (batch_text c) ys n sizes in
    let behind : xs ≡ ys = sym (drop_at (batch_text b) xs n refl) ∙ ap (drop n) is ∙ drop_at (batch_text c) ys n sizes in
    (body_told b c front, behind)

-- a batch begins with an open gate
batch_open : (b zs : List ℕ) → IsOpen (batch_text b ++ zs)
unfolding batch_text
batch_open b zs = refl

-- the second run continues where the first one ends
abbrev Continues : List (List ℕ) → List ℕ → List (List ℕ) → List ℕ → Type 0
Continues bodies xs others ys = (b : List ℕ) × (more : List (List ℕ)) × (others ≡ bodies ++ b ∷ more) × (xs ≡ batch_text b ++ (flat_map batch_text more ++ ys))

abbrev Meet : List (List ℕ) → List ℕ → List (List ℕ) → List ℕ → Type 0
Meet bodies xs others ys = ((bodies ≡ others) × (xs ≡ ys)) ⊎ (Continues bodies xs others ys ⊎ Continues others ys bodies xs)

meet_later : (b : List ℕ) (bodies others : List (List ℕ)) (xs ys : List ℕ) → Meet bodies xs others ys → Meet (b ∷ bodies) xs (b ∷ others) ys
meet_later b bodies others xs ys (inl same) = inl (ap (λ (l : List (List ℕ)). b ∷ l) same.0, same.1)
meet_later b bodies others xs ys (inr (inl on)) = inr (inl (on.0, on.1, ap (λ (l : List (List ℕ)). b ∷ l) on.2, on.3))
meet_later b bodies others xs ys (inr (inr on)) = inr (inr (on.0, on.1, ap (λ (l : List (List ℕ)). b ∷ l) on.2, on.3))

meets : (bodies others : List (List ℕ)) (xs ys : List ℕ) → AllByRecursion IsBody bodies → AllByRecursion IsBody others → flat_map batch_text bodies ++ xs ≡ flat_map batch_text others ++ ys → Meet bodies xs others ys
meets [] [] xs ys fit others_fit is = inl (refl, is)
meets [] (c ∷ others) xs ys fit others_fit is = inr (inl (c, others, refl, is ∙ append_assoc (batch_text c) (flat_map batch_text others) ys))
meets (b ∷ bodies) [] xs ys fit others_fit is = inr (inr (b, bodies, refl, sym is ∙ append_assoc (batch_text b) (flat_map batch_text bodies) xs))
meets (b ∷ bodies) (c ∷ others) xs ys fit others_fit is =
    let both = same_batch b c (flat_map batch_text bodies ++ xs) (flat_map batch_text others ++ ys) fit.0 others_fit.0
    (sym (append_assoc (batch_text b) (flat_map batch_text bodies) xs) ∙ is ∙ append_assoc (batch_text c) (flat_map batch_text others) ys) in
    subst (λ (x : List ℕ). Meet (b ∷ bodies) xs (x ∷ others) ys) both.0 (meet_later b bodies others xs ys (meets bodies others xs ys fit.1 others_fit.1 both.1))

runs_meet : (bodies others : List (List ℕ)) (xs ys bytes : List ℕ) → HasBatches bodies xs bytes → HasBatches others ys bytes → Meet bodies xs others ys
runs_meet bodies others xs ys bytes has other = meets bodies others xs ys has.fit other.fit (sym has.text ∙ other.text)

fits_there : (bodies more : List (List ℕ)) (b : List ℕ) → AllByRecursion IsBody (bodies ++ b ∷ more) → IsBody b
fits_there [] more b all = all.0
fits_there (o ∷ bodies) more b all = fits_there bodies more b all.1

-- no run continues at a gate that isn't open, or where no batch stands
ends_there : (bodies others : List (List ℕ)) (xs ys : List ℕ) → IsNotOpen xs → Continues bodies xs others ys → ⊥
ends_there bodies others xs ys end on = end (subst IsOpen (sym on.3) (batch_open on.0 (flat_map batch_text on.1 ++ ys)))

lacks_there : (bodies others : List (List ℕ)) (xs ys : List ℕ) → LacksBatch xs → AllByRecursion IsBody others → Continues bodies xs others ys → ⊥
lacks_there bodies others xs ys lacks fit on = lacks.none on.0 (flat_map batch_text on.1 ++ ys) (fits_there bodies on.1 on.0 (subst (AllByRecursion IsBody) on.2 fit)) on.3

-- ---- at most one reading

module _ (odd : Bool) (lane : ℕ) (bytes : List ℕ) where
  one_whole : (g g' : ℕ) (batches batches' : List Batch) → IsWhole odd lane bytes g batches → IsWhole odd lane bytes g' batches' → Holding g batches ≡ Holding g' batches'
  one_whole g g' batches batches' a b = elim (runs_meet a.bodies b.bodies a.rest b.rest bytes a.text b.text) [
    | inl same ↦
        let generations : g ≡ g' = a.generation_is ∙ sym b.generation_is in
        let lists : batches ≡ batches' = a.batches_are ∙ ap (placed 11) same.0 ∙ sym b.batches_are in
        ap (λ n. Holding n batches) generations ∙ ap (Holding g') lists
    | inr (inl on) ↦ absurd (ends_there a.bodies b.bodies a.rest b.rest a.end on)
    | inr (inr on) ↦ absurd (ends_there b.bodies a.bodies b.rest a.rest b.end on)
  ]

  no_head : (at : ℕ) → LacksHead odd lane bytes at → HasHead odd lane bytes → ⊥
  no_head at (Short short is) head = omega (arith, short, head.long)
  no_head at (OtherGeneration long other is) head = other head.generation
  no_head at (OtherLane long generation other is) head = other head.lane_is

  one_lack : (at at' : ℕ) → LacksHead odd lane bytes at → LacksHead odd lane bytes at' → at ≡ at'
  one_lack at at' (Short short is) (Short short' is') = is ∙ sym is'
  one_lack at at' (Short short is) (OtherGeneration long other is') = absurd (omega (arith, short, long))
  one_lack at at' (Short short is) (OtherLane long generation other is') = absurd (omega (arith, short, long))
  one_lack at at' (OtherGeneration long other is) (Short short is') = absurd (omega (arith, short, long))
  one_lack at at' (OtherGeneration long other is) (OtherGeneration long' other' is') = is ∙ sym is'
  one_lack at at' (OtherGeneration long other is) (OtherLane long' generation other' is') = absurd (other generation)
  one_lack at at' (OtherLane long generation other is) (Short short is') = absurd (omega (arith, short, long))
  one_lack at at' (OtherLane long generation other is) (OtherGeneration long' other' is') = absurd (other' generation)
  one_lack at at' (OtherLane long generation other is) (OtherLane long' generation' other' is') = is ∙ sym is'

  lack_before : (at : ℕ) → LacksHead odd lane bytes at → at < 11
  lack_before at (Short short is) = omega (arith, is)
  lack_before at (OtherGeneration long other is) = omega (arith, is)
  lack_before at (OtherLane long generation other is) = omega (arith, is)

  not_both : (g at : ℕ) (batches : List Batch) → IsWhole odd lane bytes g batches → IsDamaged odd lane bytes at → ⊥
  not_both g at batches a (InHead lacks) = no_head at lacks a.head
  not_both g at batches a (NoBatch bodies rest head text lacks is) = elim (runs_meet a.bodies bodies a.rest rest bytes a.text text) [
    | inl same ↦ a.end (subst IsOpen (sym same.1) lacks.gate)
    | inr (inl on) ↦ ends_there a.bodies bodies a.rest rest a.end on
    | inr (inr on) ↦ lacks_there bodies a.bodies rest a.rest lacks a.text.fit on
  ]

  one_place : (at at' : ℕ) → IsDamaged odd lane bytes at → IsDamaged odd lane bytes at' → at ≡ at'
  one_place at at' (InHead lacks) (InHead lacks') = one_lack at at' lacks lacks'
  one_place at at' (InHead lacks) (NoBatch bodies rest head text none is') = absurd (no_head at lacks head)
  one_place at at' (NoBatch bodies rest head text none is) (InHead lacks') = absurd (no_head at' lacks' head)
  one_place at at' (NoBatch bodies rest head text lacks is) (NoBatch others rest' head' text' lacks' is') = elim (runs_meet bodies others rest rest' bytes text text') [
    | inl same ↦ is ∙ ap (λ (l : List (List ℕ)). 11 + length (flat_map batch_text l)) same.0 ∙ sym is'
    | inr (inl on) ↦ absurd (lacks_there bodies others rest rest' lacks text'.fit on)
    | inr (inr on) ↦ absurd (lacks_there others bodies rest' rest lacks' text.fit on)
  ]

  pub at_most_one : (a b : LaneRead) → lane_reads odd lane bytes a → lane_reads odd lane bytes b → a ≡ b
  at_most_one NotOpen NotOpen first second = refl
  at_most_one NotOpen (DamagedAt at) first second = absurd (first second.0)
  at_most_one NotOpen (Holding g batches) first second = absurd (first second.0)
  at_most_one (DamagedAt at) NotOpen first second = absurd (second first.0)
  at_most_one (DamagedAt at) (DamagedAt at') first second = ap DamagedAt (one_place at at' first.1 second.1)
  at_most_one (DamagedAt at) (Holding g batches) first second = absurd (not_both g at batches second.1 first.1)
  at_most_one (Holding g batches) NotOpen first second = absurd (second first.0)
  at_most_one (Holding g batches) (DamagedAt at) first second = absurd (not_both g at batches first.1 second.1)
  at_most_one (Holding g batches) (Holding g' batches') first second = one_whole g g' batches batches' first.1 second.1

  pub one_head : (a b : Head) → head_reads odd lane bytes a → head_reads odd lane bytes b → a ≡ b
  one_head head.NotOpen head.NotOpen first second = refl
  one_head head.NotOpen (head.Open g) first second = absurd (first second.0)
  one_head head.NotOpen (head.Damaged at) first second = absurd (first second.0)
  one_head (head.Open g) head.NotOpen first second = absurd (second first.0)
  one_head (head.Open g) (head.Open g') first second = ap head.Open (first.2 ∙ sym second.2)
  one_head (head.Open g) (head.Damaged at) first second = absurd (no_head at second.1 first.1)
  one_head (head.Damaged at) head.NotOpen first second = absurd (second first.0)
  one_head (head.Damaged at) (head.Open g) first second = absurd (no_head at first.1 second.1)
  one_head (head.Damaged at) (head.Damaged at') first second = ap head.Damaged (one_lack at at' first.1 second.1)

  behind_head_only : (at : ℕ) → HasHead odd lane bytes → IsDamaged odd lane bytes at → 11 ≤ at
  behind_head_only at has (InHead lacks) = absurd (no_head at lacks has)
  behind_head_only at has (NoBatch bodies rest head text lacks is) = omega (arith, is)

  pub agrees : (h : Head) (read : LaneRead) → head_reads odd lane bytes h → lane_reads odd lane bytes read → AgreesWith h read
  agrees head.NotOpen read first second = at_most_one read NotOpen second first
  agrees (head.Damaged at) read first second = (lack_before at first.1, at_most_one read (DamagedAt at) second (first.0, InHead first.1))
  agrees (head.Open g) NotOpen first second = absurd (second first.0)
  agrees (head.Open g) (DamagedAt at) first second = inr (at, behind_head_only at first.1 second.1, refl)
  agrees (head.Open g) (Holding g' batches) first second = inl (batches, ap (λ n. Holding n batches) (second.1.generation_is ∙ sym first.2))

  pub reads_whole : (g : ℕ) (batches : List Batch) (gate : ℕ) → head_reads odd lane bytes (head.Open g) → ReadTo bytes batches gate → IsNotOpen (drop gate bytes) → lane_reads odd lane bytes (Holding g batches)
  reads_whole g batches gate first so_far end = (first.0, record { bodies = so_far.bodies; rest = drop gate bytes; head = first.1; generation_is = first.2; text = so_far.text; end = end; batches_are = so_far.batches_are })

  pub reads_broken : (g : ℕ) (batches : List Batch) (gate : ℕ) → head_reads odd lane bytes (head.Open g) → ReadTo bytes batches gate → LacksBatch (drop gate bytes) → lane_reads odd lane bytes (DamagedAt gate)
  reads_broken g batches gate first so_far lacks = (first.0, NoBatch so_far.bodies (drop gate bytes) first.1 so_far.text lacks so_far.place)

  front_placed : (gate : ℕ) (bodies others : List (List ℕ)) → (more : List Batch) × (placed gate (bodies ++ others) ≡ placed gate bodies ++ more)
  front_placed gate [] others = (placed gate others, refl)
  front_placed gate (b ∷ bodies) others =
      let rest = front_placed (gate + 5 + length b) bodies others in
      (rest.0, ap (λ (l : List Batch). let first : Batch = record { at = gate + 5; body = b } in first ∷ l) rest.1)

  pub begins : (g : ℕ) (all batches : List Batch) (gate : ℕ) → lane_reads odd lane bytes (Holding g all) → ReadTo bytes batches gate → (more : List Batch) × (all ≡ batches ++ more)
  begins g all batches gate reads so_far =
      let whole = reads.1 in
      elim (runs_meet so_far.bodies whole.bodies (drop gate bytes) whole.rest bytes so_far.text whole.text) [
        | inl same ↦ ([], whole.batches_are ∙ ap (placed 11) (sym same.0) ∙ sym so_far.batches_are ∙ sym (append-nil batches))
        | inr (inl on) ↦
            let front = front_placed 11 so_far.bodies (on.0 ∷ on.1) in
            (front.0, whole.batches_are ∙ ap (placed 11) on.2 ∙ front.1 ∙ ap (λ (l : List Batch). l ++ front.0) (sym so_far.batches_are))
        | inr (inr on) ↦ absurd (ends_there whole.bodies so_far.bodies whole.rest (drop gate bytes) whole.end on)
      ]

  pub before_damage : (at : ℕ) (batches : List Batch) (gate : ℕ) → lane_reads odd lane bytes (DamagedAt at) → 11 ≤ at → ReadTo bytes batches gate → gate ≤ at
  before_damage at batches gate reads late so_far = before (reads.1) where
    before : IsDamaged odd lane bytes at → gate ≤ at
    before (InHead lacks) = absurd (omega (arith, late, lack_before at lacks))
    before (NoBatch bodies rest head text lacks is) = elim (runs_meet so_far.bodies bodies (drop gate bytes) rest bytes so_far.text text) [
      | inl same ↦ omega (arith, so_far.place, is, ap (λ (l : List (List ℕ)). length (flat_map batch_text l)) same.0)
      | inr (inl on) ↦
          omega (arith, so_far.place, is, ap (λ (l : List (List ℕ)). length (flat_map batch_text l)) on.2, ap length (flat_map-append batch_text so_far.bodies (on.0 ∷ on.1)), length-append (flat_map batch_text so_far.bodies) (flat_map batch_text (on.0 ∷ on.1)))
      | inr (inr on) ↦ absurd (lacks_there bodies so_far.bodies rest (drop gate bytes) lacks so_far.text.fit on)
    ]

-- ---- some reading

-- each is a byte
abbrev AreBytes : List ℕ → Type 0
AreBytes bytes = (i : ℕ) → get_or bytes i 0 < 256

bytes-drop : (n : ℕ) (bytes : List ℕ) → AreBytes bytes → AreBytes (drop n bytes)
bytes-drop n bytes are i = rw get_or-drop (are (n + i))

bytes-take : (n : ℕ) (bytes : List ℕ) → AreBytes bytes → AreBytes (take n bytes)
bytes-take n bytes are i = elim (cases_lt i n) [
  | inl lt ↦ rw (get_or-take n bytes i 0 lt) (are i)
  | inr le ↦ rw (get_or_past (take n bytes) i 0 (omega (arith, length-take n bytes))) (omega arith)
]

small : (bytes : List ℕ) → AreBytes bytes → from_le_bytes w32 bytes < 4294967296
small bytes are = omega (arith, are 0, are 1, are 2, are 3)

module _ (odd : Bool) (lane : ℕ) (bytes : List ℕ) (gate : IsOpen bytes) (head : HasHead odd lane bytes) where
  abbrev Found : Type 0
  Found = (read : LaneRead) × lane_reads odd lane bytes read

  broken : (bodies : List (List ℕ)) (rest : List ℕ) → HasBatches bodies rest bytes → LacksBatch rest → Found
  broken bodies rest has lacks = (DamagedAt (11 + length (flat_map batch_text bodies)), (gate, NoBatch bodies rest head has lacks refl))

  ended : (bodies : List (List ℕ)) (rest : List ℕ) → HasBatches bodies rest bytes → IsNotOpen rest → Found
  ended bodies rest has end = (Holding (generation_in bytes) (placed 11 bodies), (gate, record { bodies = bodies; rest = rest; head = head; generation_is = refl; text = has; end = end; batches_are = refl }))

  module _ (bodies : List (List ℕ)) (rest : List ℕ) (has : HasBatches bodies rest bytes) (are : AreBytes rest) (opened : IsOpen rest)
      (next : (body behind : List ℕ) → HasBatches (bodies ++ body ∷ []) behind bytes → AreBytes behind → length behind < length rest → Found) where
    n : ℕ
    n = from_le_bytes w32 (take 4 (drop 1 rest))

    one_batch : 5 ≤ length rest → n ≢ 0 → 5 + n ≤ length rest → Found
    unfolding n
    one_batch long some whole =
        let said = take 4 (drop 1 rest) in
        let said_are = bytes-take 4 (drop 1 rest) (bytes-drop 1 rest are) in
        let four : length said ≡ 4 = omega (arith, long, length-take 4 (drop 1 rest), length-drop 1 rest) in
        let body = take n (drop 5 rest) in
        let size : length body ≡ n = omega (arith, whole, length-take n (drop 5 rest), length-drop 5 rest) in
        let less = small said said_are in
        let fits : IsBody body = (omega (arith, size, some), omega (arith, size, less)) in
        let spelled : said ≡ to_le_bytes w32 (length body) = sym (le_bytes_4 said n four said_are refl) ∙ ap (to_le_bytes w32) (sym size) in
        let behind = drop (5 + length body) rest in
        let batch = batch_there rest body opened spelled (ap (λ k. take k (drop 5 rest)) (sym size)) in
        next body behind
        (record {
          fit = one_more_fits bodies body has.fit fits;
          text = has.text ∙ ap (λ (l : List ℕ). flat_map batch_text bodies ++ l) batch ∙ sym (append_assoc (flat_map batch_text bodies) (batch_text body) behind) ∙ ap (λ (l : List ℕ). l ++ behind) (sym (batches-push bodies body));
        })
        (bytes-drop (5 + length body) rest are)
        (omega (arith, long, length-drop (5 + length body) rest))

    step : Found
    unfolding n
    step = elim (cases_lt (length rest) 5) [
      | inl short ↦ broken bodies rest has (short_lacks rest opened short)
      | inr long ↦ elim (cases_eq n 0) [
        | inl none ↦ broken bodies rest has (length_lacks rest n opened refl (inl none))
        | inr some ↦ elim (cases_lt (length rest) (5 + n)) [
          | inl cut ↦ broken bodies rest has (length_lacks rest n opened refl (inr cut))
          | inr whole ↦ one_batch long some whole
        ]
      ]
    ]

  walk : (fuel : ℕ) (bodies : List (List ℕ)) (rest : List ℕ) → HasBatches bodies rest bytes → AreBytes rest → length rest ≤ fuel → Found
  walk fuel bodies [] has are short = ended bodies [] has (λ is. let one : 0 ≡ 1 = is in omega (arith, one))
  walk zero bodies (b ∷ rest) has are short = absurd (omega (arith, short))
  walk (suc fuel) bodies (b ∷ rest) has are short = elim (cases_eq b 1) [
    | inr shut ↦ ended bodies (b ∷ rest) has shut
    | inl opened ↦ step bodies (b ∷ rest) has are opened (λ body behind more more_are less. walk fuel (bodies ++ body ∷ []) behind more more_are (omega (arith, short, less)))
  ]

of_file : (odd : Bool) (generation : ℕ) → IsOfFile odd generation ⊎ (¬ (IsOfFile odd generation))
of_file odd generation = elim (cases_lt generation 1) [
  | inl none ↦ inr (λ is. omega (arith, none, is.0))
  | inr some ↦ elim (cases_eq (generation % 2) (if odd then 1 else 0)) [
    | inl is ↦ inl (some, is)
    | inr other ↦ inr (λ is. other is.1)
  ]
]

pub has_reading : (odd : Bool) (lane : ℕ) (bytes : List ℕ) → AreBytes bytes → (read : LaneRead) × lane_reads odd lane bytes read
has_reading odd lane bytes are = elim (cases_eq (slice_index bytes 0) 1) [
  | inr shut ↦ (NotOpen, shut)
  | inl gate ↦ elim (cases_lt (length bytes) 11) [
    | inl short ↦ (DamagedAt 0, (gate, InHead (Short short refl)))
    | inr long ↦ elim (of_file odd (generation_in bytes)) [
      | inr other ↦ (DamagedAt 1, (gate, InHead (OtherGeneration long other refl)))
      | inl generation ↦ elim (cases_eq (lane_in bytes) lane) [
        | inr other ↦ (DamagedAt 9, (gate, InHead (OtherLane long generation other refl)))
        | inl same ↦
            walk odd lane bytes gate (record { long = long; generation = generation; lane_is = same }) (length bytes) [] (drop 11 bytes) (record { fit = tt; text = refl }) (bytes-drop 11 bytes are) (omega (arith, length-drop 11 bytes))
      ]
    ]
  ]
]

-- ---- what was written

module _ (generation lane : ℕ) (rest : List ℕ) where
  head_length : 11 ≤ length (header_text generation lane ++ rest)
  unfolding header_text
  head_length = omega (arith, length-append (header_text generation lane) rest)

  head_generation : take 8 (drop 1 (header_text generation lane ++ rest)) ≡ to_le_bytes w64 generation
  unfolding header_text
  head_generation = refl

  head_lane : take 2 (drop 9 (header_text generation lane ++ rest)) ≡ to_le_bytes w16 lane
  unfolding header_text
  head_lane = refl

  head_open : IsOpen (header_text generation lane ++ rest)
  unfolding header_text
  head_open = refl

  behind_head : drop 11 (header_text generation lane ++ rest) ≡ rest
  unfolding header_text
  behind_head = refl

pub reads_lane : (odd : Bool) (generation lane : ℕ) (bodies : List (List ℕ)) (bytes : List ℕ) → IsOfFile odd generation → IsLane generation lane bodies bytes → lane_reads odd lane bytes (Holding generation (placed 11 bodies))
reads_lane odd generation lane bodies bytes of is =
    let rest = is.gate ∷ is.rest in
    let behind = flat_map batch_text bodies ++ rest in
    let text : header_text generation lane ++ behind ≡ bytes = sym (is.text ∙ append_assoc (header_text generation lane) (flat_map batch_text bodies) rest) in
    let told : generation_in (header_text generation lane ++ behind) ≡ generation = ap (from_le_bytes w64) (head_generation generation lane behind) ∙ from_le_bytes-to_le_bytes_8 generation is.head.fits in
    let lane_told : lane_in (header_text generation lane ++ behind) ≡ lane = ap (from_le_bytes w16) (head_lane generation lane behind) ∙ from_le_bytes-to_le_bytes_2 lane is.head.lane_fits in
    let whole : IsWhole odd lane (header_text generation lane ++ behind) generation (placed 11 bodies) = record {
      bodies = bodies;
      rest = rest;
      head = record { long = head_length generation lane behind; generation = subst (IsOfFile odd) (sym told) of; lane_is = lane_told };
      generation_is = sym told;
      text = record { fit = is.bodies_fit; text = behind_head generation lane behind };
      end = is.closed;
      batches_are = refl;
    } in
    subst (λ (l : List ℕ). lane_reads odd lane l (Holding generation (placed 11 bodies))) text (head_open generation lane behind, whole)
