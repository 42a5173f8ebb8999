-- The images after some calls are those that hold at each place what it may hold.
use Rattle.std.proofs.Common.{◌≡◌, ◌⊎◌, inl, inr, ⊎_elim, ℕ, zero, suc, ◌+◌, ◌-◌, ◌<◌, ◌≤◌, min, max, true, false, ◌&&◌, nat_le, nat_lt, List, [], ◌∷◌, length, take, drop, get_or, refl, sym, ◌∙◌, ap, subst, arith}
use Rattle.std.proofs.lemmas.List.{length-take, length-drop, get_or-take, get_or-drop, get_or_past, ext_get_or}
use Rattle.std.proofs.lemmas.Bool.{cases_lt, or_cases, or_left, or_right, and_parts, and_from, ltb-true, leb-true, lt-ltb, le-leb, eqb-true, eq-eqb}
use Rattle.disk_core.specs.Device.{Torn, written}
use Rattle.disk_core.specs.Crash.{Tears}
use Rattle.disk_core.specs.History.{Change, Wrote, Tried, Synced, TriedSync, content_after, MayLeave}
use Rattle.disk_core.specs.HistoryLaws.{reads_left}
use Rattle.disk_core.specs.Places.{at_sync, is_in_range, is_left_of, is_left, MayHold, IsImage, BeginInside}
use Rattle.disk_core.proofs.Images.{length-written_parts, whole_write}

-- the length of a list with others written at a place
pub length-written : (at : ℕ) (bytes old : List ℕ) → at ≤ length old → length (written at bytes old) ≡ max (length old) (at + length bytes)
length-written at bytes old inside = omega (arith, length-written_parts at bytes old inside, length-drop (at + length bytes) old)

-- a list of what a function gives at the first n numbers
tabulate : (ℕ → ℕ) → ℕ → List ℕ
tabulate f zero = []
tabulate f (suc n) = f 0 ∷ tabulate (λ k. f (suc k)) n

length-tabulate : (f : ℕ → ℕ) (n : ℕ) → length (tabulate f n) ≡ n
unfolding tabulate
length-tabulate f zero = refl
length-tabulate f (suc n) = ap suc (length-tabulate (λ k. f (suc k)) n)

get_or-tabulate : (f : ℕ → ℕ) (n k : ℕ) → k < n → get_or (tabulate f n) k 0 ≡ f k
unfolding tabulate
get_or-tabulate f zero k lt = absurd (omega arith)
get_or-tabulate f (suc n) zero lt = refl
get_or-tabulate f (suc n) (suc k) lt = get_or-tabulate (λ k. f (suc k)) n k (omega arith)

-- what a write leaves, place by place
torn_from : (at n : ℕ) (old new : List ℕ) → length old ≤ length new → length new ≤ max (length old) (at + n) → (length old < length new → at ≤ length old) → ((k : ℕ) → k < length old → (k < at) ⊎ (at + n ≤ k) → get_or new k 0 ≡ get_or old k 0) → Torn at n old new
torn_from at n old new longer most grows same = record {
  before = ext_get_or 0 (take at new) (take at old) front (λ i lt.
      let below : i < at = omega (arith, length-take at new) in
      let here : i < length old = omega (arith, front, length-take at old) in
      get_or-take at new i 0 below ∙ same i here (inl below) ∙ sym (get_or-take at old i 0 below));
  after = ext_get_or 0 (drop (at + n) new) (drop (at + n) old) back (λ i lt.
      let here : at + n + i < length old = omega (arith, back, length-drop (at + n) old) in
      get_or-drop (at + n) new i 0 ∙ same (at + n + i) here (inr (omega arith)) ∙ sym (get_or-drop (at + n) old i 0));
  no_shorter = longer;
  no_longer = most;
}
  where
    front : length (take at new) ≡ length (take at old)
    front = elim (cases_lt (length old) (length new)) [
      | inl longer ↦ let inside = grows longer in omega (arith, inside, length-take at new, length-take at old)
      | inr same ↦ omega (arith, length-take at new, length-take at old)
    ]

    back : length (drop (at + n) new) ≡ length (drop (at + n) old)
    back = omega (arith, length-drop (at + n) new, length-drop (at + n) old)

-- a byte in the range is the old one, or one that the write may leave
in_range : (at : ℕ) (bytes before image : List ℕ) (k : ℕ) → Tears at bytes before image → at ≤ k → k < at + length bytes → (get_or image k 0 ≡ get_or before k 0) ⊎ (is_left_of bytes (get_or image k 0) ≡ true)
in_range at [] before image k tears from within = absurd (omega arith)
in_range at (b ∷ []) before image k tears from within =
    let is : at ≡ k = omega arith in
    ⊎_elim (λ alone. inr (eq-eqb b (get_or image k 0) (sym alone ∙ ap (λ i. get_or image i 0) is))) (λ same. inl (ap (λ i. get_or image i 0) (sym is) ∙ same ∙ ap (λ i. get_or before i 0) is)) (tears.alone b refl)
in_range at (b ∷ c ∷ rest) before image k tears from within = inr refl

-- a byte of an image after a write is that of the image before, or one that the write may leave
abbrev TornPlace : ℕ → List ℕ → List ℕ → List ℕ → ℕ → Type 0
TornPlace at bytes before image k = (get_or image k 0 ≡ get_or before k 0) ⊎ ((k < length image) × (at ≤ k) × (k < at + length bytes) × (is_left_of bytes (get_or image k 0) ≡ true))

torn_place : (at : ℕ) (bytes before image : List ℕ) → Tears at bytes before image → (k : ℕ) → TornPlace at bytes before image k
torn_place at bytes before image tears k = elim (cases_lt k (length image)) [
  | inr past ↦ inl (get_or_past image k 0 past ∙ sym (get_or_past before k 0 (omega (arith, tears.torn.no_shorter))))
  | inl here ↦ elim (cases_lt k at) [
    | inl below ↦ inl (sym (get_or-take at image k 0 below) ∙ ap (λ (l : List ℕ). get_or l k 0) tears.torn.before ∙ get_or-take at before k 0 below)
    | inr from ↦ elim (cases_lt k (at + length bytes)) [
      | inl within ↦ ⊎_elim (λ same. inl same) (λ is. inr (here, from, within, is)) (in_range at bytes before image k tears from within)
      | inr behind ↦ inl (
          let m = at + length bytes in
          let j = k - m in
          let is : m + j ≡ k = omega arith in
          ap (λ i. get_or image i 0) (sym is) ∙ sym (get_or-drop m image j 0) ∙ ap (λ (l : List ℕ). get_or l j 0) tears.torn.after ∙ get_or-drop m before j 0 ∙ ap (λ i. get_or before i 0) is)
    ]
  ]
]

module _ (initial : List ℕ) where
  -- the disk was no longer at the last sync
  pub synced_within : (calls : List Change) → BeginInside initial calls → length (at_sync initial calls) ≤ length (content_after initial calls)
  synced_within [] begin = omega arith
  synced_within (Wrote at bytes ∷ earlier) begin = omega (arith, synced_within earlier begin.1, length-written at bytes (content_after initial earlier) begin.0)
  synced_within (Tried at bytes size ∷ earlier) begin = synced_within earlier begin.2
  synced_within (Synced ∷ earlier) begin = omega arith
  synced_within (TriedSync ∷ earlier) begin = synced_within earlier begin

  -- no write has left a byte past the end
  none_past : (calls : List Change) → BeginInside initial calls → (k byte : ℕ) → length (content_after initial calls) ≤ k → is_left calls k byte ≡ true → ⊥
  none_past [] begin k byte past is = cc
  none_past (Wrote at bytes ∷ earlier) begin k byte past is =
      let long = length-written at bytes (content_after initial earlier) begin.0 in
      ⊎_elim
      (λ (here : (is_in_range at (length bytes) k && is_left_of bytes byte) ≡ true). let lt : k < at + length bytes = ltb-true k (at + length bytes) (and_parts (nat_le at k) (nat_lt k (at + length bytes)) (and_parts (is_in_range at (length bytes) k) (is_left_of bytes byte) here).0).1 in absurd (omega (arith, long)))
      (λ before. none_past earlier begin.1 k byte (omega (arith, long)) before)
      (or_cases _ _ is)
  none_past (Tried at bytes size ∷ earlier) begin k byte past is =
      ⊎_elim
      (λ (here : (is_in_range at (length bytes) k && nat_lt k size && is_left_of bytes byte) ≡ true). let lt : k < size = ltb-true k size (and_parts (is_in_range at (length bytes) k) (nat_lt k size) (and_parts (is_in_range at (length bytes) k && nat_lt k size) (is_left_of bytes byte) here).0).1 in absurd (omega (arith, begin.1)))
      (λ before. none_past earlier begin.2 k byte past before)
      (or_cases _ _ is)
  none_past (Synced ∷ earlier) begin k byte past is = cc
  none_past (TriedSync ∷ earlier) begin k byte past is = none_past earlier begin k byte past is

  -- past the end a place may hold nothing but 0
  zero_past : (calls : List Change) → BeginInside initial calls → (k byte : ℕ) → length (content_after initial calls) ≤ k → MayHold initial calls k byte → byte ≡ 0
  zero_past calls begin k byte past (inl is) = is ∙ get_or_past (at_sync initial calls) k 0 (omega (arith, synced_within calls begin))
  zero_past calls begin k byte past (inr left) = absurd (none_past calls begin k byte past left)

module _ (initial : List ℕ) (calls : List Change) (at : ℕ) (bytes image : List ℕ) where
  -- what a place of the image may hold from before, or from this write
  abbrev Each : ℕ → Type 0
  Each k = MayHold initial calls k (get_or image k 0) ⊎ ((at ≤ k) × (k < at + length bytes) × (is_left_of bytes (get_or image k 0) ≡ true))

  -- what stood there before: the same where that may be, else what stood there at the last sync
  byte_before : (k : ℕ) → Each k → ℕ
  byte_before k (inl held) = get_or image k 0
  byte_before k (inr here) = get_or (at_sync initial calls) k 0

  byte_before_held : (k : ℕ) (h : Each k) → MayHold initial calls k (byte_before k h)
  unfolding byte_before
  byte_before_held k (inl held) = held
  byte_before_held k (inr here) = inl refl

  byte_before_same : (k : ℕ) (h : Each k) → (k < at) ⊎ (at + length bytes ≤ k) → get_or image k 0 ≡ byte_before k h
  unfolding byte_before
  byte_before_same k (inl held) out = refl
  byte_before_same k (inr here) (inl below) = absurd (omega (arith, here.0))
  byte_before_same k (inr here) (inr behind) = absurd (omega (arith, here.1))

  alone_before : (k byte : ℕ) (h : Each k) → bytes ≡ byte ∷ [] → (get_or image k 0 ≡ byte) ⊎ (MayHold initial calls k (get_or image k 0) × (get_or image k 0 ≡ byte_before k h))
  unfolding byte_before
  alone_before k byte (inl held) one = inr (held, refl)
  alone_before k byte (inr here) one = inl (sym (eqb-true byte (get_or image k 0) (subst (λ (l : List ℕ). is_left_of l (get_or image k 0) ≡ true) one here.2)))

  module _ (begin : BeginInside initial calls) (inside : at ≤ length (content_after initial calls)) (long : length (at_sync initial calls) ≤ length image) (short : length image ≤ max (length (content_after initial calls)) (at + length bytes)) (each : (k : ℕ) → Each k) where
    kept : ℕ
    kept = min (length image) (length (content_after initial calls))

    before : List ℕ
    before = tabulate (λ k. byte_before k (each k)) kept

    before-size : length before ≡ min (length image) (length (content_after initial calls))
    unfolding before kept
    before-size = length-tabulate (λ k. byte_before k (each k)) kept

    before-at : (k : ℕ) → k < length before → get_or before k 0 ≡ byte_before k (each k)
    unfolding before kept
    before-at k lt = get_or-tabulate (λ k. byte_before k (each k)) kept k (omega (arith, before-size))

    before_is_image : IsImage initial calls before
    before_is_image = record {
      no_shorter = omega (arith, before-size, synced_within initial calls begin);
      no_longer = omega (arith, before-size);
      each = λ k. elim (cases_lt k (length before)) [
        | inl lt ↦ subst (λ b. MayHold initial calls k b) (sym (before-at k lt)) (byte_before_held k (each k))
        | inr past ↦ inl (get_or_past before k 0 past ∙ sym (get_or_past (at_sync initial calls) k 0 (omega (arith, before-size, synced_within initial calls begin))))
      ];
    }

    past_end : length before ≤ at → MayHold initial calls at (get_or image at 0) → get_or image at 0 ≡ 0
    past_end past held = elim (cases_lt at (length image)) [
      | inl lt ↦ zero_past initial calls begin at (get_or image at 0) (omega (arith, before-size)) held
      | inr ge ↦ get_or_past image at 0 ge
    ]

    before_tears : Tears at bytes before image
    before_tears = record {
      torn = torn_from at (length bytes) before image (omega (arith, before-size)) (omega (arith, before-size)) (λ lt. omega (arith, before-size)) (λ k lt out. byte_before_same k (each k) out ∙ sym (before-at k lt));
      alone = λ byte one. ⊎_elim (λ is. inl is) (λ held. inr (elim (cases_lt at (length before)) [
        | inl lt ↦ held.1 ∙ sym (before-at at lt)
        | inr past ↦ past_end past held.0 ∙ sym (get_or_past before at 0 past)
      ])) (alone_before at byte (each at) one);
    }

    -- an image from before the write, of which this one is what the write leaves
    pub step_back : (old : List ℕ) × IsImage initial calls old × Tears at bytes old image
    step_back = (before, before_is_image, before_tears)

module _ (initial : List ℕ) where
  abbrev Here : ℕ → List ℕ → ℕ → ℕ → Type 0
  Here at bytes k byte = (at ≤ k) × (k < at + length bytes) × (is_left_of bytes byte ≡ true)

  range_parts : (at n k : ℕ) → is_in_range at n k ≡ true → (at ≤ k) × (k < at + n)
  range_parts at n k is = let both = and_parts _ _ is in (leb-true at k both.0, ltb-true k (at + n) both.1)

  range_from : (at n k : ℕ) → at ≤ k → k < at + n → is_in_range at n k ≡ true
  range_from at n k from within = and_from _ _ (le-leb at k from) (lt-ltb k (at + n) within)

  wrote_parts : (calls : List Change) (at : ℕ) (bytes : List ℕ) (k byte : ℕ) → MayHold initial (Wrote at bytes ∷ calls) k byte → MayHold initial calls k byte ⊎ Here at bytes k byte
  wrote_parts calls at bytes k byte (inl synced) = inl (inl synced)
  wrote_parts calls at bytes k byte (inr left) =
      ⊎_elim
      (λ here. let both = and_parts _ _ here in let range = range_parts at (length bytes) k both.0 in inr (range.0, range.1, both.1))
      (λ before. inl (inr before))
      (or_cases _ _ left)

  wrote_from : (calls : List Change) (at : ℕ) (bytes : List ℕ) (k byte : ℕ) → MayHold initial calls k byte ⊎ Here at bytes k byte → MayHold initial (Wrote at bytes ∷ calls) k byte
  wrote_from calls at bytes k byte (inl (inl synced)) = inl synced
  wrote_from calls at bytes k byte (inl (inr left)) = inr (or_right _ _ left)
  wrote_from calls at bytes k byte (inr here) = inr (or_left _ _ (and_from _ _ (range_from at (length bytes) k here.0 here.1) here.2))

  tried_parts : (calls : List Change) (at : ℕ) (bytes : List ℕ) (size k byte : ℕ) → MayHold initial (Tried at bytes size ∷ calls) k byte → MayHold initial calls k byte ⊎ Here at bytes k byte
  tried_parts calls at bytes size k byte (inl synced) = inl (inl synced)
  tried_parts calls at bytes size k byte (inr left) =
      ⊎_elim
      (λ here. let both = and_parts _ _ here in let within = and_parts _ _ both.0 in let range = range_parts at (length bytes) k within.0 in inr (range.0, range.1, both.1))
      (λ before. inl (inr before))
      (or_cases _ _ left)

  tried_from : (calls : List Change) (at : ℕ) (bytes : List ℕ) (size k byte : ℕ) → MayHold initial calls k byte ⊎ ((k < size) × Here at bytes k byte) → MayHold initial (Tried at bytes size ∷ calls) k byte
  tried_from calls at bytes size k byte (inl (inl synced)) = inl synced
  tried_from calls at bytes size k byte (inl (inr left)) = inr (or_right _ _ left)
  tried_from calls at bytes size k byte (inr here) =
      inr (or_left _ _ (and_from _ _ (and_from _ _ (range_from at (length bytes) k here.1.0 here.1.1) (lt-ltb k size here.0)) here.1.2))

  same_image : (calls : List Change) (bytes image : List ℕ) → IsImage initial calls bytes → image ≡ bytes → IsImage initial calls image
  same_image calls bytes image is same = subst (λ i. IsImage initial calls i) (sym same) is

  -- an image after a write, from one before
  wrote_image : (calls : List Change) (at : ℕ) (bytes before image : List ℕ) → at ≤ length (content_after initial calls) → IsImage initial calls before → Tears at bytes before image → IsImage initial (Wrote at bytes ∷ calls) image
  wrote_image calls at bytes before image inside is tears = record {
    no_shorter = omega (arith, is.no_shorter, tears.torn.no_shorter);
    no_longer = omega (arith, is.no_longer, tears.torn.no_longer, length-written at bytes (content_after initial calls) inside);
    each = λ k. wrote_from calls at bytes k (get_or image k 0) (⊎_elim (λ same. inl (subst (λ b. MayHold initial calls k b) (sym same) (is.each k))) (λ here. inr (here.1, here.2, here.3)) (torn_place at bytes before image tears k));
  }

  -- the images of the calls are images place by place
  pub is_image : (calls : List Change) → BeginInside initial calls → (image : List ℕ) → MayLeave initial calls image → IsImage initial calls image
  is_image [] begin image is = same_image [] initial image (record { no_shorter = omega arith; no_longer = omega arith; each = λ k. inl refl }) is
  is_image (Wrote at bytes ∷ calls) begin image (inl is) =
      let content = content_after initial calls in
      same_image (Wrote at bytes ∷ calls) (written at bytes content) image (wrote_image calls at bytes content (written at bytes content) begin.0 (is_image calls begin.1 content (reads_left initial calls)) (whole_write at bytes content begin.0)) is
  is_image (Wrote at bytes ∷ calls) begin image (inr step) = wrote_image calls at bytes step.0 image begin.0 (is_image calls begin.1 step.0 step.1) step.2
  is_image (Tried at bytes size ∷ calls) begin image step =
      let is = is_image calls begin.2 step.0 step.1 in
      let tears = step.2 in
      record {
        no_shorter = omega (arith, is.no_shorter, tears.torn.no_shorter);
        no_longer = step.3;
        each = λ k. tried_from calls at bytes size k (get_or image k 0) (⊎_elim (λ same. inl (subst (λ b. MayHold initial calls k b) (sym same) (is.each k))) (λ here. inr (omega (arith, here.0, step.3, begin.1), (here.1, here.2, here.3))) (torn_place at bytes step.0 image tears k));
      }
  is_image (Synced ∷ calls) begin image is = same_image (Synced ∷ calls) (content_after initial calls) image (record { no_shorter = omega arith; no_longer = omega arith; each = λ k. inl refl }) is
  is_image (TriedSync ∷ calls) begin image left =
      let is = is_image calls begin image left in
      record { no_shorter = is.no_shorter; no_longer = is.no_longer; each = is.each }

  -- a list that holds at each place what that held at the last sync, and is as long
  settled : (bytes image : List ℕ) → length bytes ≤ length image → length image ≤ length bytes → ((k : ℕ) → get_or image k 0 ≡ get_or bytes k 0) → image ≡ bytes
  settled bytes image long short each = ext_get_or 0 image bytes (omega arith) (λ i lt. each i)

  from_none : (bytes : List ℕ) (k : ℕ) (byte : ℕ) → (byte ≡ get_or bytes k 0) ⊎ (false ≡ true) → byte ≡ get_or bytes k 0
  from_none bytes k byte (inl is) = is
  from_none bytes k byte (inr never) = cc

  -- and the other way round
  pub may_leave : (calls : List Change) → BeginInside initial calls → (image : List ℕ) → IsImage initial calls image → MayLeave initial calls image
  may_leave [] begin image is = settled initial image is.no_shorter is.no_longer (λ k. from_none initial k (get_or image k 0) (is.each k))
  may_leave (Wrote at bytes ∷ calls) begin image is =
      let long = length-written at bytes (content_after initial calls) begin.0 in
      let back = step_back initial calls at bytes image begin.1 begin.0 is.no_shorter (omega (arith, is.no_longer, long)) (λ k. wrote_parts calls at bytes k (get_or image k 0) (is.each k)) in
      inr (back.0, may_leave calls begin.1 back.0 back.1, back.2)
  may_leave (Tried at bytes size ∷ calls) begin image is =
      let back = step_back initial calls at bytes image begin.2 begin.0 is.no_shorter (omega (arith, is.no_longer)) (λ k. tried_parts calls at bytes size k (get_or image k 0) (is.each k)) in
      (back.0, may_leave calls begin.2 back.0 back.1, back.2, is.no_longer)
  may_leave (Synced ∷ calls) begin image is = settled (content_after initial calls) image is.no_shorter is.no_longer (λ k. from_none (content_after initial calls) k (get_or image k 0) (is.each k))
  may_leave (TriedSync ∷ calls) begin image is = may_leave calls begin image (record { no_shorter = is.no_shorter; no_longer = is.no_longer; each = is.each })
