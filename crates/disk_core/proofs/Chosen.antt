-- What a crash makes of a disk with a choice is one of its images, and each image is made by some choice.
use Rattle.std.proofs.Common.{◌≡◌, inl, inr, ⊎_elim, ℕ, zero, suc, ◌+◌, ◌-◌, ◌<◌, ◌≤◌, true, false, not, ◌&&◌, ◌||◌, ◌==◌, nat_lt, cond, List, [], ◌∷◌, length, take, get_or, refl, sym, ◌∙◌, ap, subst, arith, add-one}
use Rattle.std.proofs.lemmas.List.{length-take, get_or-take, get_or_past, ext_get_or}
use Rattle.std.proofs.lemmas.Bool.{cases_lt, cases_Bool, or_cases, or_left, or_right, and_parts, and_from, and_left, eqb-true, eq-eqb, ne_eqb, cond-true, cond-false, cond_both, not_from_false}
use Rattle.std.proofs.Math.Nat.{mod-eq_of_lt}
use Rattle.disk_core.specs.History.{Change, Wrote, Tried, Synced, TriedSync, content_after, MayLeave}
use Rattle.disk_core.specs.HistoryLaws.{reads_left}
use Rattle.disk_core.specs.Places.{at_sync, is_in_range, is_left_of, is_written, is_left, MayHold, IsImage, BeginInside, written_below, chosen_at, chosen_or_synced, crashed_byte, choice_for}
use Rattle.disk_core.proofs.Places.{is_image, may_leave}

-- a byte was left only where a write wrote
left_written : (calls : List Change) (k byte : ℕ) → is_left calls k byte ≡ true → is_written calls k ≡ true
left_written [] k byte left = cc
left_written (Wrote at bytes ∷ calls) k byte left =
    let range = is_in_range at (length bytes) k in
    ⊎_elim
    (λ here. or_left range (is_written calls k) (and_parts range (is_left_of bytes byte) here).0)
    (λ before. or_right range (is_written calls k) (left_written calls k byte before))
    (or_cases (range && is_left_of bytes byte) (is_left calls k byte) left)
left_written (Tried at bytes size ∷ calls) k byte left =
    let range = is_in_range at (length bytes) k && nat_lt k size in
    ⊎_elim
    (λ here. or_left range (is_written calls k) (and_parts range (is_left_of bytes byte) here).0)
    (λ before. or_right range (is_written calls k) (left_written calls k byte before))
    (or_cases (range && is_left_of bytes byte) (is_left calls k byte) left)
left_written (Synced ∷ calls) k byte left = cc
left_written (TriedSync ∷ calls) k byte left = left_written calls k byte left

module _ (calls : List Change) where
  more_written : (k : ℕ) → is_written calls k ≡ true → written_below calls (k + 1) ≡ written_below calls k + 1
  more_written k is = ap (written_below calls) (add-one k) ∙ ap (λ n. written_below calls k + n) (cond-true (is_written calls k) 1 0 is)

  not_more : (k : ℕ) → is_written calls k ≡ false → written_below calls (k + 1) ≡ written_below calls k
  not_more k is = let same : written_below calls (k + 1) ≡ written_below calls k + 0 = ap (written_below calls) (add-one k) ∙ ap (λ n. written_below calls k + n) (cond-false (is_written calls k) 1 0 is) in omega (arith, same)

  no_fewer : (p k : ℕ) → written_below calls p ≤ written_below calls (p + k)
  no_fewer p zero = omega (arith, ap (written_below calls) (let e : p + 0 ≡ p = omega arith in e))
  no_fewer p (suc k) =
      let is : p + suc k ≡ p + k + 1 = omega arith in
      let same = ap (written_below calls) is in
      ⊎_elim (λ yes. omega (arith, no_fewer p k, same, more_written (p + k) yes)) (λ none. omega (arith, no_fewer p k, same, not_more (p + k) none)) (cases_Bool (is_written calls (p + k)))

  -- the byte of an image at a written place stands in its choice behind those of the written places below
  chosen_there : (image : List ℕ) (p k j : ℕ) → k < length image → is_written calls (p + k) ≡ true → written_below calls p + j ≡ written_below calls (p + k) → (j < length (choice_for calls p image)) × (get_or (choice_for calls p image) j 0 ≡ get_or image k 0)
  chosen_there [] p k j lt is at = absurd (omega arith)
  chosen_there (byte ∷ rest) p zero j lt is at =
      let here : p + 0 ≡ p = omega arith in
      let written : is_written calls p ≡ true = subst (λ n. is_written calls n ≡ true) here is in
      let first : j ≡ 0 = omega (arith, at, ap (written_below calls) here) in
      let choice : choice_for calls p (byte ∷ rest) ≡ byte ∷ choice_for calls (p + 1) rest = cond-true (is_written calls p) (byte ∷ choice_for calls (p + 1) rest) (choice_for calls (p + 1) rest) written in
      (omega (arith, first, ap length choice), ap (λ (l : List ℕ). get_or l j 0) choice ∙ ap (λ n. get_or (byte ∷ choice_for calls (p + 1) rest) n 0) first)
  chosen_there (byte ∷ rest) p (suc k) j lt is at =
      let there : p + suc k ≡ p + 1 + k = omega arith in
      let later : is_written calls (p + 1 + k) ≡ true = subst (λ n. is_written calls n ≡ true) there is in
      let below : written_below calls (p + suc k) ≡ written_below calls (p + 1 + k) = ap (written_below calls) there in
      let few = no_fewer (p + 1) k in
      ⊎_elim
      (λ written.
      let choice : choice_for calls p (byte ∷ rest) ≡ byte ∷ choice_for calls (p + 1) rest = cond-true (is_written calls p) (byte ∷ choice_for calls (p + 1) rest) (choice_for calls (p + 1) rest) written in
      let one = more_written p written in
      let i = j - 1 in
      let next : j ≡ suc i = omega (arith, at, below, few, one) in
      let found = chosen_there rest (p + 1) k i (omega arith) later (omega (arith, at, below, one, next)) in
      (omega (arith, found.0, next, ap length choice), ap (λ (l : List ℕ). get_or l j 0) choice ∙ ap (λ n. get_or (byte ∷ choice_for calls (p + 1) rest) n 0) next ∙ found.1))
      (λ none.
      let choice : choice_for calls p (byte ∷ rest) ≡ choice_for calls (p + 1) rest = cond-false (is_written calls p) (byte ∷ choice_for calls (p + 1) rest) (choice_for calls (p + 1) rest) none in
      let found = chosen_there rest (p + 1) k j (omega arith) later (omega (arith, at, below, not_more p none)) in
      (omega (arith, found.0, ap length choice), ap (λ (l : List ℕ). get_or l j 0) choice ∙ found.1))
      (cases_Bool (is_written calls p))

module _ (initial : List ℕ) (calls : List Change) (begin : BeginInside initial calls) where
  abbrev synced : List ℕ
  synced = at_sync initial calls

  abbrev content : List ℕ
  content = content_after initial calls

  -- the bytes as they read are an image
  reads : IsImage initial calls content
  reads = is_image initial calls begin content (reads_left initial calls)

  -- a place that wasn't written holds what it held at the last sync
  unwritten : (k byte : ℕ) → is_written calls k ≡ false → MayHold initial calls k byte → byte ≡ get_or synced k 0
  unwritten k byte none (inl is) = is
  unwritten k byte none (inr left) = let some = left_written calls k byte left in cc

  -- what a crash makes of a place is what it may hold
  crashed_held : (choice : List ℕ) (k : ℕ) → MayHold initial calls k (crashed_byte synced content calls choice k)
  crashed_held choice k =
      let chosen = chosen_at calls choice k in
      let torn : MayHold initial calls k (chosen_or_synced synced calls k chosen) =
      cond_both (chosen == get_or synced k 0 || is_left calls k chosen) chosen (get_or synced k 0) (λ b. MayHold initial calls k b)
      (λ may. ⊎_elim (λ same. inl (eqb-true chosen (get_or synced k 0) same)) (λ left. inr left) (or_cases (chosen == get_or synced k 0) (is_left calls k chosen) may))
      (λ not_so. inl refl) in
      cond_both (is_written calls k && not (length choice == 0)) (chosen_or_synced synced calls k chosen) (get_or content k 0) (λ b. MayHold initial calls k b) (λ taken. torn) (λ kept. reads.each k)

  -- the choice of an image makes it
  crashed_chosen : (image : List ℕ) (k : ℕ) → IsImage initial calls image → k < length image → crashed_byte synced content calls (choice_for calls 0 image) k ≡ get_or image k 0
  crashed_chosen image k is lt =
      let choice = choice_for calls 0 image in
      let chosen = chosen_at calls choice k in
      let pick = chosen_or_synced synced calls k chosen in
      ⊎_elim
      (λ written.
      let from_first : 0 + k ≡ k = omega arith in
      let found = chosen_there calls image 0 k (written_below calls k) lt (subst (λ n. is_written calls n ≡ true) (sym from_first) written) (omega (arith, ap (written_below calls) from_first)) in
      let some : (length choice == 0) ≡ false = ne_eqb (length choice) 0 (λ empty. omega (arith, found.0, empty)) in
      let taken = cond-true (is_written calls k && not (length choice == 0)) pick (get_or content k 0) (and_from (is_written calls k) (not (length choice == 0)) written (not_from_false (length choice == 0) some)) in
      let is_chosen : chosen ≡ get_or image k 0 = ap (λ n. get_or choice n 0) (mod-eq_of_lt found.0) ∙ found.1 in
      let held : MayHold initial calls k chosen = subst (λ b. MayHold initial calls k b) (sym is_chosen) (is.each k) in
      let may : (chosen == get_or synced k 0 || is_left calls k chosen) ≡ true =
      ⊎_elim (λ same. or_left (chosen == get_or synced k 0) (is_left calls k chosen) (eq-eqb chosen (get_or synced k 0) same)) (λ left. or_right (chosen == get_or synced k 0) (is_left calls k chosen) left) held in
      taken ∙ cond-true (chosen == get_or synced k 0 || is_left calls k chosen) chosen (get_or synced k 0) may ∙ is_chosen)
      (λ none.
      let kept = cond-false (is_written calls k && not (length choice == 0)) pick (get_or content k 0) (and_left (is_written calls k) (not (length choice == 0)) none) in
      kept ∙ unwritten k (get_or content k 0) none (reads.each k) ∙ sym (unwritten k (get_or image k 0) none (is.each k)))
      (cases_Bool (is_written calls k))

  module _ (choice made : List ℕ) (long : length synced ≤ length made) (short : length made ≤ length content) (each : (k : ℕ) → k < length made → get_or made k 0 ≡ crashed_byte synced content calls choice k) where
    -- a crash may leave what is made of the disk
    pub made_left : MayLeave initial calls made
    made_left = may_leave initial calls begin made (record {
      no_shorter = long;
      no_longer = short;
      each = λ k. elim (cases_lt k (length made)) [
        | inl lt ↦ subst (λ b. MayHold initial calls k b) (sym (each k lt)) (crashed_held choice k)
        | inr past ↦ inl (get_or_past made k 0 past ∙ sym (get_or_past synced k 0 (omega (arith, long))))
      ];
    })

    -- each image of that size is made by its choice
    pub made_by_choice : (image : List ℕ) → MayLeave initial calls image → length image ≡ length made → choice ≡ choice_for calls 0 image → made ≡ image
    made_by_choice image left size is = ext_get_or 0 made image (sym size) (λ k lt.
        each k lt
        ∙ ap (λ (l : List ℕ). crashed_byte synced content calls l k) is
        ∙ crashed_chosen image k (is_image initial calls begin image left) (omega (arith, size)))

  -- what `tear` makes of the bytes as they read, cut to a size
  module _ (choice made synced_bytes cut : List ℕ) (size : ℕ) (is_synced : synced_bytes ≡ synced) (is_cut : cut ≡ take size content) (least : length synced ≤ size) (most : size ≤ length content) (long : length made ≡ length cut) (torn : (k : ℕ) → k < length made → get_or made k 0 ≡ crashed_byte synced_bytes cut calls choice k) where
    made-size : length made ≡ size
    made-size = omega (arith, long, ap length is_cut, length-take size content)

    pub torn_byte : (k : ℕ) → k < length made → get_or made k 0 ≡ crashed_byte synced content calls choice k
    torn_byte k lt =
        let there : get_or cut k 0 ≡ get_or content k 0 = ap (λ (l : List ℕ). get_or l k 0) is_cut ∙ get_or-take size content k 0 (omega (arith, made-size)) in
        torn k lt
        ∙ ap (λ (l : List ℕ). crashed_byte l cut calls choice k) is_synced
        ∙ ap (λ b. cond (is_written calls k && not (length choice == 0)) (chosen_or_synced synced calls k (chosen_at calls choice k)) b) there

    pub torn_left : MayLeave initial calls made
    torn_left = made_left choice made (omega (arith, made-size)) (omega (arith, made-size)) torn_byte

    pub torn_by_choice : (image : List ℕ) → MayLeave initial calls image → length image ≡ size → choice ≡ choice_for calls 0 image → made ≡ image
    torn_by_choice image left long_as is = made_by_choice choice made (omega (arith, made-size)) (omega (arith, made-size)) torn_byte image left (omega (arith, long_as, made-size)) is
