-- What a file that holds a lane becomes by a reset and by one more batch.
use Rattle.std.proofs.Common.{◌≡◌, ℕ, ◌+◌, ◌-◌, ◌^◌, ◌<◌, ◌≤◌, List, [], ◌∷◌, ◌++◌, length, take, drop, refl, sym, ◌∙◌, ap, arith, append_assoc, length-append}
use Rattle.std.specs.List.{AllByRecursion, flat_map}
use Rattle.std.specs.Int.{w32, to_le_bytes}
use Rattle.std.proofs.lemmas.List.{length-drop, length-take, take_at, append-nil}
use Rattle.std.proofs.lemmas.Grind.{flat_map-append}
use Rattle.lane_format.specs.Lane.{header_text, batch_text, lane_text, IsBody, IsHead, IsLane, emptied, extended, body_of, frame_text}

pub length-header_text : (generation lane : ℕ) → length (header_text generation lane) ≡ 11
unfolding header_text
length-header_text generation lane = refl

pub length-empty : (generation lane : ℕ) → length (lane_text generation lane []) ≡ 11
length-empty generation lane = ap length (append-nil (header_text generation lane)) ∙ length-header_text generation lane

pub empty_lane : (generation lane : ℕ) (bytes : List ℕ) → IsHead generation lane → IsLane generation lane [] (emptied generation lane bytes)
empty_lane generation lane bytes head = record {
  head = head;
  bodies_fit = tt;
  gate = 0;
  rest = drop 12 bytes;
  closed = λ is. omega arith;
  text = ap (λ (l : List ℕ). l ++ 0 ∷ drop 12 bytes) (sym (append-nil (header_text generation lane)));
}

pub one_more_fits : (bodies : List (List ℕ)) (body : List ℕ) → AllByRecursion IsBody bodies → IsBody body → AllByRecursion IsBody (bodies ++ body ∷ [])
one_more_fits [] body all fits = (fits, tt)
one_more_fits (b ∷ bodies) body all fits = (all.0, one_more_fits bodies body all.1 fits)

-- the body in a frame of from 6 to 2^31 bytes
pub body_fits : (frame : List ℕ) → 6 ≤ length frame → length frame ≤ 2 ^ 31 → IsBody (body_of frame)
body_fits frame room short = (omega (arith, length-take (length frame - 5) (drop 4 frame), length-drop 4 frame), omega (arith, length-take (length frame - 5) (drop 4 frame), length-drop 4 frame))

-- the body's frame behind an open gate is a batch, with a closed gate behind it
batch-frame : (body : List ℕ) (rest : List ℕ) → 1 ∷ (frame_text body ++ rest) ≡ batch_text body ++ 0 ∷ rest
unfolding batch_text frame_text
batch-frame body rest = ap (λ (l : List ℕ). 1 ∷ l) (append_assoc (to_le_bytes w32 (length body) ++ body) (0 ∷ []) rest)

pub length-frame_text : (frame : List ℕ) → 6 ≤ length frame → length (frame_text (body_of frame)) ≡ length frame
unfolding frame_text
length-frame_text frame room =
    omega (arith, length-append (to_le_bytes w32 (length (body_of frame)) ++ body_of frame) (0 ∷ []), length-append (to_le_bytes w32 (length (body_of frame))) (body_of frame), length-take (length frame - 5) (drop 4 frame), length-drop 4 frame)

module _ (generation lane : ℕ) (bodies : List (List ℕ)) where
  pub lane_text-push : (body : List ℕ) → lane_text generation lane (bodies ++ body ∷ []) ≡ lane_text generation lane bodies ++ batch_text body
  lane_text-push body =
      ap (λ (l : List ℕ). header_text generation lane ++ l) (flat_map-append batch_text bodies (body ∷ []))
      ∙ sym (append_assoc (header_text generation lane) (flat_map batch_text bodies) (batch_text body ++ []))
      ∙ ap (λ (l : List ℕ). lane_text generation lane bodies ++ l) (append-nil (batch_text body))

  length-batch_text : (body : List ℕ) → length (batch_text body) ≡ length (frame_text body)
  length-batch_text body =
      omega (arith, ap length (batch-frame body []), length-append (batch_text body) (0 ∷ []), length-append (frame_text body) [])

  pub length-push : (body : List ℕ) → length (lane_text generation lane (bodies ++ body ∷ [])) ≡ length (lane_text generation lane bodies) + length (frame_text body)
  length-push body = ap length (lane_text-push body) ∙ length-append (lane_text generation lane bodies) (batch_text body) ∙ ap (λ (n : ℕ). length (lane_text generation lane bodies) + n) (length-batch_text body)

  pub gate_inside : (bytes : List ℕ) → IsLane generation lane bodies bytes → length (lane_text generation lane bodies) < length bytes
  gate_inside bytes is = omega (arith, ap length is.text, length-append (lane_text generation lane bodies) (is.gate ∷ is.rest))

  pub grown : (gate : ℕ) (body bytes : List ℕ) → gate ≡ length (lane_text generation lane bodies) → IsBody body → IsLane generation lane bodies bytes
      → IsLane generation lane (bodies ++ body ∷ []) (extended gate (frame_text body) bytes)
  grown gate body bytes place fits is =
      let behind = drop (gate + 1 + length (frame_text body)) bytes in
      let front : take gate bytes ≡ lane_text generation lane bodies = ap (take gate) is.text ∙ take_at (lane_text generation lane bodies) (is.gate ∷ is.rest) gate (sym place) in
      record {
        head = is.head;
        bodies_fit = one_more_fits bodies body is.bodies_fit fits;
        gate = 0;
        rest = behind;
        closed = λ is. omega arith;
        text =
            ap (λ (l : List ℕ). l ++ (1 ∷ frame_text body) ++ behind) front
            ∙ append_assoc (lane_text generation lane bodies) (1 ∷ frame_text body) behind
            ∙ ap (λ (l : List ℕ). lane_text generation lane bodies ++ l) (batch-frame body behind)
            ∙ sym (append_assoc (lane_text generation lane bodies) (batch_text body) (0 ∷ behind))
            ∙ ap (λ (l : List ℕ). l ++ 0 ∷ behind) (sym (lane_text-push body));
      }
