-- What a crash leaves of the writes of a lane writer, image by image.
use Rattle.std.proofs.Common.{◌≡◌, ◌⊎◌, inl, inr, ⊎_elim, ℕ, ◌+◌, ◌<◌, ◌≤◌, List, [], ◌∷◌, ◌++◌, length, take, drop, slice_index, refl, sym, ◌∙◌, ap, subst, arith, append_assoc, length-append, length-drop, length-take, take-append-drop}
use Rattle.std.proofs.lemmas.List.{take_at, drop_at, take-take, take-append-le}
use Rattle.std.specs.Int.{w16, w64, to_le_bytes}
use Rattle.disk_core.specs.Crash.{Only, Tears}
use Rattle.disk_core.specs.Device.{written}
use Rattle.disk_core.proofs.Lone.{lone_write}
use Rattle.lane_format.specs.Lane.{IsBody, IsHead, IsLane, IsNotOpen, emptied, extended, frame_text, lane_text}
use Rattle.lane_writer.specs.Crash.{NotOpenOrEmpty, TornFrom, WithOrWithout}
use Rattle.lane_format.proofs.Lanes.{empty_lane, gate_inside, grown}
use Rattle.lane_writer.proofs.Writes.{header_then_gate}

-- the first byte stands before the second
first_byte : (l : List ℕ) → slice_index (take 1 l) 0 ≡ slice_index l 0
first_byte [] = refl
first_byte (b ∷ l) = refl

-- a write makes no file shorter
pub no_shorter : (at : ℕ) (bytes old : List ℕ) → length old ≤ length (written at bytes old)
no_shorter at bytes old = omega (arith, length-append (take at old ++ bytes) (drop (at + length bytes) old), length-append (take at old) bytes, length-take at old, length-drop (at + length bytes) old)

-- a crash in a write behind the gate leaves a file that isn't open so
pub after_header : (may_leave : List ℕ → Type 0) (header : List ℕ) → ((image : List ℕ) → may_leave image → IsNotOpen image) → (image : List ℕ) → TornFrom may_leave 1 header image → IsNotOpen image
after_header may_leave header shut image torn = λ is. shut torn.0 torn.1 (sym (first_byte torn.0) ∙ ap (λ (l : List ℕ). slice_index l 0) (sym torn.2.torn.before) ∙ first_byte image ∙ is)

-- a crash in the write that opens a gate leaves the file as it was, or with the gate open
pub opened_or_old : (at : ℕ) (file : List ℕ) (may_leave : List ℕ → Type 0) → at < length file → Only file may_leave → (image : List ℕ) → TornFrom may_leave at (1 ∷ []) image → (image ≡ file) ⊎ (image ≡ written at (1 ∷ []) file)
opened_or_old at file may_leave inside only image torn = lone_write at 1 file image inside (subst (λ f. Tears at (1 ∷ []) f image) (only torn.0 torn.1) torn.2)

pub opened_empty : (generation lane : ℕ) (header file bytes image : List ℕ) → header ≡ to_le_bytes w64 generation ++ to_le_bytes w16 lane ++ 0 ∷ [] → file ≡ written 1 header bytes → 0 < length bytes → IsHead generation lane → IsNotOpen file
    → (image ≡ file) ⊎ (image ≡ written 0 (1 ∷ []) file) → NotOpenOrEmpty generation lane image
opened_empty generation lane header file bytes image spelled is some head shut = ⊎_elim
    (λ same. inl (subst IsNotOpen (sym same) shut))
    (λ done.
    let whole : image ≡ emptied generation lane bytes =
    done ∙ ap (written 0 (1 ∷ [])) is ∙ ap (λ (h : List ℕ). written 0 (1 ∷ []) (written 1 h bytes)) spelled ∙ header_then_gate generation lane bytes some in
    inr (subst (IsLane generation lane []) (sym whole) (empty_lane generation lane bytes head)))

-- a frame behind a gate, and then the gate
pub gate_over : (gate : ℕ) (frame bytes : List ℕ) → gate < length bytes → written gate (1 ∷ []) (written (gate + 1) frame bytes) ≡ extended gate frame bytes
gate_over gate frame bytes inside =
    let behind = drop (gate + 1 + length frame) bytes in
    let size : length (take (gate + 1) bytes) ≡ gate + 1 = omega (arith, length-take (gate + 1) bytes) in
    let parts : written (gate + 1) frame bytes ≡ take (gate + 1) bytes ++ (frame ++ behind) = append_assoc (take (gate + 1) bytes) frame behind in
    let front : take gate (written (gate + 1) frame bytes) ≡ take gate bytes =
    ap (take gate) parts ∙ take-append-le gate (take (gate + 1) bytes) (frame ++ behind) (omega (arith, size)) ∙ take-take gate (gate + 1) bytes (omega arith) in
    let back : drop (gate + 1) (written (gate + 1) frame bytes) ≡ frame ++ behind = ap (drop (gate + 1)) parts ∙ drop_at (take (gate + 1) bytes) (frame ++ behind) (gate + 1) size in
    ap (λ (l : List ℕ). l ++ (1 ∷ []) ++ drop (gate + 1) (written (gate + 1) frame bytes)) front
    ∙ ap (λ (l : List ℕ). take gate bytes ++ (1 ∷ []) ++ l) back
    ∙ append_assoc (take gate bytes) (1 ∷ []) (frame ++ behind)
    ∙ sym (append_assoc (take gate bytes) (1 ∷ frame) behind)

module _ (generation lane : ℕ) (bodies : List (List ℕ)) (gate : ℕ) (place : gate ≡ length (lane_text generation lane bodies)) where
  -- a crash in a write behind the closed gate leaves the batches before it
  behind_gate : (frame old image : List ℕ) → Tears (gate + 1) frame old image → IsLane generation lane bodies old → IsLane generation lane bodies image
  behind_gate frame old image tears is =
      let text = lane_text generation lane bodies in
      let closed_gate = is.gate ∷ [] in
      let behind = drop (gate + 1) image in
      let size : length (text ++ closed_gate) ≡ gate + 1 = omega (arith, place, length-append text closed_gate) in
      let front : take (gate + 1) old ≡ text ++ closed_gate = ap (take (gate + 1)) (is.text ∙ sym (append_assoc text closed_gate is.rest)) ∙ take_at (text ++ closed_gate) is.rest (gate + 1) size in
      let whole : image ≡ text ++ is.gate ∷ behind =
      sym (take-append-drop (gate + 1) image) ∙ ap (λ (l : List ℕ). l ++ behind) (tears.torn.before ∙ front) ∙ append_assoc text closed_gate behind in
      record { head = is.head; bodies_fit = is.bodies_fit; gate = is.gate; rest = behind; closed = is.closed; text = whole }

  pub after_frame : (may_leave : List ℕ → Type 0) (frame : List ℕ) → ((image : List ℕ) → may_leave image → IsLane generation lane bodies image) → (image : List ℕ) → TornFrom may_leave (gate + 1) frame image → IsLane generation lane bodies image
  after_frame may_leave frame lanes image torn = behind_gate frame torn.0 image torn.2 (lanes torn.0 torn.1)

  pub opened_batch : (body frame file bytes image : List ℕ) → frame ≡ frame_text body → IsBody body → file ≡ written (gate + 1) frame bytes → IsLane generation lane bodies bytes → IsLane generation lane bodies file
      → (image ≡ file) ⊎ (image ≡ written gate (1 ∷ []) file) → WithOrWithout generation lane bodies body image
  opened_batch body frame file bytes image spelled fits is before behind = ⊎_elim
      (λ same. inl (subst (IsLane generation lane bodies) (sym same) behind))
      (λ done.
      let inside : gate < length bytes = omega (arith, place, gate_inside generation lane bodies bytes before) in
      let whole : image ≡ extended gate (frame_text body) bytes =
      done ∙ ap (written gate (1 ∷ [])) is ∙ gate_over gate frame bytes inside ∙ ap (λ (f : List ℕ). extended gate f bytes) spelled in
      inr (subst (IsLane generation lane (bodies ++ body ∷ [])) (sym whole) (grown generation lane bodies gate body bytes place fits before)))
