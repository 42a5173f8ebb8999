-- Lanes that hold the batches of a log.
use Rattle.std.proofs.Common.{false, ◌≡◌, ◌≢◌, ℕ, ◌+◌, ◌<◌, ◌≤◌, List, [], ◌∷◌, ◌++◌, length, drop, map, refl, sym, ◌∙◌, ap, subst, append_assoc, length-append, length-drop, arith}
use Rattle.std.specs.List.{flat_map}
use Rattle.row_types.specs.declared.definition.TableDef.{TableDef}
use Rattle.op_log.specs.Changes.{body_text}
use Rattle.op_log.specs.declared.change.RowChange.{RowChange}
use Rattle.lane_format.specs.Lane.{IsBody, IsLane, IsOpen, batch_text, header_text, lane_text}
use Rattle.lane_format.specs.LaneRead.{IsWhole, generation_in, lane_in, placed}
use Rattle.lane_format.specs.declared.segment.Batch.{Batch}
use Rattle.lane_format.proofs.Gates.{length-batch_text}
use Rattle.lane_format.proofs.Lanes.{length-header_text}
use Rattle.call_log.specs.History.{bodies_of, gate_behind}
use Rattle.list_store.specs.Found.{bodies_in}
use Rattle.list_store.specs.Log.{HasBodies}

-- the place of a gate, by the bytes before it
pub gate_is_place : (defs : List TableDef) (batches : List (List RowChange)) → gate_behind defs batches ≡ 11 + length (flat_map batch_text (bodies_of defs batches))
gate_is_place defs [] = refl
gate_is_place defs (batch ∷ batches) =
    let body = body_text defs batch in
    omega (arith, gate_is_place defs batches, length-append (batch_text body) (flat_map batch_text (bodies_of defs batches)), length-batch_text body)

pub gate_is_length : (lane : ℕ) (defs : List TableDef) (batches : List (List RowChange)) → gate_behind defs batches ≡ length (lane_text 2 lane (bodies_of defs batches))
gate_is_length lane defs batches =
    let rest = flat_map batch_text (bodies_of defs batches) in
    omega (arith, gate_is_place defs batches, length-append (header_text 2 lane) rest, length-header_text 2 lane)

pub gate_from_front : (defs : List TableDef) (batches : List (List RowChange)) → 11 ≤ gate_behind defs batches
gate_from_front defs [] = omega arith
gate_from_front defs (batch ∷ batches) = omega (arith, gate_from_front defs batches)

-- bodies that were read, without their places
pub bodies_placed : (gate : ℕ) (bodies : List (List ℕ)) → bodies_in (placed gate bodies) ≡ bodies
bodies_placed gate [] = refl
bodies_placed gate (body ∷ bodies) = ap (λ (l : List (List ℕ)). body ∷ l) (bodies_placed (gate + 5 + length body) bodies)

pub same_bodies : (bodies others : List (List ℕ)) → placed 11 bodies ≡ placed 11 others → bodies ≡ others
same_bodies bodies others is = sym (bodies_placed 11 bodies) ∙ ap bodies_in is ∙ bodies_placed 11 others

-- the header of generation 2 and lane 0 by what its fields say
header_there : (bytes : List ℕ) → 11 ≤ length bytes → IsOpen bytes → generation_in bytes ≡ 2 → lane_in bytes ≡ 0 → bytes ≡ header_text 2 0 ++ drop 11 bytes
unfolding header_text
header_there [] long gate generation lane = absurd (omega (arith, long))
header_there (a ∷ []) long gate generation lane = absurd (omega (arith, long))
header_there (a ∷ b ∷ []) long gate generation lane = absurd (omega (arith, long))
header_there (a ∷ b ∷ c ∷ []) long gate generation lane = absurd (omega (arith, long))
header_there (a ∷ b ∷ c ∷ d ∷ []) long gate generation lane = absurd (omega (arith, long))
header_there (a ∷ b ∷ c ∷ d ∷ e ∷ []) long gate generation lane = absurd (omega (arith, long))
header_there (a ∷ b ∷ c ∷ d ∷ e ∷ f ∷ []) long gate generation lane = absurd (omega (arith, long))
header_there (a ∷ b ∷ c ∷ d ∷ e ∷ f ∷ g ∷ []) long gate generation lane = absurd (omega (arith, long))
header_there (a ∷ b ∷ c ∷ d ∷ e ∷ f ∷ g ∷ h ∷ []) long gate generation lane = absurd (omega (arith, long))
header_there (a ∷ b ∷ c ∷ d ∷ e ∷ f ∷ g ∷ h ∷ i ∷ []) long gate generation lane = absurd (omega (arith, long))
header_there (a ∷ b ∷ c ∷ d ∷ e ∷ f ∷ g ∷ h ∷ i ∷ j ∷ []) long gate generation lane = absurd (omega (arith, long))
header_there (a ∷ b ∷ c ∷ d ∷ e ∷ f ∷ g ∷ h ∷ i ∷ j ∷ k ∷ rest) long gate generation lane =
    let is_a : a ≡ 1 = gate in
    let is_b : b ≡ 2 = omega (arith, generation) in
    let is_c : c ≡ 0 = omega (arith, generation) in
    let is_d : d ≡ 0 = omega (arith, generation) in
    let is_e : e ≡ 0 = omega (arith, generation) in
    let is_f : f ≡ 0 = omega (arith, generation) in
    let is_g : g ≡ 0 = omega (arith, generation) in
    let is_h : h ≡ 0 = omega (arith, generation) in
    let is_i : i ≡ 0 = omega (arith, generation) in
    let is_j : j ≡ 0 = omega (arith, lane) in
    let is_k : k ≡ 0 = omega (arith, lane) in
    cc

-- a whole file whose batches end before its end is a lane with a gate behind them
module _ (bytes : List ℕ) (batches : List Batch) (opened : IsOpen bytes) (whole : IsWhole false 0 bytes 2 batches) where
  lane_with : (rest : List ℕ) → whole.rest ≡ rest → 11 + length (flat_map batch_text whole.bodies) < length bytes → IsLane 2 0 whole.bodies bytes
  lane_with [] is inside =
      absurd (omega (arith, inside, whole.head.long, ap length whole.text.text, length-append (flat_map batch_text whole.bodies) whole.rest, ap length is, length-drop 11 bytes))
  lane_with (gate ∷ rest) is inside =
      let flat = flat_map batch_text whole.bodies in
      record {
        head = record { some = omega arith; fits = omega arith; lane_fits = omega arith };
        bodies_fit = whole.text.fit;
        gate = gate;
        rest = rest;
        closed = subst (λ (l : List ℕ). ¬ (IsOpen l)) is whole.end;
        text =
            header_there bytes whole.head.long opened (sym whole.generation_is) whole.head.lane_is
            ∙ ap (λ (l : List ℕ). header_text 2 0 ++ l) (whole.text.text ∙ ap (λ (l : List ℕ). flat ++ l) is)
            ∙ sym (append_assoc (header_text 2 0) flat (gate ∷ rest));
      }

pub whole_lane : (bodies : List (List ℕ)) (bytes : List ℕ) → HasBodies 2 bodies bytes → 11 + length (flat_map batch_text bodies) < length bytes → IsLane 2 0 bodies bytes
whole_lane bodies bytes has inside =
    let same : bodies ≡ has.1.bodies = same_bodies bodies has.1.bodies has.1.batches_are in
    let inside' : 11 + length (flat_map batch_text has.1.bodies) < length bytes = subst (λ (l : List (List ℕ)). 11 + length (flat_map batch_text l) < length bytes) same inside in
    subst (λ (l : List (List ℕ)). IsLane 2 0 l bytes) (sym same) (lane_with bytes (placed 11 bodies) has.0 has.1 has.1.rest refl inside')
