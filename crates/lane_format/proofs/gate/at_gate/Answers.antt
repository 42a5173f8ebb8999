use Rattle.std.proofs.Common.{◌≡◌, ℕ, List, inl, inr, take, drop, slice_index, sym, ◌∙◌, ap, arith}
use Rattle.std.specs.Int.{w32, from_le_bytes}
use Rattle.lane_format.specs.Lane.{IsOpen}
use Rattle.lane_format.proofs.Gates.{front_open, front_said, has_batch, length_lacks, short_lacks}
use Rattle.lane_format.proofs.gate.at_gate.Goals.{then-len-eq0-via-then-len-eq0, then-len-eq0-via-else-len-eq0+then-left-from}
use Rattle.lane_format.proofs.gate.at_gate.Goals as goal

pub returns-then-left-lt-BATCH_HEAD-clause-stands : goal.returns-then-left-lt-BATCH_HEAD-clause-stands
returns-then-left-lt-BATCH_HEAD-clause-stands c = λ rest left front.
    let open_gate : IsOpen rest = sym (front_open rest) ∙ ap (λ (l : List ℕ). slice_index l 0) (sym front) ∙ c.if-front-ne-OPEN.false in
    short_lacks rest open_gate (omega (arith, left, c.if-left-lt-BATCH_HEAD.true))

pub returns-then-len-eq0-clause-stands : goal.returns-then-len-eq0-clause-stands
returns-then-len-eq0-clause-stands c = λ rest left front.
    let open_gate : IsOpen rest = sym (front_open rest) ∙ ap (λ (l : List ℕ). slice_index l 0) (sym front) ∙ c.if-front-ne-OPEN.false in
    let said : take 4 (drop 1 c.args.front.now) ≡ take 4 (drop 1 rest) = ap (λ (l : List ℕ). take 4 (drop 1 l)) front ∙ front_said rest in
    let len : c.number_in-len.result ≡ from_le_bytes w32 (take 4 (drop 1 rest)) = c.number_in-len.ensures.value ∙ ap (from_le_bytes w32) said in
    length_lacks rest c.number_in-len.result open_gate len
    (elim c.then-len-eq0.branch [
      | then-len-eq0-via-then-len-eq0 w ↦ inl w.if-len-eq0.true
      | then-len-eq0-via-else-len-eq0+then-left-from w ↦ inr (omega (arith, w.if-left-from.true, w.from.ensures, c.if-left-lt-BATCH_HEAD.false, left))
    ])

pub returns-clause-stands : goal.returns-clause-stands
returns-clause-stands c = λ rest left front.
    let open_gate : IsOpen rest = sym (front_open rest) ∙ ap (λ (l : List ℕ). slice_index l 0) (sym front) ∙ c.if-front-ne-OPEN.false in
    let said : take 4 (drop 1 c.args.front.now) ≡ take 4 (drop 1 rest) = ap (λ (l : List ℕ). take 4 (drop 1 l)) front ∙ front_said rest in
    has_batch rest c.number_in-len.result open_gate (omega (arith, c.if-len-eq0.false)) c.number_in-len.type_inv (omega (arith, c.if-left-from.false, c.from.ensures, c.if-left-lt-BATCH_HEAD.false, left)) (c.number_in-len.ensures.bytes ∙ said)
