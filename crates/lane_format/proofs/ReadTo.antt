-- One batch more is read, and what has been read is the whole file.
use Rattle.std.proofs.Common.{◌≡◌, ℕ, ◌+◌, List, [], ◌∷◌, ◌++◌, length, drop, refl, sym, ◌∙◌, ap, subst, arith, append_assoc, length-append}
use Rattle.std.proofs.lemmas.List.{append-nil}
use Rattle.std.proofs.lemmas.Grind.{flat_map-append}
use Rattle.std.specs.List.{flat_map}
use Rattle.lane_format.specs.Lane.{IsBody, batch_text}
use Rattle.lane_format.specs.LaneRead.{placed}
use Rattle.lane_format.specs.Batches.{HasBatch, ReadTo, batch_at}
use Rattle.lane_format.specs.declared.segment.Batch.{Batch}
use Rattle.lane_format.proofs.Gates.{behind_there, body_there, length-batch_text}
use Rattle.lane_format.proofs.Lanes.{one_more_fits}

pub batches-push : (bodies : List (List ℕ)) (body : List ℕ) → flat_map batch_text (bodies ++ body ∷ []) ≡ flat_map batch_text bodies ++ batch_text body
batches-push bodies body = flat_map-append batch_text bodies (body ∷ []) ∙ ap (λ (l : List ℕ). flat_map batch_text bodies ++ l) (append-nil (batch_text body))

pub placed-push : (gate : ℕ) (bodies : List (List ℕ)) (body : List ℕ) (batch : Batch) → batch.at ≡ gate + length (flat_map batch_text bodies) + 5 → batch.body ≡ body → placed gate (bodies ++ body ∷ []) ≡ placed gate bodies ++ batch ∷ []
placed-push gate [] body batch at is =
    let place : gate + 5 ≡ batch.at = omega (arith, at) in
    ap (λ (n : ℕ). let b : Batch = record { at = n; body = body } in b ∷ []) place ∙ ap (λ (l : List ℕ). let b : Batch = record { at = batch.at; body = l } in b ∷ []) (sym is)
placed-push gate (first ∷ bodies) body batch at is =
    ap (λ (l : List Batch). let b : Batch = record { at = gate + 5; body = first } in b ∷ l)
    (placed-push (gate + 5 + length first) bodies body batch (omega (arith, at, length-append (batch_text first) (flat_map batch_text bodies), length-batch_text first)) is)

pub none_read : (bytes : List ℕ) → ReadTo bytes [] 11
none_read bytes = record { bodies = []; text = record { fit = tt; text = refl }; place = refl; batches_are = refl }

pub one_more_read : (bytes : List ℕ) (batches : List Batch) (gate : ℕ) (batch : Batch) → ReadTo bytes batches gate → IsBody batch.body → drop gate bytes ≡ batch_text batch.body ++ drop (gate + 5 + length batch.body) bytes
    → batch.at ≡ gate + 5 → ReadTo bytes (batches ++ batch ∷ []) (batch.at + length batch.body)
one_more_read bytes batches gate batch so_far fits is at =
    let body = batch.body in
    let bodies = so_far.bodies in
    let behind : drop (gate + 5 + length body) bytes ≡ drop (batch.at + length body) bytes = ap (λ n. drop (n + length body) bytes) (sym at) in
    record {
      bodies = bodies ++ body ∷ [];
      text = record {
        fit = one_more_fits bodies body so_far.text.fit fits;
        text =
            so_far.text.text
            ∙ ap (λ (l : List ℕ). flat_map batch_text bodies ++ l) (is ∙ ap (λ (l : List ℕ). batch_text body ++ l) behind)
            ∙ sym (append_assoc (flat_map batch_text bodies) (batch_text body) (drop (batch.at + length body) bytes))
            ∙ ap (λ (l : List ℕ). l ++ drop (batch.at + length body) bytes) (sym (batches-push bodies body));
      };
      place = omega (arith, at, so_far.place, ap length (batches-push bodies body), length-append (flat_map batch_text bodies) (batch_text body), length-batch_text body);
      batches_are = ap (λ (l : List Batch). l ++ batch ∷ []) so_far.batches_are ∙ sym (placed-push 11 bodies body batch (omega (arith, at, so_far.place)) refl);
    }

-- the batch at a gate is read
pub next_read : (bytes : List ℕ) (batches : List Batch) (gate len : ℕ) → ReadTo bytes batches gate → HasBatch len (drop gate bytes) → ReadTo bytes (batches ++ batch_at bytes gate len ∷ []) (gate + 5 + len)
next_read bytes batches gate len so_far has =
    let batch = batch_at bytes gate len in
    let body_is = body_there bytes gate len has in
    let size : length batch.body ≡ len = ap length body_is ∙ sym has.len_is in
    let fits : IsBody batch.body = subst IsBody (sym body_is) has.fits in
    let behind : has.behind ≡ drop (gate + 5 + length batch.body) bytes = behind_there bytes gate len has ∙ ap (λ n. drop (gate + 5 + n) bytes) (sym size) in
    let text : drop gate bytes ≡ batch_text batch.body ++ drop (gate + 5 + length batch.body) bytes =
    has.text ∙ ap (λ (l : List ℕ). batch_text l ++ has.behind) (sym body_is) ∙ ap (λ (l : List ℕ). batch_text batch.body ++ l) behind in
    subst (λ n. ReadTo bytes (batches ++ batch ∷ []) (gate + 5 + n)) size (one_more_read bytes batches gate batch so_far fits text refl)
