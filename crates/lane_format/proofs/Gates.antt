-- What stands at a gate of a lane file: a batch, or an open gate without one.
use Rattle.std.proofs.Common.{◌≡◌, ◌⊎◌, ⊎_elim, ℕ, ◌+◌, ◌<◌, List, [], ◌∷◌, ◌++◌, length, take, drop, slice_index, ◌≤◌, ◌^◌, refl, sym, ◌∙◌, ap, arith, length-append, take-append-drop}
use Rattle.std.proofs.lemmas.List.{drop-drop, drop-take, take-take, take_at, drop_at, length-drop, length-take}
use Rattle.std.proofs.lemmas.Nat.{from_le_bytes-to_le_bytes_4}
use Rattle.std.specs.Int.{w32, from_le_bytes, to_le_bytes}
use Rattle.lane_format.specs.Lane.{IsBody, IsOpen, batch_text}
use Rattle.lane_format.specs.Batches.{HasBatch}
use Rattle.lane_format.specs.LaneRead.{LacksBatch}

pub length-batch_text : (body : List ℕ) → length (batch_text body) ≡ 5 + length body
unfolding batch_text
length-batch_text body = omega (arith, length-append (to_le_bytes w32 (length body)) body)

-- the length that a batch says
pub said_length : (body behind : List ℕ) → take 4 (drop 1 (batch_text body ++ behind)) ≡ to_le_bytes w32 (length body)
unfolding batch_text
said_length body behind = refl

pub length_told : (body behind rest : List ℕ) → IsBody body → rest ≡ batch_text body ++ behind → from_le_bytes w32 (take 4 (drop 1 rest)) ≡ length body
length_told body behind rest fits is = ap (λ (l : List ℕ). from_le_bytes w32 (take 4 (drop 1 l))) is ∙ ap (from_le_bytes w32) (said_length body behind) ∙ from_le_bytes-to_le_bytes_4 (length body) (omega (arith, fits.1))

pub short_lacks : (rest : List ℕ) → IsOpen rest → length rest < 5 → LacksBatch rest
short_lacks rest gate short = record {
  gate = gate;
  none = λ body behind fits is. omega (arith, short, ap length is, length-append (batch_text body) behind, length-batch_text body);
}

pub length_lacks : (rest : List ℕ) (n : ℕ) → IsOpen rest → n ≡ from_le_bytes w32 (take 4 (drop 1 rest)) → (n ≡ 0) ⊎ (length rest < 5 + n) → LacksBatch rest
length_lacks rest n gate is bad = record {
  gate = gate;
  none = λ body behind fits same.
      let len : n ≡ length body = is ∙ length_told body behind rest fits same in
      ⊎_elim (λ zero. omega (arith, zero, len, fits.0)) (λ short. omega (arith, short, len, ap length same, length-append (batch_text body) behind, length-batch_text body)) bad;
}

open_first : (rest : List ℕ) → IsOpen rest → rest ≡ 1 ∷ drop 1 rest
open_first [] is = absurd (let one : 0 ≡ 1 = is in omega (arith, one))
open_first (b ∷ rest) is = ap (λ n. n ∷ rest) is

-- an open gate, a length and so many bytes are a batch
pub batch_there : (rest body : List ℕ) → IsOpen rest → take 4 (drop 1 rest) ≡ to_le_bytes w32 (length body) → body ≡ take (length body) (drop 5 rest) → rest ≡ batch_text body ++ drop (5 + length body) rest
unfolding batch_text
batch_there rest body gate len is =
    let n = length body in
    let split : drop 1 rest ≡ to_le_bytes w32 n ++ (body ++ drop (5 + n) rest) =
    sym (take-append-drop 4 (drop 1 rest))
    ∙ ap (λ (l : List ℕ). l ++ drop 4 (drop 1 rest)) len
    ∙ ap (λ (l : List ℕ). to_le_bytes w32 n ++ l) (drop-drop 4 1 rest ∙ sym (take-append-drop n (drop 5 rest)) ∙ ap (λ (l : List ℕ). l ++ drop n (drop 5 rest)) (sym is) ∙ ap (λ (l : List ℕ). body ++ l) (drop-drop n 5 rest)) in
    open_first rest gate ∙ ap (λ (l : List ℕ). 1 ∷ l) split

-- an open gate, the length of a body and as many bytes
pub has_batch : (rest : List ℕ) (len : ℕ) → IsOpen rest → 1 ≤ len → len < 2 ^ 32 → 5 + len ≤ length rest → to_le_bytes w32 len ≡ take 4 (drop 1 rest) → HasBatch len rest
has_batch rest len gate some short inside said =
    let body = take len (drop 5 rest) in
    let size : length body ≡ len = omega (arith, inside, length-take len (drop 5 rest), length-drop 5 rest) in
    record {
      body = body;
      behind = drop (5 + length body) rest;
      fits = (omega (arith, size, some), omega (arith, size, short));
      len_is = sym size;
      text = batch_there rest body gate (sym said ∙ ap (to_le_bytes w32) (sym size)) (ap (λ k. take k (drop 5 rest)) (sym size));
    }

-- ---- the first five bytes

pub front_open : (rest : List ℕ) → slice_index (take 5 rest) 0 ≡ slice_index rest 0
front_open [] = refl
front_open (b ∷ rest) = refl

pub front_said : (rest : List ℕ) → take 4 (drop 1 (take 5 rest)) ≡ take 4 (drop 1 rest)
front_said rest = ap (take 4) (drop-take 1 4 rest) ∙ take-take 4 4 (drop 1 rest) (omega arith)

-- ---- a batch at a place in the file

behind_five : (body behind : List ℕ) → drop 5 (batch_text body ++ behind) ≡ body ++ behind
unfolding batch_text
behind_five body behind = refl

module _ (bytes : List ℕ) (gate len : ℕ) (has : HasBatch len (drop gate bytes)) where
  pub body_there : take len (drop (gate + 5) bytes) ≡ has.body
  body_there = ap (take len) (sym (drop-drop 5 gate bytes) ∙ ap (drop 5) has.text ∙ behind_five has.body has.behind) ∙ take_at has.body has.behind len (sym has.len_is)

  pub behind_there : has.behind ≡ drop (gate + 5 + len) bytes
  behind_there =
      let place : gate + (5 + len) ≡ gate + 5 + len = omega arith in
      sym (drop_at (batch_text has.body) has.behind (5 + len) (length-batch_text has.body ∙ ap (λ n. 5 + n) (sym has.len_is)))
      ∙ ap (drop (5 + len)) (sym has.text)
      ∙ drop-drop (5 + len) gate bytes
      ∙ ap (λ n. drop n bytes) place
