-- What a window keeps of its file when it slides and reads on.
use Rattle.std.proofs.Common.{◌≡◌, Option, Some, ℕ, ◌+◌, ◌-◌, ◌≤◌, List, ◌++◌, length, min, take, drop, sym, ◌∙◌, ap, ap₂, arith, take-append-drop, length-append}
use Rattle.std.proofs.lemmas.List.{drop-drop, drop-take, take-take, take_at, length-take, length-drop}
use Rattle.lane_format.specs.Batches.{stands}
use Rattle.lane_format.specs.declared.gate.AtGate.{AtGate}
use Rattle.lane_format.proofs.Windows.{front_of, window_piece}
use Rattle.replay_core.specs.Windows.{Covers, IsWindow, piece_of}
use Rattle.replay_core.specs.declared.window.Window.{Window}
use Rattle.std.proofs.lemmas.Slice.{take-put_mid}
use borrow.Rule.Slice.PartMut.{put_mid}
use lib.Seq.{paste}

-- what was copied to the front is what stood there
pub slid : (window bytes : List ℕ) (begin len at : ℕ) → take len window ≡ take len (drop begin bytes) → len ≤ length window → begin ≤ at → at - begin ≤ len
    → take (len - (at - begin)) (paste window 0 (drop (at - begin) window) (len - (at - begin))) ≡ take (len - (at - begin)) (drop at bytes)
slid window bytes begin len at is fits low high =
    let from = at - begin in
    let n = len - from in
    let front = take n (drop from window) in
    let size : length front ≡ n = omega (arith, length-take n (drop from window), length-drop from window, fits, high) in
    take_at front (drop (0 + n) window) n size
    ∙ window_piece window bytes begin len at n is low (omega (arith, low, high))

pub take_plus : (m n : ℕ) (xs : List ℕ) → take (m + n) xs ≡ take m xs ++ take n (drop m xs)
take_plus m n xs = sym (take-append-drop m (take (m + n) xs)) ∙ ap₂ (λ (a b : List ℕ). a ++ b) (take-take m (m + n) xs (omega arith)) (drop-take m n xs)

-- a window and what was read behind it are the file's
pub filled : (window bytes piece : List ℕ) (at from len : ℕ) → take from window ≡ take from (drop at bytes) → from ≤ length window → from ≤ len → length piece ≡ len - from
    → piece ≡ take (length piece) (drop (at + from) bytes) → take len (put_mid from (len - from) window piece) ≡ take len (drop at bytes)
filled window bytes piece at from len is fits less size read =
    let end : len ≡ from + length piece = omega (arith, size, less) in
    take-put_mid from (len - from) window piece len end fits
    ∙ ap₂ (λ (a b : List ℕ). a ++ b) is (read ∙ ap (take (length piece)) (sym (drop-drop from at bytes)))
    ∙ sym (take_plus from (length piece) (drop at bytes))
    ∙ ap (λ n. take n (drop at bytes)) (sym end)

-- a part of a slice that was written over leaves its length
pub length-put_mid : (from k : ℕ) (window piece : List ℕ) → from + k ≤ length window → length piece ≡ k → length (put_mid from k window piece) ≡ length window
length-put_mid from k window piece fits size =
    let front : length (take from window) ≡ from = omega (arith, length-take from window, fits) in
    let post : length (drop k (drop from window)) ≡ length window - from - k = omega (arith, length-drop k (drop from window), length-drop from window) in
    omega (arith, length-append (take from window) (piece ++ drop k (drop from window)), length-append piece (drop k (drop from window)), front, post, size, fits)

-- the items of a vector of which a slice of all of it was written over
module _ (window slice piece : List ℕ) (n from len : ℕ) (whole : n ≡ length window) (same : slice ≡ window) (less : from ≤ len) (fits : len ≤ n) (size : length piece ≡ len - from) where
  abbrev pub written : List ℕ
  written = put_mid from (len - from) slice piece

  written_length : length written ≡ n
  written_length = length-put_mid from (len - from) slice piece (omega (arith, whole, ap length same, less, fits)) size ∙ ap length same ∙ sym whole

  pub kept_items : take n (written ++ drop (length written) window) ≡ put_mid from (len - from) window piece
  kept_items = take_at written (drop (length written) window) n written_length ∙ ap (λ l. put_mid from (len - from) l piece) same

  pub kept_length : length (take n (written ++ drop (length written) window)) ≡ n
  kept_length = ap length (take_at written (drop (length written) window) n written_length) ∙ written_length

-- the piece that a window has is the file's
pub piece_there : (content : Option (List ℕ)) (size : ℕ) (window : Window) (bytes : List ℕ) (at n : ℕ) → IsWindow content size window → content ≡ Some bytes → Covers at n window → piece_of window at n ≡ take n (drop at bytes)
piece_there content size window bytes at n is known covers = window_piece window.bytes.items bytes window.at window.len at n (is.bytes bytes known) covers.0 covers.1

-- what is found at a gate of which the window has the front stands there
pub gate_stands : (content : Option (List ℕ)) (size : ℕ) (window : Window) (bytes front : List ℕ) (gate n : ℕ) (found : AtGate) → IsWindow content size window → content ≡ Some bytes → size ≡ length bytes → n ≡ min (size - gate) 5 → Covers gate n window
    → front ≡ piece_of window gate n → ((rest : List ℕ) → length rest ≡ size - gate → front ≡ take 5 rest → stands rest found) → stands (drop gate bytes) found
gate_stands content size window bytes front gate n found is known whole few covers piece says =
    let rest = drop gate bytes in
    let left : length rest ≡ size - gate = length-drop gate bytes ∙ ap (λ k. k - gate) (sym whole) in
    says rest left (piece ∙ piece_there content size window bytes gate n is known covers ∙ front_of 5 n rest (few ∙ ap (λ k. min k 5) (sym left)))
