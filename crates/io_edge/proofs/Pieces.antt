-- What a source in memory gives.
use Rattle.std.proofs.Common.{◌≡◌, ℕ, ◌+◌, ◌-◌, ◌≤◌, min, List, ◌++◌, length, take, drop, refl, ◌∙◌, arith}
use Rattle.std.proofs.lemmas.List.{length-drop, length-append, length-take, take-append-le, take_all, drop_all, drop-drop}
use Rattle.std.proofs.Math.Seq.{take-add}
use Rattle.io_edge.specs.Content.{Gives}

module _ (bytes into : List ℕ) (at n : ℕ) (inside : at ≤ length bytes) (most : n ≡ min (length into) (length bytes - at)) where
  copied : length (take n (drop at bytes)) ≡ n
  copied = omega (arith, length-take n (drop at bytes), length-drop at bytes)

  -- as many bytes as fit are copied to the front of the piece
  pub gives_most : Gives n (take n (drop at bytes) ++ drop n into) (record { given = take at bytes; left = drop at bytes }) (record { given = take (at + n) bytes; left = drop (at + n) bytes })
  gives_most = record {
    enough = omega (arith, length-drop at bytes);
    bytes = take-append-le n (take n (drop at bytes)) (drop n into) (omega (arith, copied)) ∙ take_all n (take n (drop at bytes)) (omega (arith, copied));
    rest = rw (take-add at n bytes, ← drop-drop n at bytes) refl;
    end = λ none some. drop_all at bytes (omega (arith, length-append (take n (drop at bytes)) (drop n into), length-drop n into, copied));
  }
