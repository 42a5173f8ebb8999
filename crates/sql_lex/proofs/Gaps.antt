-- Blanks and comments, one byte at a time.
use Rattle.std.proofs.Common.{◌≡◌, ℕ, ◌+◌, ◌<◌, true, false, not, eqb, List, ◌∷◌, length, get_or, drop, refl, sym, ap, ◌∙◌}
use Rattle.std.proofs.Math.Numerals.{add-one}
use Rattle.std.proofs.Math.Seq.{drop-cons}
use Rattle.sql_lex.specs.Tokens.{opens_comment, is_blank}
use Rattle.sql_lex.specs.Reading.{after_gap}

pub opened : (b : ℕ) (bs : List ℕ) → opens_comment (b ∷ bs) ≡ true → after_gap false (b ∷ bs) ≡ after_gap true bs
opened b bs e = rw e refl

pub blank : (b : ℕ) (bs : List ℕ) → opens_comment (b ∷ bs) ≡ false → is_blank b ≡ true → after_gap false (b ∷ bs) ≡ after_gap false bs
blank b bs e f = rw (e, f) refl

module _ (bytes : List ℕ) (i : ℕ) (inside : i < length bytes) where
  starts : drop i bytes ≡ get_or bytes i 0 ∷ drop (i + 1) bytes
  starts = rw (add-one, drop-cons bytes i 0) refl

  -- inside a comment, which ends with its line
  pub gap_in_comment : after_gap true (drop i bytes) ≡ after_gap (not (eqb (get_or bytes i 0) 10)) (drop (i + 1) bytes)
  gap_in_comment = ap (after_gap true) starts

  -- a comment begins
  pub gap_opens : opens_comment (drop i bytes) ≡ true → after_gap false (drop i bytes) ≡ after_gap true (drop (i + 1) bytes)
  gap_opens e = ap (after_gap false) starts ∙ opened (get_or bytes i 0) (drop (i + 1) bytes) (ap opens_comment (sym starts) ∙ e)

  -- a blank stands
  pub gap_blank : opens_comment (drop i bytes) ≡ false → is_blank (get_or bytes i 0) ≡ true → after_gap false (drop i bytes) ≡ after_gap false (drop (i + 1) bytes)
  gap_blank e f = ap (after_gap false) starts ∙ blank (get_or bytes i 0) (drop (i + 1) bytes) (ap opens_comment (sym starts) ∙ e) f
