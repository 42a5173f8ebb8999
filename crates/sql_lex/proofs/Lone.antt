-- Texts of no token, and of one.
use Rattle.std.proofs.Common.{◌≡◌, ℕ, ◌+◌, ◌-◌, ◌≤◌, List, [], ◌∷◌, length, take, drop, Option, None, Some, refl, sym, ap, ◌∙◌, arith}
use Rattle.std.proofs.Math.Seq.{drop-append_seam}
use Rattle.std.proofs.lemmas.List.{length-drop, drop_all}
use Rattle.sql_lex.specs.Spelling.{Lexeme}
use Rattle.sql_lex.specs.Tokens.{Item, AreTokens}
use Rattle.sql_lex.specs.Reading.{from_token, front}
use Rattle.sql_lex.proofs.Fronts.{slice_rest}
use Rattle.sql_lex.proofs.Exact.{front_stands, front_of_token}
use Rattle.sql_lex.proofs.Runs.{tokens_from_so, tokens_to_so}

pub none_from_gap : (base : ℕ) (text : List ℕ) → from_token text ≡ [] → AreTokens base text []
none_from_gap base text e = tokens_from_so base text [] (record { rest = text; begins = refl; ends = e })

pub gap_from_none : (base : ℕ) (text : List ℕ) → AreTokens base text [] → from_token text ≡ []
gap_from_none base text a = let so = tokens_to_so base text [] a in ap from_token so.begins ∙ so.ends

-- one token stands behind a gap, and a gap behind it
pub one_from_front : (base at n : ℕ) (text left : List ℕ) (lexeme : Lexeme) → from_token text ≡ left → front left ≡ Some (lexeme, n) → from_token (drop n left) ≡ [] → at + length left ≡ base + length text → AreTokens base text (record { lexeme = lexeme; at = at } ∷ [])
one_from_front base at n text left lexeme gap found ends place =
    let stands = front_stands left lexeme n found in
    let behind : drop n left ≡ stands.after = ap (λ m. drop m left) stands.len ∙ ap (λ (l : List ℕ). drop (length stands.bytes) l) stands.split ∙ drop-append_seam stands.bytes stands.after in
    tokens_from_so base text (record { lexeme = lexeme; at = at } ∷ []) (record {
      rest = stands.after;
      begins = (stands.bytes, stands.after, gap ∙ stands.split, stands.token, omega (arith, ap length stands.split), refl);
      ends = ap from_token (sym behind) ∙ ends;
    })

-- what a text of one token begins with, behind its gap, and what is behind that
pub record Only (text : List ℕ) (lexeme : Lexeme) : Type 0 where
  pub n : ℕ
  pub found : front (from_token text) ≡ Some (lexeme, n)
  pub ends : from_token (drop n (from_token text)) ≡ []

pub only_of_one : (base : ℕ) (text : List ℕ) (item : Item) → AreTokens base text (item ∷ []) → Only text item.lexeme
only_of_one base text item a =
    let so = tokens_to_so base text (item ∷ []) a in
    let b = so.begins in
    let behind : drop (length b.0) (from_token text) ≡ b.1 = ap (λ (l : List ℕ). drop (length b.0) l) b.2 ∙ drop-append_seam b.0 b.1 in
    record {
      n = length b.0;
      found = ap front b.2 ∙ front_of_token item.lexeme b.0 b.1 b.3;
      ends = ap from_token (behind ∙ b.5) ∙ so.ends;
    }

front_of_nothing : front [] ≡ None
unfolding front
front_of_nothing = refl

pub not_one-from_gap : (base : ℕ) (text : List ℕ) (item : Item) → from_token text ≡ [] → AreTokens base text (item ∷ []) → ⊥
not_one-from_gap base text item gap a =
    let only = only_of_one base text item a in
    absurd (let none : ◌≡◌ {A = Option (Lexeme × ℕ)} None (Some (item.lexeme, only.n)) = sym front_of_nothing ∙ ap front (sym gap) ∙ only.found in cc)

pub not_one-from_no_token : (base : ℕ) (text : List ℕ) (item : Item) → front (from_token text) ≡ None → AreTokens base text (item ∷ []) → ⊥
not_one-from_no_token base text item none a =
    let only = only_of_one base text item a in
    absurd (let same : ◌≡◌ {A = Option (Lexeme × ℕ)} None (Some (item.lexeme, only.n)) = sym none ∙ only.found in cc)

len_of : Option (Lexeme × ℕ) → ℕ
len_of None = 0
len_of (Some x) = x.1

pub not_one-from_more : (base n : ℕ) (text : List ℕ) (item : Item) (lexeme : Lexeme) → front (from_token text) ≡ Some (lexeme, n) → (from_token (drop n (from_token text)) ≡ [] → ⊥) → AreTokens base text (item ∷ []) → ⊥
unfolding len_of
not_one-from_more base n text item lexeme found more a =
    let only = only_of_one base text item a in
    let same : only.n ≡ n = ap len_of (sym only.found ∙ found) in
    more (ap (λ m. from_token (drop m (from_token text))) (sym same) ∙ only.ends)

-- what is left behind a gap that goes to the text's end
pub empty_from_len : (base n : ℕ) (text bytes : List ℕ) → bytes ≡ text → drop n bytes ≡ from_token bytes → n ≡ length text → AreTokens base text []
empty_from_len base n text bytes same left whole = none_from_gap base text (ap from_token (sym same) ∙ sym left ∙ ap (drop n) same ∙ drop_all n text (omega arith))

pub len_from_empty : (base n : ℕ) (text bytes : List ℕ) → bytes ≡ text → drop n bytes ≡ from_token bytes → n ≤ length bytes → AreTokens base text [] → n ≡ length text
len_from_empty base n text bytes same left within a =
    let nothing : length (drop n text) ≡ 0 = ap length (ap (drop n) (sym same) ∙ left ∙ ap from_token same ∙ gap_from_none base text a) in
    omega (arith, nothing, length-drop n text, within, ap length same)

-- what is left behind the gap, and behind a token there
pub left_at : (n : ℕ) (text bytes : List ℕ) → bytes ≡ text → drop n bytes ≡ from_token bytes → from_token text ≡ drop n text
left_at n text bytes same left = ap from_token (sym same) ∙ sym left ∙ ap (drop n) same

pub rest_len : (text bytes : List ℕ) (from : ℕ) → bytes ≡ text → length (take (length bytes - from) (drop from bytes)) ≡ length text - from
rest_len text bytes from same = ap length (ap (λ (l : List ℕ). take (length l - from) (drop from l)) same ∙ slice_rest text from) ∙ length-drop from text
