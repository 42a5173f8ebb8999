-- The token that is read at the front is the one that stands there, and no other does.
use Rattle.std.proofs.Common.{◌≡◌, ◌≢◌, ℕ, suc, ◌+◌, ◌-◌, ◌^◌, ◌<◌, min, Bool, true, false, cond, eqb, List, [], ◌∷◌, ◌++◌, length, get_or, take, map, Option, None, Some, refl, sym, ap, subst, ◌∙◌, inl, inr, arith, append_assoc, length-append}
use Rattle.std.specs.Prelude.{option_map, unwrap_or}
use Rattle.std.specs.List.{prefix_len, list_all, find}
use Rattle.std.specs.Str.{bytes_eq}
use Rattle.std.proofs.lemmas.Slice.Eq.{bytes_eq-Decides}
use Rattle.std.specs.Char.{to_ascii_lowercase, is_ascii_alphabetic, is_ascii_digit}
use Rattle.std.proofs.lemmas.Bool.Decides.{nat_tests, Decides-eqb}
use Rattle.std.proofs.Math.Numerals.{one-add}
use Rattle.std.proofs.Math.Seq.{take-append_seam}
use Rattle.sql_lex.specs.Letters.{letters}
use Rattle.sql_lex.specs.Spelling.{Lexeme, Word, Name, Number, Literal, Sign, is_word_byte, IsQuoted, IsWord, IsDigits, number_of, SpellsSign, sign_goes_on, goes_on, EndsBefore, IsToken}
use Rattle.sql_lex.specs.Reading.{keywords, word_lexeme, word_of, closes, sign_of, front, word_front, number_front, literal_front, sign_front}
use Rattle.sql_lex.specs.declared.keyword.Keyword.{Keyword}
use Rattle.sql_lex.specs.declared.token.Sign.{Sign as Mark}
use Rattle.sql_lex.specs.declared.token.Sign.TheVariants.{Open, Close, Comma, Star, Plus, Minus, Equal, NotEqual, Less, LessEqual, Greater, GreaterEqual}
use Rattle.sql_lex.proofs.Fronts.{letters_found, found_passes, word_of_keyword, word_of_name, letter_in_word, front_of_word, front_of_number, front_of_literal, front_of_sign}
use Rattle.sql_lex.proofs.Literals.{FirstFails, is_quote, closing, closes_whole, and_true, or_false}

-- the longest front that passes a test
record Parted (p : ℕ → Bool) (xs : List ℕ) : Type 0 where
  passing : List ℕ
  rest : List ℕ
  split : xs ≡ passing ++ rest
  passes : list_all p passing ≡ true
  stops : FirstFails p rest
  len : prefix_len p xs ≡ length passing

parted_step : (p : ℕ → Bool) (x : ℕ) (xs : List ℕ) (b : Bool) → p x ≡ b → Parted p xs → Parted p (x ∷ xs)
parted_step p x xs true e rest = record { passing = x ∷ rest.passing; rest = rest.rest; split = ap (λ l. x ∷ l) rest.split; passes = rw e rest.passes; stops = rest.stops; len = rw (e, one-add) (ap (λ n. suc n) rest.len) }
parted_step p x xs false e rest = record { passing = []; rest = x ∷ xs; split = refl; passes = refl; stops = e; len = rw e refl }

parted : (p : ℕ → Bool) (xs : List ℕ) → Parted p xs
parted p [] = record { passing = []; rest = []; split = refl; passes = refl; stops = tt; len = refl }
parted p (x ∷ xs) = parted_step p x xs (p x) refl (parted p xs)

-- such a front is as long as it is said to be
whole_len : (p : ℕ → Bool) (xs after : List ℕ) → list_all p xs ≡ true → FirstFails p after → prefix_len p (xs ++ after) ≡ length xs
whole_len p [] [] passes stops = refl
whole_len p [] (b ∷ bs) passes stops = rw stops refl
whole_len p (x ∷ xs) after passes stops =
    let parts = and_true (p x) (list_all p xs) passes in
    rw (parts.0, one-add) (ap (λ n. suc n) (whole_len p xs after parts.1 stops))

-- a token stands at the front of the text
pub record Stands (text : List ℕ) (lexeme : Lexeme) (n : ℕ) : Type 0 where
  pub bytes : List ℕ
  pub after : List ℕ
  pub split : text ≡ bytes ++ after
  pub token : IsToken lexeme bytes after
  pub len : n ≡ length bytes
  pub some : 0 < n

word_token_of : (w after : List ℕ) (o : Option Keyword) → find (λ j. bytes_eq (letters j) (map to_ascii_lowercase w)) keywords ≡ o → IsWord w → FirstFails is_word_byte after → IsToken (word_lexeme w o) w after
word_token_of w after None e word stops = record {
  spelled = (word, refl, λ k same. absurd (let found = ap (λ (l : List ℕ). find (λ j. bytes_eq (letters j) l) keywords) same ∙ letters_found k in cc));
  whole = elim after as (λ (l : List ℕ). FirstFails is_word_byte l → EndsBefore (Name w) l) [ [] ↦ λ _. tt | b ∷ bs ↦ λ h. h ] stops;
}
word_token_of w after (Some k) e word stops = record {
  spelled = (word, sym ((bytes_eq-Decides (letters k) (map to_ascii_lowercase w)).0 (found_passes (λ j. bytes_eq (letters j) (map to_ascii_lowercase w)) keywords k e)));
  whole = elim after as (λ (l : List ℕ). FirstFails is_word_byte l → EndsBefore (Word k) l) [ [] ↦ λ _. tt | b ∷ bs ↦ λ h. h ] stops;
}

word_token : (w after : List ℕ) → IsWord w → FirstFails is_word_byte after → IsToken (word_of w) w after
unfolding word_of
word_token w after word stops = word_token_of w after _ refl word stops

pub some_pair : {A B : Type 0} (a x : A) (b y : B) → ◌≡◌ {A = Option (A × B)} (Some (a, b)) (Some (x, y)) → (a ≡ x) × (b ≡ y)
some_pair {A} {B} a x b y e = (ap (λ (o : Option (A × B)). (unwrap_or o (a, b)).0) e, ap (λ (o : Option (A × B)). (unwrap_or o (a, b)).1) e)

cons_len : (p : ℕ → Bool) (x : ℕ) (xs : List ℕ) → p x ≡ true → (r : Parted p xs) → prefix_len p (x ∷ xs) ≡ length (x ∷ r.passing)
cons_len p x xs e r = rw (e, one-add) (ap (λ n. suc n) r.len)

cons_taken : (p : ℕ → Bool) (x : ℕ) (xs : List ℕ) → p x ≡ true → (r : Parted p xs) → take (prefix_len p (x ∷ xs)) (x ∷ xs) ≡ x ∷ r.passing
cons_taken p x xs e r =
    ap (λ n. take n (x ∷ xs)) (cons_len p x xs e r) ∙ ap (λ (l : List ℕ). x ∷ take (length r.passing) l) r.split ∙ ap (λ (l : List ℕ). x ∷ l) (take-append_seam r.passing r.rest)

word_stands_so : (b : ℕ) (bs : List ℕ) (lexeme : Lexeme) (n : ℕ) → is_ascii_alphabetic b ≡ true → Parted is_word_byte bs → word_front (b ∷ bs) ≡ Some (lexeme, n) → Stands (b ∷ bs) lexeme n
unfolding word_front
word_stands_so b bs lexeme n letter r e =
    let in_word = letter_in_word b letter in
    let w = b ∷ r.passing in
    let parts = some_pair (word_of (take (prefix_len is_word_byte (b ∷ bs)) (b ∷ bs))) lexeme (prefix_len is_word_byte (b ∷ bs)) n e in
    let len = parts.1 in
    let found = parts.0 in
    let is : word_of w ≡ lexeme = sym (ap word_of (cons_taken is_word_byte b bs in_word r)) ∙ found in
    let whole : n ≡ length w = sym len ∙ cons_len is_word_byte b bs in_word r in
    record {
      bytes = w;
      after = r.rest;
      split = ap (λ (l : List ℕ). b ∷ l) r.split;
      token = subst (λ x. IsToken x w r.rest) is (word_token w r.rest (letter, r.passes) r.stops);
      len = whole;
      some = omega (arith, whole);
    }

number_token : (digits after : List ℕ) → IsDigits digits → FirstFails is_ascii_digit after → IsToken (Number (min (number_of digits) (2 ^ 64 - 1))) digits after
number_token digits after are stops = record {
  spelled = (are, refl);
  whole = elim after as (λ (l : List ℕ). FirstFails is_ascii_digit l → EndsBefore (Number (min (number_of digits) (2 ^ 64 - 1))) l) [ [] ↦ λ _. tt | b ∷ bs ↦ λ h. h ] stops;
}

number_stands_so : (b : ℕ) (bs : List ℕ) (lexeme : Lexeme) (n : ℕ) → is_ascii_digit b ≡ true → Parted is_ascii_digit bs → number_front (b ∷ bs) ≡ Some (lexeme, n) → Stands (b ∷ bs) lexeme n
unfolding number_front
number_stands_so b bs lexeme n digit r e =
    let w = b ∷ r.passing in
    let parts = some_pair (Number (min (number_of (take (prefix_len is_ascii_digit (b ∷ bs)) (b ∷ bs))) (2 ^ 64 - 1))) lexeme (prefix_len is_ascii_digit (b ∷ bs)) n e in
    let len = parts.1 in
    let found = parts.0 in
    let is : Number (min (number_of w) (2 ^ 64 - 1)) ≡ lexeme = sym (ap (λ (l : List ℕ). Number (min (number_of l) (2 ^ 64 - 1))) (cons_taken is_ascii_digit b bs digit r)) ∙ found in
    let whole : n ≡ length w = sym len ∙ cons_len is_ascii_digit b bs digit r in
    record {
      bytes = w;
      after = r.rest;
      split = ap (λ (l : List ℕ). b ∷ l) r.split;
      token = subst (λ x. IsToken x w r.rest) is (number_token w r.rest (rw digit r.passes) r.stops);
      len = whole;
      some = omega (arith, whole);
    }

some_under : {A B : Type 0} (f : A → B) (o : Option A) (y : B) → option_map f o ≡ Some y → (x : A) × (o ≡ Some x) × (f x ≡ y)
some_under f None y e = absurd (cc)
some_under f (Some x) y e = (x, refl, cc)

literal_stands : (b : ℕ) (bs : List ℕ) (lexeme : Lexeme) (n : ℕ) → b ≡ 39 → literal_front bs ≡ Some (lexeme, n) → Stands (b ∷ bs) lexeme n
unfolding literal_front
literal_stands b bs lexeme n quote e =
    let o = some_under (λ (m : ℕ). (Literal (take m bs), m + 2)) (closes false bs) (lexeme, n) e in
    let m = o.0 in
    let found = closing false bs m o.1 in
    let parts = some_pair (Literal (take m bs)) lexeme (m + 2) n (ap Some o.2) in
    let len = parts.1 in
    let lexeme_is = parts.0 in
    let taken : take m bs ≡ found.raw = ap (λ (l : List ℕ). take m l) found.split ∙ ap (λ k. take k (found.raw ++ (39 ∷ found.after))) found.len ∙ take-append_seam found.raw (39 ∷ found.after) in
    let is : Literal found.raw ≡ lexeme = sym (ap Literal taken) ∙ lexeme_is in
    let bytes = 39 ∷ (found.raw ++ (39 ∷ [])) in
    let whole : n ≡ length bytes = omega (arith, len, found.len, length-append found.raw (39 ∷ [])) in
    record {
      bytes = bytes;
      after = found.after;
      split = ap (λ c. c ∷ bs) quote ∙ ap (λ (l : List ℕ). 39 ∷ l) (found.split ∙ sym (append_assoc found.raw (39 ∷ []) found.after));
      token = subst (λ x. IsToken x bytes found.after) is (record {
        spelled = (found.quoted, refl);
        whole = elim found.after as (λ (l : List ℕ). FirstFails is_quote l → EndsBefore (Literal found.raw) l) [ [] ↦ λ _. tt | c ∷ cs ↦ λ h. h ] found.ends;
      });
      len = whole;
      some = omega (arith, whole);
    }

-- a sign of one byte that the next doesn't continue, or one of two bytes
data SignRead (b next : ℕ) : Mark → ℕ → Type 0 where
  one : {s : Mark} → SpellsSign s (b ∷ []) → sign_goes_on s next ≡ false → SignRead b next s 1
  two : {s : Mark} → SpellsSign s (b ∷ next ∷ []) → next ≢ 0 → ((c : ℕ) → sign_goes_on s c ≡ false) → SignRead b next s 2

choose : {A : Type 0} {P : Type 0} (b : Bool) (x y : Option A) (z : Option A) → cond b x y ≡ z → (b ≡ true → x ≡ z → P) → (b ≡ false → y ≡ z → P) → P
choose true x y z e hit miss = hit refl e
choose false x y z e hit miss = miss refl e

sign_is : (b next : ℕ) (s t : Mark) (n k : ℕ) → ◌≡◌ {A = Option (Mark × ℕ)} (Some (s, n)) (Some (t, k)) → SignRead b next s n → SignRead b next t k
sign_is b next s t n k e read = let first = (some_pair s t n k e).0 in let second = (some_pair s t n k e).1 in subst (λ m. SignRead b next t m) second (subst (λ m. SignRead b next m n) first read)

eq_of : (b k : ℕ) → eqb b k ≡ true → b ≡ k
eq_of b k e = (Decides-eqb b k).0 e

single : (b next k : ℕ) (s t : Mark) (n : ℕ) → eqb b k ≡ true → SpellsSign s (k ∷ []) → sign_goes_on s next ≡ false → ◌≡◌ {A = Option (Mark × ℕ)} (Some (s, 1)) (Some (t, n)) → SignRead b next t n
single b next k s t n e spelled ends found = sign_is b next s t 1 n found (one (subst (λ c. SpellsSign s (c ∷ [])) (sym (eq_of b k e)) spelled) ends)

double : (b next k j : ℕ) (s t : Mark) (n : ℕ) → eqb b k ≡ true → eqb next j ≡ true → j ≢ 0 → SpellsSign s (k ∷ j ∷ []) → ((c : ℕ) → sign_goes_on s c ≡ false) → ◌≡◌ {A = Option (Mark × ℕ)} (Some (s, 2)) (Some (t, n)) → SignRead b next t n
double b next k j s t n e f some spelled ends found =
    let b_is = eq_of b k e in
    let next_is = eq_of next j f in
    sign_is b next s t 2 n found (two (subst (λ c. SpellsSign s (c ∷ next ∷ [])) (sym b_is) (subst (λ c. SpellsSign s (k ∷ c ∷ [])) (sym next_is) spelled)) (λ zero. some (sym next_is ∙ zero)) ends)

none_is : {P : Type 0} (s : Mark) (n : ℕ) → ◌≡◌ {A = Option (Mark × ℕ)} None (Some (s, n)) → P
none_is s n e = absurd (cc)

sign_read : (b next : ℕ) (s : Mark) (n : ℕ) → sign_of b next ≡ Some (s, n) → SignRead b next s n
sign_read b next s n e =
    choose (eqb b 40) _ _ _ e (λ t. single b next 40 Open s n t refl refl) (λ _ e.
    choose (eqb b 41) _ _ _ e (λ t. single b next 41 Close s n t refl refl) (λ _ e.
    choose (eqb b 44) _ _ _ e (λ t. single b next 44 Comma s n t refl refl) (λ _ e.
    choose (eqb b 42) _ _ _ e (λ t. single b next 42 Star s n t refl refl) (λ _ e.
    choose (eqb b 43) _ _ _ e (λ t. single b next 43 Plus s n t refl refl) (λ _ e.
    choose (eqb b 45) _ _ _ e (λ t e. choose (eqb next 45) _ _ _ e (λ _. none_is s n) (λ ends. single b next 45 Minus s n t refl ends)) (λ _ e.
    choose (eqb b 61) _ _ _ e (λ t. single b next 61 Equal s n t refl refl) (λ _ e.
    choose (eqb b 33) _ _ _ e (λ t e. choose (eqb next 61) _ _ _ e (λ u. double b next 33 61 NotEqual s n t u (omega arith) (inr refl) (λ c. refl)) (λ _. none_is s n)) (λ _ e.
    choose (eqb b 60) _ _ _ e (λ t e. choose (eqb next 61) _ _ _ e (λ u. double b next 60 61 LessEqual s n t u (omega arith) refl (λ c. refl)) (λ no e. choose (eqb next 62) _ _ _ e (λ u. double b next 60 62 NotEqual s n t u (omega arith) (inl refl) (λ c. refl)) (λ nor. single b next 60 Less s n t refl (rw (no, nor) refl)))) (λ _ e.
    choose (eqb b 62) _ _ _ e (λ t e. choose (eqb next 61) _ _ _ e (λ u. double b next 62 61 GreaterEqual s n t u (omega arith) refl (λ c. refl)) (λ no. single b next 62 Greater s n t refl no)) (λ _. none_is s n))))))))))

sign_shown : (text : List ℕ) (lexeme : Lexeme) (s : Mark) (n : ℕ) → SignRead (get_or text 0 0) (get_or text 1 0) s n → 0 < length text → Sign s ≡ lexeme → Stands text lexeme n
sign_shown [] lexeme s n read some is = absurd (omega arith)
sign_shown (b ∷ []) lexeme s n (one spelled ends) some is = record { bytes = b ∷ []; after = []; split = refl; token = subst (λ x. IsToken x (b ∷ []) []) is (record { spelled = spelled; whole = tt }); len = refl; some = omega arith }
sign_shown (b ∷ []) lexeme s n (two spelled nonzero ends) some is = absurd (nonzero refl)
sign_shown (b ∷ c ∷ cs) lexeme s n (one spelled ends) some is = record { bytes = b ∷ []; after = c ∷ cs; split = refl; token = subst (λ x. IsToken x (b ∷ []) (c ∷ cs)) is (record { spelled = spelled; whole = ends }); len = refl; some = omega arith }
sign_shown (b ∷ c ∷ cs) lexeme s n (two spelled nonzero ends) some is = record {
  bytes = b ∷ c ∷ [];
  after = cs;
  split = refl;
  token = subst (λ x. IsToken x (b ∷ c ∷ []) cs) is (record { spelled = spelled; whole = elim cs as (λ (l : List ℕ). EndsBefore (Sign s) l) [ [] ↦ tt | d ∷ ds ↦ ends d ] });
  len = refl;
  some = omega arith;
}

sign_stands : (b : ℕ) (bs : List ℕ) (lexeme : Lexeme) (n : ℕ) → sign_front (b ∷ bs) ≡ Some (lexeme, n) → Stands (b ∷ bs) lexeme n
unfolding sign_front
sign_stands b bs lexeme n e =
    let o = some_under (λ (x : Mark × ℕ). (Sign x.0, x.1)) (sign_of b (get_or bs 0 0)) (lexeme, n) e in
    let parts = some_pair (Sign o.0.0) lexeme o.0.1 n (ap Some o.2) in
    let len = parts.1 in
    subst (λ m. Stands (b ∷ bs) lexeme m) len (sign_shown (b ∷ bs) lexeme o.0.0 o.0.1 (sign_read b (get_or bs 0 0) o.0.0 o.0.1 o.1) (omega arith) parts.0)

front_cases : (b : ℕ) (bs : List ℕ) (lexeme : Lexeme) (n : ℕ) (letter digit quote : Bool) → is_ascii_alphabetic b ≡ letter → is_ascii_digit b ≡ digit → eqb b 39 ≡ quote → front (b ∷ bs) ≡ Some (lexeme, n) → Stands (b ∷ bs) lexeme n
front_cases b bs lexeme n true digit quote l d q e = word_stands_so b bs lexeme n l (parted is_word_byte bs) (sym (front_of_word b bs l) ∙ e)
front_cases b bs lexeme n false true quote l d q e = number_stands_so b bs lexeme n d (parted is_ascii_digit bs) (sym (front_of_number b bs l d) ∙ e)
front_cases b bs lexeme n false false true l d q e = let is = eq_of b 39 q in literal_stands b bs lexeme n is (sym (front_of_literal b bs is) ∙ e)
front_cases b bs lexeme n false false false l d q e = sign_stands b bs lexeme n (sym (front_of_sign b bs l d q) ∙ e)

-- what is read at the front stands there
pub front_stands : (text : List ℕ) (lexeme : Lexeme) (n : ℕ) → front text ≡ Some (lexeme, n) → Stands text lexeme n
unfolding front
front_stands [] lexeme n e = absurd (cc)
front_stands (b ∷ bs) lexeme n e = front_cases b bs lexeme n _ _ _ refl refl refl e

ends_word : (lexeme : Lexeme) (p : ℕ → Bool) (after : List ℕ) → ((b : ℕ) → goes_on lexeme b ≡ p b) → EndsBefore lexeme after → FirstFails p after
ends_word lexeme p [] same ends = tt
ends_word lexeme p (b ∷ bs) same ends = sym (same b) ∙ ends

word_read_whole : (b : ℕ) (bs after : List ℕ) (lexeme : Lexeme) → is_ascii_alphabetic b ≡ true → list_all is_word_byte bs ≡ true → FirstFails is_word_byte after → word_of (b ∷ bs) ≡ lexeme → front (b ∷ (bs ++ after)) ≡ Some (lexeme, length (b ∷ bs))
unfolding word_front
word_read_whole b bs after lexeme letter passes stops is =
    let len = whole_len is_word_byte (b ∷ bs) after (rw (letter_in_word b letter) passes) stops in
    front_of_word b (bs ++ after) letter ∙ ap (λ n. Some (word_of (take n (b ∷ (bs ++ after))), n)) len ∙ ap (λ (l : List ℕ). Some (word_of l, length (b ∷ bs))) (take-append_seam (b ∷ bs) after) ∙ ap (λ x. Some (x, length (b ∷ bs))) is

word_found : (bytes after : List ℕ) (lexeme : Lexeme) → IsWord bytes → FirstFails is_word_byte after → word_of bytes ≡ lexeme → front (bytes ++ after) ≡ Some (lexeme, length bytes)
word_found [] after lexeme word stops is = absurd word
word_found (b ∷ bs) after lexeme word stops is = word_read_whole b bs after lexeme word.0 word.1 stops is

digit_no_letter : (b : ℕ) → is_ascii_digit b ≡ true → is_ascii_alphabetic b ≡ false
digit_no_letter b e = grind (arith, nat_tests)

number_found : (bytes after : List ℕ) → IsDigits bytes → FirstFails is_ascii_digit after → front (bytes ++ after) ≡ Some (Number (min (number_of bytes) (2 ^ 64 - 1)), length bytes)
unfolding number_front
number_found [] after digits stops = absurd digits
number_found (b ∷ bs) after digits stops =
    let digit = (and_true (is_ascii_digit b) (list_all is_ascii_digit bs) digits).0 in
    let len = whole_len is_ascii_digit (b ∷ bs) after digits stops in
    front_of_number b (bs ++ after) (digit_no_letter b digit) digit ∙ ap (λ n. Some (Number (min (number_of (take n (b ∷ (bs ++ after)))) (2 ^ 64 - 1)), n)) len ∙ ap (λ (l : List ℕ). Some (Number (min (number_of l) (2 ^ 64 - 1)), length (b ∷ bs))) (take-append_seam (b ∷ bs) after)

literal_found : (raw after : List ℕ) → IsQuoted raw → FirstFails is_quote after → front ((39 ∷ (raw ++ (39 ∷ []))) ++ after) ≡ Some (Literal raw, length (39 ∷ (raw ++ (39 ∷ []))))
unfolding literal_front
literal_found raw after quoted stops =
    let text = quoted.0 in
    let closed = ap (λ (l : List ℕ). closes false (l ++ (39 ∷ after))) quoted.1 ∙ closes_whole text after quoted.2 stops ∙ ap (λ (l : List ℕ). Some (length l)) (sym quoted.1) in
    let len : length raw + 2 ≡ length (39 ∷ (raw ++ (39 ∷ []))) = omega (arith, length-append raw (39 ∷ [])) in
    ap (λ (l : List ℕ). front (39 ∷ l)) (append_assoc raw (39 ∷ []) after) ∙ front_of_literal 39 (raw ++ (39 ∷ after)) refl ∙ ap (option_map (λ (n : ℕ). (Literal (take n (raw ++ (39 ∷ after))), n + 2))) closed ∙ ap (λ (l : List ℕ). Some (Literal l, length raw + 2)) (take-append_seam raw (39 ∷ after)) ∙ ap (λ n. Some (Literal raw, n)) len

sign_found_one : (b : ℕ) (s : Mark) (after : List ℕ) → is_ascii_alphabetic b ≡ false → is_ascii_digit b ≡ false → eqb b 39 ≡ false → sign_of b (get_or after 0 0) ≡ Some (s, 1) → front (b ∷ after) ≡ Some (Sign s, 1)
unfolding sign_front
sign_found_one b s after letter digit quote e = front_of_sign b after letter digit quote ∙ ap (option_map (λ (x : Mark × ℕ). (Sign x.0, x.1))) e

sign_found_two : (b c : ℕ) (s : Mark) (after : List ℕ) → is_ascii_alphabetic b ≡ false → is_ascii_digit b ≡ false → eqb b 39 ≡ false → sign_of b c ≡ Some (s, 2) → front (b ∷ c ∷ after) ≡ Some (Sign s, 2)
unfolding sign_front
sign_found_two b c s after letter digit quote e = front_of_sign b (c ∷ after) letter digit quote ∙ ap (option_map (λ (x : Mark × ℕ). (Sign x.0, x.1))) e

shown : (s : Mark) (text bytes after : List ℕ) → bytes ≡ text → front (text ++ after) ≡ Some (Sign s, length text) → front (bytes ++ after) ≡ Some (Sign s, length bytes)
shown s text bytes after e = subst (λ l. front (l ++ after) ≡ Some (Sign s, length l)) (sym e)

minus_ends : (after : List ℕ) → EndsBefore (Sign Minus) after → sign_of 45 (get_or after 0 0) ≡ Some (Minus, 1)
minus_ends [] ends = refl
minus_ends (b ∷ bs) ends = rw ends refl

less_ends : (after : List ℕ) → EndsBefore (Sign Less) after → sign_of 60 (get_or after 0 0) ≡ Some (Less, 1)
less_ends [] ends = refl
less_ends (b ∷ bs) ends = let parts = or_false (eqb b 61) (eqb b 62) ends in rw (parts.0, parts.1) refl

greater_ends : (after : List ℕ) → EndsBefore (Sign Greater) after → sign_of 62 (get_or after 0 0) ≡ Some (Greater, 1)
greater_ends [] ends = refl
greater_ends (b ∷ bs) ends = rw ends refl

sign_found : (s : Mark) (bytes after : List ℕ) → SpellsSign s bytes → EndsBefore (Sign s) after → front (bytes ++ after) ≡ Some (Sign s, length bytes)
sign_found Open bytes after e ends = shown Open (40 ∷ []) bytes after e (sign_found_one 40 Open after refl refl refl refl)
sign_found Close bytes after e ends = shown Close (41 ∷ []) bytes after e (sign_found_one 41 Close after refl refl refl refl)
sign_found Comma bytes after e ends = shown Comma (44 ∷ []) bytes after e (sign_found_one 44 Comma after refl refl refl refl)
sign_found Star bytes after e ends = shown Star (42 ∷ []) bytes after e (sign_found_one 42 Star after refl refl refl refl)
sign_found Plus bytes after e ends = shown Plus (43 ∷ []) bytes after e (sign_found_one 43 Plus after refl refl refl refl)
sign_found Minus bytes after e ends = shown Minus (45 ∷ []) bytes after e (sign_found_one 45 Minus after refl refl refl (minus_ends after ends))
sign_found Equal bytes after e ends = shown Equal (61 ∷ []) bytes after e (sign_found_one 61 Equal after refl refl refl refl)
sign_found NotEqual bytes after (inl e) ends = shown NotEqual (60 ∷ 62 ∷ []) bytes after e (sign_found_two 60 62 NotEqual after refl refl refl refl)
sign_found NotEqual bytes after (inr e) ends = shown NotEqual (33 ∷ 61 ∷ []) bytes after e (sign_found_two 33 61 NotEqual after refl refl refl refl)
sign_found Less bytes after e ends = shown Less (60 ∷ []) bytes after e (sign_found_one 60 Less after refl refl refl (less_ends after ends))
sign_found LessEqual bytes after e ends = shown LessEqual (60 ∷ 61 ∷ []) bytes after e (sign_found_two 60 61 LessEqual after refl refl refl refl)
sign_found Greater bytes after e ends = shown Greater (62 ∷ []) bytes after e (sign_found_one 62 Greater after refl refl refl (greater_ends after ends))
sign_found GreaterEqual bytes after e ends = shown GreaterEqual (62 ∷ 61 ∷ []) bytes after e (sign_found_two 62 61 GreaterEqual after refl refl refl refl)

-- what stands at the front is read there
pub front_of_token : (lexeme : Lexeme) (bytes after : List ℕ) → IsToken lexeme bytes after → front (bytes ++ after) ≡ Some (lexeme, length bytes)
front_of_token (Word k) bytes after token = word_found bytes after (Word k) token.spelled.0 (ends_word (Word k) is_word_byte after (λ b. refl) token.whole) (word_of_keyword bytes k token.spelled.1)
front_of_token (Name n) bytes after token = word_found bytes after (Name n) token.spelled.0 (ends_word (Name n) is_word_byte after (λ b. refl) token.whole) (word_of_name bytes token.spelled.2 ∙ ap Name token.spelled.1)
front_of_token (Number n) bytes after token = number_found bytes after token.spelled.0 (ends_word (Number n) is_ascii_digit after (λ b. refl) token.whole) ∙ ap (λ m. Some (Number m, length bytes)) (sym token.spelled.1)
front_of_token (Literal raw) bytes after token =
    subst (λ l. front (l ++ after) ≡ Some (Literal raw, length l)) (sym token.spelled.1) (literal_found raw after token.spelled.0 (ends_word (Literal raw) is_quote after (λ b. refl) token.whole))
front_of_token (Sign s) bytes after token = sign_found s bytes after token.spelled token.whole
