-- What the readers of a front find.
use Rattle.std.proofs.Common.{◌≡◌, ◌≢◌, ℕ, ◌+◌, ◌-◌, ◌<◌, ◌≤◌, Bool, true, false, cond, eqb, List, [], ◌∷◌, length, get_or, take, drop, map, Option, None, Some, refl, sym, ap, subst, ◌∙◌, arith}
use Rattle.std.specs.List.{prefix_len, list_all, find, slice_range}
use Rattle.std.specs.Str.{bytes_eq, IsUtf8, IsCharBoundary}
use Rattle.std.specs.Char.{to_ascii_lowercase, is_ascii_alphabetic, is_ascii_digit}
use Rattle.std.proofs.lemmas.Bool.Decides.{nat_tests}
use Rattle.std.proofs.lemmas.Slice.Eq.{bytes_eq-Decides}
use Rattle.std.proofs.lemmas.Str.{IsCharBoundary-after_ascii}
use Rattle.std.proofs.lemmas.List.{get_or-drop, take_all, length-drop}
use Rattle.std.proofs.lemmas.List.Sums.{prefix_len_passes}
use Rattle.std.proofs.Math.Numerals.{one-add, add-one}
use Rattle.std.proofs.Math.Seq.{drop-cons}
use Rattle.sql_lex.specs.Letters.{letters}
use Rattle.sql_lex.specs.Spelling.{Lexeme, Word, Name, is_word_byte}
use Rattle.sql_lex.specs.Reading.{keywords, word_lexeme, word_of, front, word_front, number_front, literal_front, sign_front}
use Rattle.sql_lex.specs.declared.keyword.Keyword.{Keyword}
use Rattle.sql_lex.specs.declared.keyword.Keyword.TheVariants.{And, Asc, Begin, Bigint, By, Checkpoint, Commit, Count, Create, Delete, Desc, From, Insert, Int, Integer, Into, Key, Limit, Order, Primary, Rollback, Select, Set, Sum, Table, Text, Update, Values, Varchar, Where}

taken_passes : {X : Type 0} (p : X → Bool) (x : X) (xs : List X) (b : Bool) → p x ≡ b → list_all p (take (prefix_len p xs) xs) ≡ true → list_all p (take (cond b (1 + prefix_len p xs) 0) (x ∷ xs)) ≡ true
taken_passes p x xs true e rest = rw one-add (rw e rest)
taken_passes p x xs false e rest = refl

-- what is taken as far as a test passes, passes it
pub prefix_passes : {X : Type 0} (p : X → Bool) (xs : List X) → list_all p (take (prefix_len p xs) xs) ≡ true
prefix_passes p [] = refl
prefix_passes p (x ∷ xs) = taken_passes p x xs (p x) refl (prefix_passes p xs)

pub digits_taken : (bytes : List ℕ) → list_all is_ascii_digit (take (prefix_len is_ascii_digit bytes) bytes) ≡ true
digits_taken bytes = prefix_passes is_ascii_digit bytes

-- each keyword is found by its letters
pub letters_found : (k : Keyword) → find (λ j. bytes_eq (letters j) (letters k)) keywords ≡ Some k
letters_found And = refl
letters_found Asc = refl
letters_found Begin = refl
letters_found Bigint = refl
letters_found By = refl
letters_found Checkpoint = refl
letters_found Commit = refl
letters_found Count = refl
letters_found Create = refl
letters_found Delete = refl
letters_found Desc = refl
letters_found From = refl
letters_found Insert = refl
letters_found Int = refl
letters_found Integer = refl
letters_found Into = refl
letters_found Key = refl
letters_found Limit = refl
letters_found Order = refl
letters_found Primary = refl
letters_found Rollback = refl
letters_found Select = refl
letters_found Set = refl
letters_found Sum = refl
letters_found Table = refl
letters_found Text = refl
letters_found Update = refl
letters_found Values = refl
letters_found Varchar = refl
letters_found Where = refl

first_passes : {X : Type 0} (p : X → Bool) (y : X) (ys : List X) (x : X) (b : Bool) → p y ≡ b → cond b (Some y) (find p ys) ≡ Some x → (find p ys ≡ Some x → p x ≡ true) → p x ≡ true
first_passes p y ys x true e found rest = let same : y ≡ x = cc in subst (λ z. p z ≡ true) same e
first_passes p y ys x false e found rest = rest found

-- what is found passes
pub found_passes : {X : Type 0} (p : X → Bool) (xs : List X) (x : X) → find p xs ≡ Some x → p x ≡ true
found_passes p [] x e = absurd (cc)
found_passes p (y ∷ ys) x e = first_passes p y ys x (p y) refl e (found_passes p ys x)

-- the keyword that a word is, in whatever case
pub word_of_keyword : (bytes : List ℕ) (k : Keyword) → map to_ascii_lowercase bytes ≡ letters k → word_of bytes ≡ Word k
unfolding word_of
word_of_keyword bytes k e = ap (λ (l : List ℕ). word_lexeme bytes (find (λ j. bytes_eq (letters j) l) keywords)) e ∙ ap (word_lexeme bytes) (letters_found k)

named : (bytes lower : List ℕ) (o : Option Keyword) → find (λ j. bytes_eq (letters j) lower) keywords ≡ o → ((k : Keyword) → lower ≢ letters k) → word_lexeme bytes o ≡ Name bytes
named bytes lower None e none = refl
named bytes lower (Some k) e none = absurd (none k (sym ((bytes_eq-Decides (letters k) lower).0 (found_passes (λ j. bytes_eq (letters j) lower) keywords k e))))

-- any other word is a name
pub word_of_name : (bytes : List ℕ) → ((k : Keyword) → map to_ascii_lowercase bytes ≢ letters k) → word_of bytes ≡ Name bytes
unfolding word_of
word_of_name bytes none = named bytes (map to_ascii_lowercase bytes) _ refl none

-- a byte of a word is ASCII
word_byte_is_ascii : (b : ℕ) → is_word_byte b ≡ true → b < 128
word_byte_is_ascii b e = grind (arith, nat_tests)

-- a letter may stand in a word
pub letter_in_word : (b : ℕ) → is_ascii_alphabetic b ≡ true → is_word_byte b ≡ true
letter_in_word b e = rw e refl

-- a word ends between characters
pub word_boundary : (text : List ℕ) (at n : ℕ) → IsUtf8 text → at < length text → is_ascii_alphabetic (get_or text at 0) ≡ true → n ≡ prefix_len is_word_byte (drop at text) → at + n ≤ length text → IsCharBoundary text (at + n)
word_boundary text at n utf8 inside letter is within =
    let starts : drop at text ≡ get_or text at 0 ∷ drop (at + 1) text = rw (add-one, drop-cons text at 0) refl in
    let some : 0 < n = rw (is, starts, letter_in_word _ letter, one-add) (omega arith) in
    let last : is_word_byte (get_or (drop at text) (n - 1) 0) ≡ true = prefix_len_passes is_word_byte (drop at text) (n - 1) 0 (omega (arith, is)) in
    let same : at + (n - 1) + 1 ≡ at + n = omega arith in
    subst (IsCharBoundary text) same (IsCharBoundary-after_ascii text (at + (n - 1)) utf8 (omega arith) (word_byte_is_ascii _ (sym (ap is_word_byte (get_or-drop at text (n - 1) 0)) ∙ last)))

-- what a slice from a place on shows
pub slice_rest : (xs : List ℕ) (at : ℕ) → take (length xs - at) (drop at xs) ≡ drop at xs
slice_rest xs at = take_all (length xs - at) (drop at xs) (omega (arith, length-drop at xs))

-- a range is taken behind what is dropped
pub slice_is : (xs : List ℕ) (at n : ℕ) → slice_range xs at (at + n) ≡ take n (drop at xs)
slice_is xs at n = let same : at + n - at ≡ n = omega arith in ap (λ m. take m (drop at xs)) same

starts_with : (text : List ℕ) (at : ℕ) → at < length text → drop at text ≡ get_or text at 0 ∷ drop (at + 1) text
starts_with text at inside = rw (add-one, drop-cons text at 0) refl

pub front_of_word : (b : ℕ) (bs : List ℕ) → is_ascii_alphabetic b ≡ true → front (b ∷ bs) ≡ word_front (b ∷ bs)
unfolding front
front_of_word b bs letter = rw letter refl

pub front_of_number : (b : ℕ) (bs : List ℕ) → is_ascii_alphabetic b ≡ false → is_ascii_digit b ≡ true → front (b ∷ bs) ≡ number_front (b ∷ bs)
unfolding front
front_of_number b bs letter digit = rw (letter, digit) refl

pub front_of_literal : (b : ℕ) (bs : List ℕ) → b ≡ 39 → front (b ∷ bs) ≡ literal_front bs
unfolding front
front_of_literal b bs quote = rw quote refl

pub front_of_sign : (b : ℕ) (bs : List ℕ) → is_ascii_alphabetic b ≡ false → is_ascii_digit b ≡ false → eqb b 39 ≡ false → front (b ∷ bs) ≡ sign_front (b ∷ bs)
unfolding front
front_of_sign b bs letter digit quote = rw (letter, digit, quote) refl

module _ (text : List ℕ) (at : ℕ) (inside : at < length text) where
  pub word_in_front : is_ascii_alphabetic (get_or text at 0) ≡ true → front (drop at text) ≡ word_front (drop at text)
  word_in_front letter = rw (starts_with text at inside) (front_of_word _ _ letter)

  pub number_in_front : is_ascii_alphabetic (get_or text at 0) ≡ false → is_ascii_digit (get_or text at 0) ≡ true → front (drop at text) ≡ number_front (drop at text)
  number_in_front letter digit = rw (starts_with text at inside) (front_of_number _ _ letter digit)

  pub literal_in_front : get_or text at 0 ≡ 39 → front (drop at text) ≡ literal_front (drop (at + 1) text)
  literal_in_front quote = rw (starts_with text at inside) (front_of_literal _ _ quote)

  pub sign_in_front : is_ascii_alphabetic (get_or text at 0) ≡ false → is_ascii_digit (get_or text at 0) ≡ false → eqb (get_or text at 0) 39 ≡ false → front (drop at text) ≡ sign_front (drop at text)
  sign_in_front letter digit quote = rw (starts_with text at inside) (front_of_sign _ _ letter digit quote)

-- the word that is read is the one that stands at the front
pub word_read : (text word : List ℕ) (n : ℕ) (lexeme : Lexeme) → n ≡ prefix_len is_word_byte text → word ≡ take n text → word_of word ≡ lexeme → Some (lexeme, n) ≡ word_front text
unfolding word_front
word_read text word n lexeme len is found = rw (← len, ← is, found) refl
