-- Lines: how a text is parted into them, and what is trimmed of one.
use Prim.Native.Nat.{zero, suc}
use Rattle.std.proofs.Common.{◌≡◌, ℕ, ◌+◌, ◌-◌, ◌<◌, ◌≤◌, Bool, true, false, not, eqb, List, [], ◌∷◌, ◌++◌, length, get_or, take, drop, Option, None, Some, refl, sym, ap, subst, ◌∙◌, arith, append_assoc}
use Rattle.std.specs.Prelude.{IsTrue, ◌&&◌, ◌||◌, is_some, option_map}
use Rattle.std.specs.List.{list_all}
use Rattle.std.proofs.Math.Numerals.{add-one}
use Rattle.std.proofs.Math.Seq.{drop-cons, take-add}
use Rattle.std.proofs.lemmas.List.{take_more, take-append-drop, take_all, drop_all, drop-drop, get_or-drop, length-drop, length-take-le}
use Rattle.std.proofs.lemmas.List.Folds.{list_all-append, list_all_more}
use Rattle.sql_lex.specs.Tokens.{is_blank}
use Rattle.script.specs.Lines.{Header, Parts, lines, trimmed, header_of, line_header, parts_of, with_line}
use Rattle.script.specs.declared.line.HeaderLine.{HeaderLine}
use Rattle.script.specs.Script.{HasStray}
use Rattle.script.specs.Statements.{in_comment}
use Rattle.script.specs.Headers.{StartsSection, behind, first_header, seen}

-- a text at one of its places
pub starts : (bytes : List ℕ) (i : ℕ) → i < length bytes → drop i bytes ≡ get_or bytes i 0 ∷ drop (i + 1) bytes
starts bytes i inside = rw (add-one, drop-cons bytes i 0) refl

pub parted_at : (bytes : List ℕ) (i : ℕ) → i < length bytes → bytes ≡ take i bytes ++ (get_or bytes i 0 ∷ drop (i + 1) bytes)
parted_at bytes i inside = sym (take-append-drop i bytes) ∙ ap (λ (l : List ℕ). take i bytes ++ l) (starts bytes i inside)

-- a test of all bytes up to a place, and of the one there
pub all_more : (p : ℕ → Bool) (bytes : List ℕ) (i : ℕ) → i < length bytes → IsTrue (list_all p (take i bytes)) → p (get_or bytes i 0) ≡ true → IsTrue (list_all p (take (i + 1) bytes))
all_more p bytes i inside before here = list_all_more p bytes i 0 inside ∙ (rw (before, here) refl)

pub unblank_at : (bytes : List ℕ) (i : ℕ) → i < length bytes → IsTrue (list_all is_blank (take i bytes)) → is_blank (get_or bytes i 0) ≡ false → HasStray bytes i
unblank_at bytes i inside before here = record {
  blanks = take i bytes;
  byte = get_or bytes i 0;
  rest = drop (i + 1) bytes;
  split = parted_at bytes i inside;
  blank = before;
  stray = here;
  place = sym (length-take-le i bytes (omega arith));
}

pub and_parts : (a b : Bool) → (a && b) ≡ true → (a ≡ true) × (b ≡ true)
and_parts true b e = (refl, e)
and_parts false b e = absurd (cc)

pub and_true : (a : Bool) → (a && true) ≡ a
and_true true = refl
and_true false = refl

pub and_false : (a : Bool) → (a && false) ≡ false
and_false true = refl
and_false false = refl

pub or_parts : (a b : Bool) → (a || b) ≡ false → (a ≡ false) × (b ≡ false)
or_parts true b e = absurd (cc)
or_parts false b e = (refl, e)

pub not_true : (a : Bool) → not a ≡ true → a ≡ false
not_true true e = absurd (cc)
not_true false e = refl

-- the line that a text begins with, ended by a line feed
pub line_ended : (a rest : List ℕ) → IsTrue (list_all in_comment a) → lines (a ++ 10 ∷ rest) ≡ (a ++ 10 ∷ []) ∷ lines rest
unfolding lines
line_ended [] rest none = refl
line_ended (b ∷ bs) rest none =
    let parts = and_parts (in_comment b) (list_all in_comment bs) none in
    rw (not_true (eqb b 10) parts.0, line_ended bs rest parts.1) refl

-- a text of one line without an end
pub line_alone : (b : ℕ) (bs : List ℕ) → IsTrue (list_all in_comment (b ∷ bs)) → lines (b ∷ bs) ≡ (b ∷ bs) ∷ []
unfolding lines
line_alone b [] none = rw (not_true (eqb b 10) (and_parts (in_comment b) true none).0) refl
line_alone b (c ∷ cs) none =
    let parts = and_parts (in_comment b) (list_all in_comment (c ∷ cs)) none in
    rw (not_true (eqb b 10) parts.0, line_alone c cs parts.1) refl

pub lines_nil : lines [] ≡ []
unfolding lines
lines_nil = refl

-- the first line goes to the first line feed
pub line_at : (bytes : List ℕ) (i : ℕ) → i < length bytes → IsTrue (list_all in_comment (take i bytes)) → get_or bytes i 0 ≡ 10 → lines bytes ≡ take (i + 1) bytes ∷ lines (drop (i + 1) bytes)
line_at bytes i inside none here =
    ap lines (parted_at bytes i inside) ∙ ap (λ b. lines (take i bytes ++ b ∷ drop (i + 1) bytes)) here ∙ line_ended (take i bytes) (drop (i + 1) bytes) none ∙ ap (λ (l : List ℕ). l ∷ lines (drop (i + 1) bytes)) (ap (λ b. take i bytes ++ b ∷ []) (sym here) ∙ sym (take_more bytes i 0 inside))

-- or is all, where there is none
pub line_whole : (bytes : List ℕ) → 0 < length bytes → IsTrue (list_all in_comment bytes) → lines bytes ≡ bytes ∷ []
line_whole [] some none = absurd (omega arith)
line_whole (b ∷ bs) some none = line_alone b bs none

pub line_to_end : (bytes : List ℕ) (i : ℕ) → length bytes ≤ i → IsTrue (list_all in_comment (take i bytes)) → 0 < length bytes → lines bytes ≡ take (length bytes) bytes ∷ lines (drop (length bytes) bytes)
line_to_end bytes i past none some =
    line_whole bytes some (subst (λ l. IsTrue (list_all in_comment l)) (take_all i bytes past) none) ∙ ap (λ (l : List ℕ). l ∷ []) (sym (take_all (length bytes) bytes (omega arith))) ∙ ap (λ (l : List (List ℕ)). take (length bytes) bytes ∷ l) (sym lines_nil ∙ ap lines (sym (drop_all (length bytes) bytes (omega arith))))

-- blanks at the end don't count
pub trimmed_blank : (xs : List ℕ) (b : ℕ) → is_blank b ≡ true → trimmed (xs ++ b ∷ []) ≡ trimmed xs
unfolding trimmed
trimmed_blank [] b e = rw e refl
trimmed_blank (x ∷ xs) b e =
    let all : list_all is_blank (xs ++ b ∷ []) ≡ list_all is_blank xs = list_all-append is_blank xs (b ∷ []) ∙ ap (λ t. list_all is_blank xs && (t && true)) e ∙ and_true (list_all is_blank xs) in
    rw (all, trimmed_blank xs b e) refl

pub trimmed_whole : (xs : List ℕ) (b : ℕ) → is_blank b ≡ false → trimmed (xs ++ b ∷ []) ≡ xs ++ b ∷ []
unfolding trimmed
trimmed_whole [] b e = rw e refl
trimmed_whole (x ∷ xs) b e =
    let all : list_all is_blank (xs ++ b ∷ []) ≡ false = list_all-append is_blank xs (b ∷ []) ∙ ap (λ t. list_all is_blank xs && (t && true)) e ∙ and_false (list_all is_blank xs) in
    rw (all, and_false (is_blank x), trimmed_whole xs b e) refl

pub trimmed_nil : trimmed [] ≡ []
unfolding trimmed
trimmed_nil = refl

last_of : (xs : List ℕ) (n : ℕ) → 0 < n → n ≤ length xs → take n xs ≡ take (n - 1) xs ++ get_or xs (n - 1) 0 ∷ []
last_of xs n some within = let one : n - 1 + 1 ≡ n = omega arith in ap (λ m. take m xs) (sym one) ∙ take_more xs (n - 1) 0 (omega arith)

-- one byte less, where it is a blank
pub trim_less : (line : List ℕ) (n : ℕ) → 0 < n → n ≤ length line → is_blank (get_or line (n - 1) 0) ≡ true → trimmed (take n line) ≡ trimmed line → trimmed (take (n - 1) line) ≡ trimmed line
trim_less line n some within blank same = sym (ap trimmed (last_of line n some within) ∙ trimmed_blank (take (n - 1) line) (get_or line (n - 1) 0) blank) ∙ same

-- no less, where it is none
pub trim_ends : (line : List ℕ) (n : ℕ) → 0 < n → n ≤ length line → is_blank (get_or line (n - 1) 0) ≡ false → trimmed (take n line) ≡ trimmed line → take n line ≡ trimmed line
trim_ends line n some within blank same =
    let last = last_of line n some within in
    last ∙ sym (trimmed_whole (take (n - 1) line) (get_or line (n - 1) 0) blank) ∙ ap trimmed (sym last) ∙ same

pub trim_all : (line : List ℕ) (n : ℕ) → n ≤ 0 → trimmed (take n line) ≡ trimmed line → take n line ≡ trimmed line
trim_all line n none same = let zero_is : n ≡ 0 = omega arith in ap (λ m. take m line) zero_is ∙ sym trimmed_nil ∙ ap (λ m. trimmed (take m line)) (sym zero_is) ∙ same

take_nil : (n : ℕ) → take {A = ℕ} n [] ≡ []
take_nil zero = refl
take_nil (suc n) = refl

-- a slice from a place on
pub slice_rest : (xs : List ℕ) (at : ℕ) → take (length xs - at) (drop at xs) ≡ drop at xs
slice_rest xs at = take_all (length xs - at) (drop at xs) (omega (arith, length-drop at xs))

header_of_nil : header_of [] ≡ None
unfolding header_of
header_of_nil = refl

-- the header of the first line, which is so long
pub header_first : (bytes : List ℕ) (n m : ℕ) (o : Option Header) → (0 < length bytes → lines bytes ≡ take n bytes ∷ lines (drop n bytes)) → take m (take n bytes) ≡ trimmed (take n bytes) → o ≡ header_of (take m (take n bytes)) → o ≡ first_header (lines bytes)
header_first [] n m o line trim found = found ∙ ap header_of (trim ∙ ap trimmed (take_nil n) ∙ trimmed_nil) ∙ header_of_nil ∙ ap first_header (sym lines_nil)
header_first (b ∷ bs) n m o line trim found = found ∙ ap header_of trim ∙ ap first_header (sym (line (omega arith)))

-- the parts of a text whose first line is no header
parts_plain : (at : ℕ) (line : List ℕ) (rest : List (List ℕ)) → line_header line ≡ None → parts_of at (line ∷ rest) ≡ behind line (parts_of (at + length line) rest)
unfolding parts_of
parts_plain at line rest none = ap (λ o. with_line at line o (parts_of (at + length line) rest)) none

behind_both : (a b : List ℕ) (p : Parts) → behind a (behind b p) ≡ behind (a ++ b) p
behind_both a b p = λ i. record { front = sym (append_assoc a b p.front) i; sections = p.sections }

-- a line more stands before the first header
pub front_more : (bytes : List ℕ) (at n base : ℕ) → n ≤ length (drop at bytes) → lines (drop at bytes) ≡ take n (drop at bytes) ∷ lines (drop n (drop at bytes)) → first_header (lines (drop at bytes)) ≡ None → parts_of base (lines bytes) ≡ behind (take at bytes) (parts_of (base + at) (lines (drop at bytes))) → parts_of base (lines bytes) ≡ behind (take (at + n) bytes) (parts_of (base + (at + n)) (lines (drop (at + n) bytes)))
front_more bytes at n base within line none so_far =
    let text = take n (drop at bytes) in
    let len : base + at + length text ≡ base + (at + n) = omega (arith, length-take-le n (drop at bytes) within) in
    let header : line_header text ≡ None = ap first_header (sym line) ∙ none in
    so_far ∙ ap (λ (ls : List (List ℕ)). behind (take at bytes) (parts_of (base + at) ls)) line
    ∙ ap (behind (take at bytes)) (parts_plain (base + at) text (lines (drop n (drop at bytes))) header)
    ∙ behind_both (take at bytes) text (parts_of (base + at + length text) (lines (drop n (drop at bytes))))
    ∙ ap (λ (l : List ℕ). behind l (parts_of (base + at + length text) (lines (drop n (drop at bytes))))) (sym (take-add at n bytes))
    ∙ ap (λ k. behind (take (at + n) bytes) (parts_of k (lines (drop n (drop at bytes))))) len
    ∙ ap (λ (l : List ℕ). behind (take (at + n) bytes) (parts_of (base + (at + n)) (lines l))) (drop-drop n at bytes)

starts_so : (o : Option HeaderLine) (ls : List (List ℕ)) → is_some o ≡ true → option_map seen o ≡ first_header ls → StartsSection ls
starts_so o [] some e = tt
starts_so None (line ∷ ls) some e = absurd (cc)
starts_so (Some h) (line ∷ ls) some e = (seen h, sym e)

pub starts_from : (o : Option HeaderLine) (bytes : List ℕ) → is_some o ≡ true → option_map seen o ≡ first_header (lines bytes) → StartsSection (lines bytes)
starts_from o bytes some e = starts_so o (lines bytes) some e

none_so : (o : Option HeaderLine) → is_some o ≡ false → option_map seen o ≡ None
none_so None e = refl
none_so (Some h) e = absurd (cc)

pub none_from : (o : Option HeaderLine) (bytes : List ℕ) → is_some o ≡ false → option_map seen o ≡ first_header (lines bytes) → first_header (lines bytes) ≡ None
none_from o bytes none e = sym e ∙ none_so o none

pub starts_end : (bytes : List ℕ) (at : ℕ) → length bytes ≤ at → StartsSection (lines (drop at bytes))
starts_end bytes at past = subst StartsSection (sym (ap lines (drop_all at bytes past) ∙ lines_nil)) tt

-- a line of so many bytes, behind which the text continues, ends with a line feed
pub ended_at : (bytes : List ℕ) (at n : ℕ) → 0 < at + n → 0 < n → (n < length (drop at bytes) → get_or (drop at bytes) (n - 1) 0 ≡ 10) → at + n < length bytes → get_or bytes (at + n - 1) 0 ≡ 10
ended_at bytes at n some here ended inside =
    let same : at + (n - 1) ≡ at + n - 1 = omega arith in
    ap (λ i. get_or bytes i 0) (sym same) ∙ sym (get_or-drop at bytes (n - 1) 0) ∙ ended (omega (arith, length-drop at bytes))
