-- The shape of a gap, and where the reading of one ends.
use Rattle.std.proofs.Common.{◌≡◌, ℕ, zero, suc, ◌≤◌, Bool, true, false, not, ◌||◌, eqb, List, [], ◌∷◌, ◌++◌, length, None, Some, refl, sym, ap, subst, ◌∙◌, ◌⊎◌, inl, inr, arith, append_assoc, length-append}
use Rattle.std.specs.List.{concat, AllByRecursion}
use Rattle.std.proofs.lemmas.List.{append-nil}
use Rattle.std.proofs.lemmas.Option.{none-some}
use Rattle.std.proofs.lemmas.Bool.Decides.{Decides-eqb}
use Rattle.sql_lex.specs.Spelling.{Lexeme, IsToken}
use Rattle.sql_lex.specs.Tokens.{is_blank, IsLine, IsPause, IsGap, IsLastGap, opens_comment, IsBehindGap}
use Rattle.sql_lex.specs.Reading.{after_gap, from_token, front, sign_front}
use Rattle.sql_lex.proofs.Literals.{and_true}
use Rattle.sql_lex.proofs.Fronts.{front_of_sign}
use Rattle.sql_lex.proofs.Gaps.{blank}
use Rattle.sql_lex.proofs.Exact.{front_of_token}

-- ---- blanks and comments are passed

one_of : (a b : Bool) → (a || b) ≡ true → (a ≡ true) ⊎ (b ≡ true)
one_of true b e = inl refl
one_of false b e = inr e

blank_cases : (b : ℕ) → is_blank b ≡ true → (b ≡ 32) ⊎ ((b ≡ 9) ⊎ ((b ≡ 10) ⊎ (b ≡ 13)))
blank_cases b e =
    elim (one_of (eqb b 32) _ e) [
      | inl x ↦ inl ((Decides-eqb b 32).0 x)
      | inr x ↦ elim (one_of (eqb b 9) _ x) [
        | inl y ↦ inr (inl ((Decides-eqb b 9).0 y))
        | inr y ↦ elim (one_of (eqb b 10) _ y) [
          | inl z ↦ inr (inr (inl ((Decides-eqb b 10).0 z)))
          | inr z ↦ inr (inr (inr ((Decides-eqb b 13).0 z)))
        ]
      ]
    ]

-- what holds of the four blanks holds of each
by_blanks : (P : ℕ → Type 0) (b : ℕ) → is_blank b ≡ true → P 32 → P 9 → P 10 → P 13 → P b
by_blanks P b e p q r s =
    elim (blank_cases b e) [
      | inl x ↦ subst P (sym x) p
      | inr (inl x) ↦ subst P (sym x) q
      | inr (inr (inl x)) ↦ subst P (sym x) r
      | inr (inr (inr x)) ↦ subst P (sym x) s
    ]

not_opened : (b : ℕ) (bs : List ℕ) → eqb b 45 ≡ false → opens_comment (b ∷ bs) ≡ false
not_opened b [] e = refl
not_opened b (c ∷ cs) e = rw e refl

past_blank : (b : ℕ) (bs : List ℕ) → is_blank b ≡ true → from_token (b ∷ bs) ≡ from_token bs
past_blank b bs e = blank b bs (not_opened b bs (by_blanks (λ n. eqb n 45 ≡ false) b e refl refl refl refl)) e

past_line : (line rest : List ℕ) → IsLine line → after_gap true (line ++ 10 ∷ rest) ≡ from_token rest
past_line [] rest e = refl
past_line (b ∷ line) rest e =
    let parts = and_true (not (eqb b 10)) _ e in
    ap (λ (t : Bool). after_gap t (line ++ 10 ∷ rest)) parts.0 ∙ past_line line rest parts.1

past_last_line : (line : List ℕ) → IsLine line → after_gap true line ≡ []
past_last_line [] e = refl
past_last_line (b ∷ line) e = let parts = and_true (not (eqb b 10)) _ e in rw parts.0 (past_last_line line parts.1)

past_pause : (pause rest : List ℕ) → IsPause pause → from_token (pause ++ rest) ≡ from_token rest
past_pause pause rest (inl b) = ap (λ (l : List ℕ). from_token (l ++ rest)) b.1 ∙ past_blank b.0 rest b.2
past_pause pause rest (inr c) = ap (λ (l : List ℕ). from_token (l ++ rest)) c.1 ∙ ap (λ (l : List ℕ). after_gap true l) (append_assoc c.0 (10 ∷ []) rest) ∙ past_line c.0 rest c.2

past_pauses : (pauses : List (List ℕ)) (rest : List ℕ) → AllByRecursion IsPause pauses → from_token (concat pauses ++ rest) ≡ from_token rest
past_pauses [] rest each = refl
past_pauses (p ∷ ps) rest each = ap from_token (append_assoc p (concat ps) rest) ∙ past_pause p (concat ps ++ rest) each.0 ∙ past_pauses ps rest each.1

pub past_gap : (gap rest : List ℕ) → IsGap gap → from_token (gap ++ rest) ≡ from_token rest
past_gap gap rest is = ap (λ (l : List ℕ). from_token (l ++ rest)) is.whole ∙ past_pauses is.pauses rest is.each

-- what stands behind a gap is left
pub left_as_is : (text : List ℕ) → IsBehindGap text → from_token text ≡ text
left_as_is [] is = absurd is
left_as_is (b ∷ bs) is = rw (is.1, is.0) refl

pub past_last_gap : (rest : List ℕ) → IsLastGap rest → from_token rest ≡ []
past_last_gap rest (inl gap) = ap from_token (sym (append-nil rest)) ∙ past_gap rest [] gap
past_last_gap rest (inr c) = ap from_token c.2 ∙ past_gap c.0 (45 ∷ 45 ∷ c.1) c.3 ∙ past_last_line c.1 c.4

-- ---- what was passed is a gap

-- in a comment: its line ends, or the text does
abbrev InComment : List ℕ → Type 0
InComment bytes = ((line rest : List ℕ) × (bytes ≡ line ++ 10 ∷ rest) × IsLine line) ⊎ IsLine bytes

in_comment_by : (b : ℕ) (bs : List ℕ) (t : Bool) → eqb b 10 ≡ t → InComment bs → InComment (b ∷ bs)
in_comment_by b bs true e rest = inl ([], bs, ap (λ (n : ℕ). n ∷ bs) ((Decides-eqb b 10).0 e), refl)
in_comment_by b bs false e (inl r) = inl (b ∷ r.0, r.1, ap (λ (l : List ℕ). b ∷ l) r.2, rw e r.3)
in_comment_by b bs false e (inr r) = inr (rw e r)

in_comment : (bytes : List ℕ) → InComment bytes
in_comment [] = inr refl
in_comment (b ∷ bs) = in_comment_by b bs (eqb b 10) refl (in_comment bs)

no_pause : IsGap []
no_pause = record { pauses = []; whole = refl; each = tt }

one_pause_more : (pause gap : List ℕ) → IsPause pause → IsGap gap → IsGap (pause ++ gap)
one_pause_more pause gap is rest = record { pauses = pause ∷ rest.pauses; whole = ap (λ (l : List ℕ). pause ++ l) rest.whole; each = (is, rest.each) }

last_more : (pause rest : List ℕ) → IsPause pause → IsLastGap rest → IsLastGap (pause ++ rest)
last_more pause rest is (inl gap) = inl (one_pause_more pause rest is gap)
last_more pause rest is (inr c) = inr (pause ++ c.0, c.1, ap (λ (l : List ℕ). pause ++ l) c.2 ∙ sym (append_assoc pause c.0 (45 ∷ 45 ∷ c.1)), one_pause_more pause c.0 is c.3, c.4)

-- a gap and what is behind it, or the last gap
abbrev pub Gapped : List ℕ → Type 0
Gapped text = ((gap : List ℕ) × (text ≡ gap ++ from_token text) × IsGap gap × IsBehindGap (from_token text)) ⊎ (IsLastGap text × (from_token text ≡ []))

more : (pause rest text : List ℕ) → IsPause pause → text ≡ pause ++ rest → Gapped rest → Gapped text
more pause rest text is e (inl g) =
    let same : from_token rest ≡ from_token text = sym (ap from_token e ∙ past_pause pause rest is) in
    let split : text ≡ (pause ++ g.0) ++ from_token text = e ∙ ap (λ (l : List ℕ). pause ++ l) g.1 ∙ sym (append_assoc pause g.0 (from_token rest)) ∙ ap (λ (l : List ℕ). (pause ++ g.0) ++ l) same in
    inl (pause ++ g.0, split, one_pause_more pause g.0 is g.2, subst IsBehindGap same g.3)
more pause rest text is e (inr g) = inr (subst IsLastGap (sym e) (last_more pause rest is g.0), ap from_token e ∙ past_pause pause rest is ∙ g.1)

comment_by : (n : ℕ) (again : (xs : List ℕ) → length xs ≤ n → Gapped xs) (b c : ℕ) (cs : List ℕ) → b ≡ 45 → c ≡ 45 → length cs ≤ n → InComment cs → Gapped (b ∷ c ∷ cs)
comment_by n again b c cs e f le (inl r) =
    let tail : cs ≡ (r.0 ++ 10 ∷ []) ++ r.1 = r.2 ∙ sym (append_assoc r.0 (10 ∷ []) r.1) in
    more (45 ∷ 45 ∷ (r.0 ++ 10 ∷ [])) r.1 (b ∷ c ∷ cs) (inr (r.0, refl, r.3)) (λ i. e i ∷ f i ∷ tail i) (again r.1 (omega (arith, ap length r.2, length-append r.0 (10 ∷ r.1))))
comment_by n again b c cs e f le (inr r) =
    let same : b ∷ c ∷ cs ≡ 45 ∷ 45 ∷ cs = λ i. e i ∷ f i ∷ cs in
    inr (inr ([], cs, same, no_pause, r), ap from_token same ∙ past_last_line cs r)

gapped_by : (n : ℕ) (again : (xs : List ℕ) → length xs ≤ n → Gapped xs) (b : ℕ) (bs : List ℕ) → length bs ≤ n → (o : Bool) → opens_comment (b ∷ bs) ≡ o → (k : Bool) → is_blank b ≡ k → Gapped (b ∷ bs)
gapped_by n again b [] le true o k f = absurd cc
gapped_by n again b (c ∷ cs) le true o k f =
    let parts = and_true (eqb b 45) (eqb c 45) o in
    comment_by n again b c cs ((Decides-eqb b 45).0 parts.0) ((Decides-eqb c 45).0 parts.1) (omega arith) (in_comment cs)
gapped_by n again b bs le false o true f = more (b ∷ []) bs (b ∷ bs) (inl (b, refl, f)) refl (again bs le)
gapped_by n again b bs le false o false f =
    let same = sym (left_as_is (b ∷ bs) (f, o)) in
    inl ([], same, no_pause, subst IsBehindGap same (f, o))

gapped : (n : ℕ) (text : List ℕ) → length text ≤ n → Gapped text
gapped n [] le = inr (inl no_pause, refl)
gapped zero (b ∷ bs) le = absurd (omega arith)
gapped (suc n) (b ∷ bs) le = gapped_by n (λ xs short. gapped n xs short) b bs (omega arith) (opens_comment (b ∷ bs)) refl (is_blank b) refl

pub gap_of : (text : List ℕ) → Gapped text
gap_of text = gapped (length text) text (omega arith)

short_by : (text : List ℕ) → Gapped text → length (from_token text) ≤ length text
short_by text (inl g) = omega (arith, ap length g.1, length-append g.0 (from_token text))
short_by text (inr g) = omega (arith, ap length g.1)

pub from_token_short : (text : List ℕ) → length (from_token text) ≤ length text
from_token_short text = short_by text (gap_of text)

-- ---- a token stands behind a gap

no_token_at_blank : (b : ℕ) (bs : List ℕ) → is_blank b ≡ true → front (b ∷ bs) ≡ None
unfolding sign_front
no_token_at_blank b bs e =
    by_blanks (λ n. front (n ∷ bs) ≡ None) b e (front_of_sign 32 bs refl refl refl) (front_of_sign 9 bs refl refl refl) (front_of_sign 10 bs refl refl refl) (front_of_sign 13 bs refl refl refl)

no_token_at_comment : (b : ℕ) (bs : List ℕ) → opens_comment (b ∷ bs) ≡ true → front (b ∷ bs) ≡ None
unfolding sign_front
no_token_at_comment b [] e = absurd cc
no_token_at_comment b (c ∷ cs) e =
    let parts = and_true (eqb b 45) (eqb c 45) e in
    let same : b ∷ c ∷ cs ≡ 45 ∷ 45 ∷ cs = λ i. (Decides-eqb b 45).0 parts.0 i ∷ (Decides-eqb c 45).0 parts.1 i ∷ cs in
    ap front same ∙ front_of_sign 45 (45 ∷ cs) refl refl refl

no_front : (x : Lexeme × ℕ) → front [] ≡ Some x → ⊥
unfolding front
no_front x e = none-some x e

none_of : (text : List ℕ) (x : Lexeme × ℕ) (t : Bool) → (t ≡ true → front text ≡ None) → front text ≡ Some x → t ≡ false
none_of text x true none found = absurd (none-some x (sym (none refl) ∙ found))
none_of text x false none found = refl

behind_by_front : (text : List ℕ) (x : Lexeme × ℕ) → front text ≡ Some x → IsBehindGap text
behind_by_front [] x found = no_front x found
behind_by_front (b ∷ bs) x found = (none_of (b ∷ bs) x (is_blank b) (no_token_at_blank b bs) found, none_of (b ∷ bs) x (opens_comment (b ∷ bs)) (no_token_at_comment b bs) found)

pub token_behind : (lexeme : Lexeme) (bytes after : List ℕ) → IsToken lexeme bytes after → IsBehindGap (bytes ++ after)
token_behind lexeme bytes after token = behind_by_front (bytes ++ after) (lexeme, length bytes) (front_of_token lexeme bytes after token)
