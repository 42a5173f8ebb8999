-- Lists of tokens: what a scan keeps, and that a text has one list.
use Rattle.std.proofs.Common.{◌≡◌, ◌≢◌, ℕ, zero, suc, ◌+◌, ◌-◌, ◌<◌, ◌≤◌, List, [], ◌∷◌, ◌++◌, length, take, drop, Option, None, Some, refl, sym, ap, subst, ◌∙◌, ◌⊎◌, inl, inr, arith, length-append}
use Rattle.std.specs.Prelude.{option_map, IfSome}
use Rattle.std.proofs.lemmas.List.{length-drop, drop-drop}
use Rattle.std.proofs.Math.Seq.{drop-append_seam}
use Rattle.sql_lex.specs.Spelling.{Lexeme, IsToken}
use Rattle.sql_lex.specs.Tokens.{Item, Begins, NoToken, AreTokens, AreTokensUpTo, IsLastGap, IsBehindGap}
use Rattle.sql_lex.specs.Reading.{from_token, front}
use Rattle.sql_lex.specs.Seen.{lexeme_of}
use Rattle.sql_lex.specs.FoundToken.{seen}
use Rattle.sql_lex.specs.declared.shapes.FoundToken.{FoundToken}
use Rattle.sql_lex.proofs.Fronts.{slice_rest}
use Rattle.sql_lex.proofs.Exact.{front_stands, front_of_token, some_pair}
use Rattle.sql_lex.proofs.GapShape.{Gapped, past_gap, left_as_is, past_last_gap, gap_of, from_token_short, token_behind}

-- ---- tokens as they are read: each is what stands behind the gap

abbrev pub BeginsSo : ℕ → List Item → List ℕ → List ℕ → Type 0
BeginsSo end [] text rest = text ≡ rest
BeginsSo end (item ∷ items) text rest = (bytes after : List ℕ) × (from_token text ≡ bytes ++ after) × IsToken item.lexeme bytes after × (item.at + length (bytes ++ after) ≡ end) × BeginsSo end items after rest

pub record TokensSo (base : ℕ) (text : List ℕ) (items : List Item) : Type 0 where
  pub rest : List ℕ
  pub begins : BeginsSo (base + length text) items text rest
  pub ends : from_token rest ≡ []

pub record UpToSo (base : ℕ) (text : List ℕ) (items : List Item) (at : ℕ) : Type 0 where
  pub rest : List ℕ
  pub begins : BeginsSo (base + length text) items text rest
  pub goes_on : from_token rest ≢ []
  pub no_token : NoToken (from_token rest)
  pub place : at + length (from_token rest) ≡ base + length text

-- one more token behind those that the text begins with
pub BeginsSo-push : (end : ℕ) (items : List Item) (text rest bytes after : List ℕ) (item : Item) → BeginsSo end items text rest → from_token rest ≡ bytes ++ after → IsToken item.lexeme bytes after → item.at + length (bytes ++ after) ≡ end → BeginsSo end (items ++ item ∷ []) text after
BeginsSo-push end [] text rest bytes after item begins split token place = (bytes, after, ap from_token begins ∙ split, token, place, refl)
BeginsSo-push end (x ∷ xs) text rest bytes after item begins split token place = (begins.0, begins.1, begins.2, begins.3, begins.4, BeginsSo-push end xs begins.1 rest bytes after item begins.5 split token place)

-- no token is read where none stands
pub NoToken-from_front : (text : List ℕ) → front text ≡ None → NoToken text
NoToken-from_front text e lexeme bytes after split token = let found = front_of_token lexeme bytes after token in absurd (let none : ◌≡◌ {A = Option (Lexeme × ℕ)} None (Some (lexeme, length bytes)) = sym e ∙ ap front split ∙ found in cc)

none_so : (text : List ℕ) (o : Option (Lexeme × ℕ)) → front text ≡ o → NoToken text → o ≡ None
none_so text None e without = refl
none_so text (Some found) e without = let stands = front_stands text found.0 found.1 e in absurd (without found.0 stands.bytes stands.after stands.split stands.token)

pub front-from_NoToken : (text : List ℕ) → NoToken text → front text ≡ None
front-from_NoToken text without = none_so text (front text) refl without

same_after : (xs ys us bs : List ℕ) → xs ++ us ≡ ys ++ bs → length xs ≡ length ys → us ≡ bs
same_after xs ys us bs e len = sym (drop-append_seam xs us) ∙ ap (λ n. drop n (xs ++ us)) len ∙ ap (λ (l : List ℕ). drop (length ys) l) e ∙ drop-append_seam ys bs

same_item : (x y : Item) → x.lexeme ≡ y.lexeme → x.at ≡ y.at → x ≡ y
same_item x y e f = λ i. record { lexeme = e i; at = f i }

-- two readings of a text, both up to where no token is read, are one
pub one_reading : (end : ℕ) (xs ys : List Item) (text rest left : List ℕ) → BeginsSo end xs text rest → BeginsSo end ys text left → front (from_token rest) ≡ None → front (from_token left) ≡ None → (xs ≡ ys) × (rest ≡ left)
one_reading end [] [] text rest left b c stops ends = (refl, sym b ∙ c)
one_reading end [] (y ∷ ys) text rest left b c stops ends =
    let found = front_of_token y.lexeme c.0 c.1 c.3 in
    absurd (let none : ◌≡◌ {A = Option (Lexeme × ℕ)} None (Some (y.lexeme, length c.0)) = sym stops ∙ ap (λ (l : List ℕ). front (from_token l)) (sym b) ∙ ap front c.2 ∙ found in cc)
one_reading end (x ∷ xs) [] text rest left b c stops ends =
    let found = front_of_token x.lexeme b.0 b.1 b.3 in
    absurd (let none : ◌≡◌ {A = Option (Lexeme × ℕ)} None (Some (x.lexeme, length b.0)) = sym ends ∙ ap (λ (l : List ℕ). front (from_token l)) (sym c) ∙ ap front b.2 ∙ found in cc)
one_reading end (x ∷ xs) (y ∷ ys) text rest left b c stops ends =
    let same = sym b.2 ∙ c.2 in
    let pair = some_pair x.lexeme y.lexeme (length b.0) (length c.0) (sym (front_of_token x.lexeme b.0 b.1 b.3) ∙ ap front same ∙ front_of_token y.lexeme c.0 c.1 c.3) in
    let after = same_after b.0 c.0 b.1 c.1 same pair.1 in
    let tail = one_reading end xs ys b.1 rest left b.5 (subst (λ l. BeginsSo end ys l left) (sym after) c.5) stops ends in
    let at : x.at ≡ y.at = omega (arith, b.4, c.4, ap length same) in
    let item = same_item x y pair.0 at in
    ((λ i. item i ∷ tail.0 i), tail.1)

front_of_none : (text : List ℕ) → text ≡ [] → front text ≡ None
unfolding front
front_of_none text e = ap front e

pub one_list : (base : ℕ) (text : List ℕ) (xs ys : List Item) → TokensSo base text xs → TokensSo base text ys → xs ≡ ys
one_list base text xs ys a b = (one_reading (base + length text) xs ys text a.rest b.rest a.begins b.begins (front_of_none _ a.ends) (front_of_none _ b.ends)).0

pub no_place : (base at : ℕ) (text : List ℕ) (xs ys : List Item) → TokensSo base text xs → UpToSo base text ys at → ⊥
no_place base at text xs ys a b =
    let same = (one_reading (base + length text) xs ys text a.rest b.rest a.begins b.begins (front_of_none _ a.ends) (front-from_NoToken _ b.no_token)).1 in
    b.goes_on (ap from_token (sym same) ∙ a.ends)

pub one_stop : (base at place : ℕ) (text : List ℕ) (xs ys : List Item) → UpToSo base text xs at → UpToSo base text ys place → (xs ≡ ys) × (at ≡ place)
one_stop base at place text xs ys a b =
    let same = one_reading (base + length text) xs ys text a.rest b.rest a.begins b.begins (front-from_NoToken _ a.no_token) (front-from_NoToken _ b.no_token) in
    (same.0, omega (arith, a.place, b.place, ap (λ (l : List ℕ). length (from_token l)) same.1))

-- the text begins with these tokens, and this is left behind them and the gap after them
pub record SoFar (end : ℕ) (text : List ℕ) (items : List Item) (left : List ℕ) : Type 0 where
  pub rest : List ℕ
  pub begins : BeginsSo end items text rest
  pub left_is : from_token rest ≡ left

-- one more token is read
pub SoFar-next : (end : ℕ) (text : List ℕ) (items : List Item) (left : List ℕ) (lexeme : Lexeme) (at n : ℕ) → SoFar end text items left → front left ≡ Some (lexeme, n) → at + length left ≡ end → SoFar end text (items ++ (record { lexeme = lexeme; at = at }) ∷ []) (from_token (drop n left))
SoFar-next end text items left lexeme at n so_far found place =
    let stands = front_stands left lexeme n found in
    record {
      rest = stands.after;
      begins = BeginsSo-push end items text so_far.rest stands.bytes stands.after (record { lexeme = lexeme; at = at }) so_far.begins (so_far.left_is ∙ stands.split) stands.token (omega (arith, ap length stands.split));
      left_is = ap from_token (sym (ap (λ m. drop m left) stands.len ∙ ap (λ (l : List ℕ). drop (length stands.bytes) l) stands.split ∙ drop-append_seam stands.bytes stands.after));
    }

within_so : (o : Option FoundToken) (text : List ℕ) (at : ℕ) → option_map seen o ≡ front (drop at text) → at ≤ length text → IfSome o (λ found. (0 < found.len) × (at + found.len ≤ length text))
within_so None text at e inside = tt
within_so (Some found) text at e inside =
    let stands = front_stands (drop at text) (lexeme_of found.kind) found.len (sym e) in
    (stands.some, omega (arith, stands.len, ap length stands.split, length-append stands.bytes stands.after, length-drop at text))

-- the token that is read lies in the text
pub found_within : (o : Option FoundToken) (text : List ℕ) (at : ℕ) → option_map seen o ≡ front (drop at text) → at < length text → IfSome o (λ found. (0 < found.len) × (at + found.len ≤ length text))
found_within o text at e inside = within_so o text at e (omega arith)

-- no token is read, and the text continues: there it stops
pub SoFar-stops : (base at : ℕ) (text : List ℕ) (items : List Item) (left : List ℕ) → SoFar (base + length text) text items left → front left ≡ None → 0 < length left → at + length left ≡ base + length text → UpToSo base text items at
SoFar-stops base at text items left so_far none some place = record {
  rest = so_far.rest;
  begins = so_far.begins;
  goes_on = λ e. absurd (let empty : length left ≡ 0 = ap length (sym so_far.left_is ∙ e) in omega arith);
  no_token = NoToken-from_front _ (ap front so_far.left_is ∙ none);
  place = omega (arith, ap length so_far.left_is);
}

-- what is left behind a token and the gap after it
pub left_behind : (text bytes : List ℕ) (at n gap : ℕ) → bytes ≡ text → drop gap (take (length bytes - (at + n)) (drop (at + n) bytes)) ≡ from_token (take (length bytes - (at + n)) (drop (at + n) bytes)) → drop (at + n + gap) text ≡ from_token (drop n (drop at text))
left_behind text bytes at n gap e found =
    let rest : take (length bytes - (at + n)) (drop (at + n) bytes) ≡ drop (at + n) text = ap (λ (l : List ℕ). take (length l - (at + n)) (drop (at + n) l)) e ∙ slice_rest text (at + n) in
    sym (drop-drop gap (at + n) text) ∙ ap (drop gap) (sym rest) ∙ found ∙ ap from_token (rest ∙ sym (drop-drop n at text))

-- and it lies in the text
pub gap_within : (text bytes : List ℕ) (next gap : ℕ) → bytes ≡ text → gap ≤ length (take (length bytes - next) (drop next bytes)) → next ≤ length text → next + gap ≤ length text
gap_within text bytes next gap e within inside =
    let rest : length (take (length bytes - next) (drop next bytes)) ≡ length text - next = ap (λ (l : List ℕ). length (take (length l - next) (drop next l))) e ∙ ap length (slice_rest text next) ∙ length-drop next text in
    omega arith

-- ---- tokens by the shape of the gaps between them

to_so : (end : ℕ) (items : List Item) (text rest : List ℕ) → Begins end items text rest → BeginsSo end items text rest
to_so end [] text rest b = b
to_so end (x ∷ xs) text rest b =
    let left = ap from_token b.3 ∙ past_gap b.0 (b.1 ++ b.2) b.4 ∙ left_as_is (b.1 ++ b.2) (token_behind x.lexeme b.1 b.2 b.5) in
    (b.1, b.2, left, b.5, b.6, to_so end xs b.2 rest b.7)

none_behind : (text bytes after : List ℕ) (lexeme : Lexeme) → from_token text ≡ bytes ++ after → IsToken lexeme bytes after → from_token text ≡ [] → ⊥
none_behind text bytes after lexeme left token none = subst IsBehindGap (sym left ∙ none) (token_behind lexeme bytes after token)

from_so : (end : ℕ) (items : List Item) (text rest : List ℕ) → BeginsSo end items text rest → Begins end items text rest
from_so end [] text rest b = b
from_so end (x ∷ xs) text rest b =
    let further = from_so end xs b.1 rest b.5 in
    elim (gap_of text) [
      | inl g ↦ (g.0, b.0, b.1, g.1 ∙ ap (λ (l : List ℕ). g.0 ++ l) b.2, g.2, b.3, b.4, further)
      | inr g ↦ absurd (none_behind text b.0 b.1 x.lexeme b.2 b.3 g.1)
    ]

last_of : (rest : List ℕ) → from_token rest ≡ [] → Gapped rest → IsLastGap rest
last_of rest none (inl g) = absurd (subst IsBehindGap none g.3)
last_of rest none (inr g) = g.0

module _ (base : ℕ) (text : List ℕ) (items : List Item) where
  pub tokens_to_so : AreTokens base text items → TokensSo base text items
  tokens_to_so a = record { rest = a.rest; begins = to_so (base + length text) items text a.rest a.begins; ends = past_last_gap a.rest a.ends }

  pub tokens_from_so : TokensSo base text items → AreTokens base text items
  tokens_from_so a = record { rest = a.rest; begins = from_so (base + length text) items text a.rest a.begins; ends = last_of a.rest a.ends (gap_of a.rest) }

  pub up_to_so : (at : ℕ) → AreTokensUpTo base text items at → UpToSo base text items at
  up_to_so at a =
      let left : from_token (a.gap ++ a.wrong) ≡ a.wrong = past_gap a.gap a.wrong a.is_gap ∙ left_as_is a.wrong a.goes_on in
      record {
        rest = a.gap ++ a.wrong;
        begins = to_so (base + length text) items text (a.gap ++ a.wrong) a.begins;
        goes_on = λ none. subst IsBehindGap (sym left ∙ none) a.goes_on;
        no_token = subst NoToken (sym left) a.no_token;
        place = omega (arith, a.place, ap length left);
      }

  up_to_by : (at : ℕ) (a : UpToSo base text items at) → Gapped a.rest → AreTokensUpTo base text items at
  up_to_by at a (inl g) = record {
    gap = g.0;
    wrong = from_token a.rest;
    begins = subst (λ (l : List ℕ). Begins (base + length text) items text l) g.1 (from_so (base + length text) items text a.rest a.begins);
    is_gap = g.2;
    goes_on = g.3;
    no_token = a.no_token;
    place = a.place;
  }
  up_to_by at a (inr g) = absurd (a.goes_on g.1)

  pub up_to_from_so : (at : ℕ) → UpToSo base text items at → AreTokensUpTo base text items at
  up_to_from_so at a = up_to_by at a (gap_of a.rest)

pub one_token_list : (base : ℕ) (text : List ℕ) (xs ys : List Item) → AreTokens base text xs → AreTokens base text ys → xs ≡ ys
one_token_list base text xs ys a b = one_list base text xs ys (tokens_to_so base text xs a) (tokens_to_so base text ys b)

pub not_both : (base at : ℕ) (text : List ℕ) (xs ys : List Item) → AreTokens base text xs → AreTokensUpTo base text ys at → ⊥
not_both base at text xs ys a b = no_place base at text xs ys (tokens_to_so base text xs a) (up_to_so base text ys at b)

pub one_place : (base at place : ℕ) (text : List ℕ) (xs ys : List Item) → AreTokensUpTo base text xs at → AreTokensUpTo base text ys place → (xs ≡ ys) × (at ≡ place)
one_place base at place text xs ys a b = one_stop base at place text xs ys (up_to_so base text xs at a) (up_to_so base text ys place b)

-- ---- each text is tokens, or tokens up to a place

abbrev pub HasTokens : ℕ → List ℕ → Type 0
HasTokens base text = ((items : List Item) × AreTokens base text items) ⊎ ((items : List Item) × (at : ℕ) × AreTokensUpTo base text items at)

module _ (base : ℕ) (text : List ℕ) where
  abbrev Goal : ℕ → Type 0
  Goal n = (items : List Item) (left : List ℕ) → SoFar (base + length text) text items left → length left ≤ n → length left ≤ length text → HasTokens base text

  by_front : (n : ℕ) → Goal n → (items : List Item) (left : List ℕ) (o : Option (Lexeme × ℕ)) → front left ≡ o → SoFar (base + length text) text items left → 0 < length left → length left ≤ suc n → length left ≤ length text → HasTokens base text
  by_front n again items left None e so_far some le within =
      let at = base + length text - length left in
      inr (items, at, up_to_from_so base text items at (SoFar-stops base at text items left so_far e some (omega arith)))
  by_front n again items left (Some found) e so_far some le within =
      let stands = front_stands left found.0 found.1 e in
      let at = base + length text - length left in
      let next = SoFar-next (base + length text) text items left found.0 at found.1 so_far e (omega arith) in
      let short = from_token_short (drop found.1 left) in
      let len = length-drop found.1 left in
      again _ _ next (omega (arith, short, len, stands.some)) (omega (arith, short, len))

  by_len : (n : ℕ) → Goal n
  by_len n items [] so_far le within = inl (items, tokens_from_so base text items (record { rest = so_far.rest; begins = so_far.begins; ends = so_far.left_is }))
  by_len zero items (b ∷ bs) so_far le within = absurd (omega arith)
  by_len (suc n) items (b ∷ bs) so_far le within = by_front n (λ xs left so short inside. by_len n xs left so short inside) items (b ∷ bs) (front (b ∷ bs)) refl so_far (omega arith) le within

  pub has_tokens : HasTokens base text
  has_tokens = by_len (length text) [] (from_token text) (record { rest = text; begins = refl; left_is = refl }) (from_token_short text) (from_token_short text)
