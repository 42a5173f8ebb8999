-- Where a literal ends.
use Rattle.std.proofs.Common.{◌≡◌, ℕ, ◌+◌, ◌-◌, ◌<◌, Bool, true, false, cond, ◌&&◌, ◌||◌, eqb, List, [], ◌∷◌, ◌++◌, length, get_or, take, drop, Option, None, Some, refl, sym, ap, subst, ◌∙◌, arith, append_assoc, length-append}
use Rattle.std.specs.Prelude.{option_map}
use Rattle.std.specs.List.{list_all}
use Rattle.std.proofs.lemmas.Bool.Decides.{Decides-eqb}
use Rattle.std.proofs.Math.Numerals.{add-one}
use Rattle.std.proofs.Math.Seq.{drop-cons}
use Rattle.sql_lex.specs.Spelling.{Literal, is_allowed, doubled, IsQuoted}
use Rattle.sql_lex.specs.Reading.{closes, literal_front}
use Rattle.std.specs.Str.{IsCharBoundary}
use Rattle.std.proofs.lemmas.Str.{IsCharBoundary-before_ascii}
use Rattle.std.proofs.lemmas.List.{get_or-drop, length-drop, get_or-append-add}

-- the first element, where there is one, doesn't pass the test
abbrev pub FirstFails : (ℕ → Bool) → List ℕ → Type 0
FirstFails p [] = Unit {0}
FirstFails p (b ∷ bs) = p b ≡ false

abbrev pub is_quote : ℕ → Bool
is_quote b = eqb b 39

pub and_true : (a b : Bool) → (a && b) ≡ true → (a ≡ true) × (b ≡ true)
and_true true b e = (refl, e)
and_true false b e = absurd (cc)

pub or_false : (a b : Bool) → (a || b) ≡ false → (a ≡ false) × (b ≡ false)
or_false true b e = absurd (cc)
or_false false b e = (refl, e)

shift : (o : Option ℕ) (a b c : ℕ) → a + b ≡ c → option_map (λ (n : ℕ). n + b) (option_map (λ (n : ℕ). n + a) o) ≡ option_map (λ (n : ℕ). n + c) o
shift None a b c e = refl
shift (Some n) a b c e = ap Some (omega arith)

-- behind a quote that was pending another one stands
pub after_pair : (bs : List ℕ) (b i : ℕ) → b ≡ 39 → 0 < i → option_map (λ (n : ℕ). n + (i - 1)) (closes true (b ∷ bs)) ≡ option_map (λ (n : ℕ). n + (i + 1)) (closes false bs)
after_pair bs b i quote some = rw quote (shift (closes false bs) 2 (i - 1) (i + 1) (omega arith))

-- a quote stands, which is pending then
pub after_quote : (bs : List ℕ) (b i : ℕ) → b ≡ 39 → option_map (λ (n : ℕ). n + i) (closes false (b ∷ bs)) ≡ option_map (λ (n : ℕ). n + (i + 1 - 1)) (closes true bs)
after_quote bs b i quote = let same : i + 1 - 1 ≡ i = omega arith in rw (quote, same) refl

-- a character stands that is allowed
pub after_allowed : (bs : List ℕ) (b i : ℕ) → eqb b 39 ≡ false → is_allowed b ≡ true → option_map (λ (n : ℕ). n + i) (closes false (b ∷ bs)) ≡ option_map (λ (n : ℕ). n + (i + 1)) (closes false bs)
after_allowed bs b i other allowed = rw (other, allowed) (shift (closes false bs) 1 i (i + 1) (omega arith))

-- what is left decides where the literal ends; a quote that is pending stands just before
pub record Kept (bytes : List ℕ) (pending : Bool) (i : ℕ) : Type 0 where
  pub closes_as : closes false bytes ≡ option_map (λ (n : ℕ). n + cond pending (i - 1) i) (closes pending (drop i bytes))
  pub behind_quote : pending ≡ true → 0 < i

module _ (bytes : List ℕ) (i : ℕ) (inside : i < length bytes) where
  starts : drop i bytes ≡ get_or bytes i 0 ∷ drop (i + 1) bytes
  starts = rw (add-one, drop-cons bytes i 0) refl

  pub kept_pair : Kept bytes true i → get_or bytes i 0 ≡ 39 → Kept bytes false (i + 1)
  kept_pair kept quote = record {
    closes_as = kept.closes_as ∙ ap (λ l. option_map (λ (n : ℕ). n + (i - 1)) (closes true l)) starts ∙ after_pair (drop (i + 1) bytes) (get_or bytes i 0) i quote (kept.behind_quote refl);
    behind_quote = λ e. omega arith;
  }

  pub kept_quote : Kept bytes false i → get_or bytes i 0 ≡ 39 → Kept bytes true (i + 1)
  kept_quote kept quote = record {
    closes_as = kept.closes_as ∙ ap (λ l. option_map (λ (n : ℕ). n + i) (closes false l)) starts ∙ after_quote (drop (i + 1) bytes) (get_or bytes i 0) i quote;
    behind_quote = λ e. omega arith;
  }

  pub kept_allowed : Kept bytes false i → eqb (get_or bytes i 0) 39 ≡ false → is_allowed (get_or bytes i 0) ≡ true → Kept bytes false (i + 1)
  kept_allowed kept other allowed = record {
    closes_as = kept.closes_as ∙ ap (λ l. option_map (λ (n : ℕ). n + i) (closes false l)) starts ∙ after_allowed (drop (i + 1) bytes) (get_or bytes i 0) i other allowed;
    behind_quote = λ e. omega arith;
  }

-- the text continues to the quote that closes the literal
pub record Closing (text : List ℕ) (n : ℕ) : Type 0 where
  pub raw : List ℕ
  pub after : List ℕ
  pub split : text ≡ raw ++ (39 ∷ after)
  pub quoted : IsQuoted raw
  pub len : n ≡ length raw
  pub ends : FirstFails is_quote after

-- the text with the quote that is pending
abbrev with_pending : Bool → List ℕ → List ℕ
with_pending true text = 39 ∷ text
with_pending false text = text

pub some_before : (o : Option ℕ) (a n : ℕ) → option_map (λ (m : ℕ). m + a) o ≡ Some n → (m : ℕ) × (o ≡ Some m) × (n ≡ m + a)
some_before None a n e = absurd (cc)
some_before (Some m) a n e = (m, refl, cc)

one_more : (b : ℕ) (bs : List ℕ) (n m : ℕ) → eqb b 39 ≡ false → is_allowed b ≡ true → n ≡ m + 1 → Closing bs m → Closing (b ∷ bs) n
one_more b bs n m other allowed len rest = record {
  raw = b ∷ rest.raw;
  after = rest.after;
  split = ap (λ l. b ∷ l) rest.split;
  quoted = (b ∷ rest.quoted.0, rw other (ap (λ l. b ∷ l) rest.quoted.1), rw allowed rest.quoted.2);
  len = omega (arith, rest.len);
  ends = rest.ends;
}

two_more : (b : ℕ) (bs : List ℕ) (n m : ℕ) → eqb b 39 ≡ true → n ≡ m + 2 → Closing bs m → Closing (39 ∷ b ∷ bs) n
two_more b bs n m quote len rest =
    let is : b ≡ 39 = (Decides-eqb b 39).0 quote in
    record {
      raw = 39 ∷ 39 ∷ rest.raw;
      after = rest.after;
      split = rw (is, rest.split) refl;
      quoted = (39 ∷ rest.quoted.0, ap (λ l. 39 ∷ 39 ∷ l) rest.quoted.1, rest.quoted.2);
      len = omega (arith, rest.len);
      ends = rest.ends;
    }

mutual_step : (b : ℕ) (bs : List ℕ) (n : ℕ) (quote allowed : Bool) → eqb b 39 ≡ quote → is_allowed b ≡ allowed → cond quote (closes true bs) (cond allowed (option_map (λ (m : ℕ). m + 1) (closes false bs)) None) ≡ Some n → ((m : ℕ) → closes true bs ≡ Some m → Closing (39 ∷ bs) m) → ((m : ℕ) → closes false bs ≡ Some m → Closing bs m) → Closing (b ∷ bs) n
mutual_step b bs n true allowed quote _ e pending plain = let is : b ≡ 39 = (Decides-eqb b 39).0 quote in subst (λ c. Closing (c ∷ bs) n) (sym is) (pending n e)
mutual_step b bs n false true quote allowed e pending plain = let found = some_before (closes false bs) 1 n e in one_more b bs n found.0 quote allowed found.2 (plain found.0 found.1)
mutual_step b bs n false false quote allowed e pending plain = absurd (cc)

pair_step : (b : ℕ) (bs : List ℕ) (n : ℕ) (quote : Bool) → eqb b 39 ≡ quote → cond quote (option_map (λ (m : ℕ). m + 2) (closes false bs)) (Some 0) ≡ Some n → ((m : ℕ) → closes false bs ≡ Some m → Closing bs m) → Closing (39 ∷ b ∷ bs) n
pair_step b bs n true quote e plain = let found = some_before (closes false bs) 2 n e in two_more b bs n found.0 quote found.2 (plain found.0 found.1)
pair_step b bs n false quote e plain = record { raw = []; after = b ∷ bs; split = refl; quoted = ([], refl, refl); len = cc; ends = quote }

-- what is found closes the literal
pub closing : (pending : Bool) (text : List ℕ) (n : ℕ) → closes pending text ≡ Some n → Closing (with_pending pending text) n
closing true [] n e = record { raw = []; after = []; split = refl; quoted = ([], refl, refl); len = cc; ends = tt }
closing false [] n e = absurd (cc)
closing true (b ∷ bs) n e = pair_step b bs n (eqb b 39) refl e (closing false bs)
closing false (b ∷ bs) n e = mutual_step b bs n (eqb b 39) (is_allowed b) refl refl e (closing true bs) (closing false bs)

closed : (after : List ℕ) → FirstFails is_quote after → closes true after ≡ Some 0
closed [] ends = refl
closed (b ∷ bs) ends = rw ends refl

whole_step : (c : ℕ) (rest : List ℕ) (len : ℕ) (quote : Bool) → eqb c 39 ≡ quote → is_allowed c ≡ true → closes false rest ≡ Some len → closes false (cond quote (39 ∷ 39 ∷ []) (c ∷ []) ++ rest) ≡ Some (length (cond quote (39 ∷ 39 ∷ []) (c ∷ [])) + len)
whole_step c rest len true quote allowed e = rw e (ap Some (omega arith))
whole_step c rest len false quote allowed e = rw (quote, allowed, e) (ap Some (omega arith))

-- the literal is closed where its text ends
pub closes_whole : (text after : List ℕ) → list_all is_allowed text ≡ true → FirstFails is_quote after → closes false (doubled text ++ (39 ∷ after)) ≡ Some (length (doubled text))
closes_whole [] after allowed ends = closed after ends
closes_whole (c ∷ cs) after allowed ends =
    let parts = and_true (is_allowed c) (list_all is_allowed cs) allowed in
    let char = cond (eqb c 39) (39 ∷ 39 ∷ []) (c ∷ []) in
    ap (closes false) (append_assoc char (doubled cs) (39 ∷ after)) ∙ whole_step c (doubled cs ++ (39 ∷ after)) (length (doubled cs)) (eqb c 39) refl parts.0 (closes_whole cs after parts.1 ends) ∙ ap Some (sym (length-append char (doubled cs)))

-- the closing quote is a place between characters
pub literal_boundary : (text : List ℕ) (from n : ℕ) → closes false (drop from text) ≡ Some n → IsCharBoundary text (from + n)
literal_boundary text from n e =
    let found = closing false (drop from text) n e in
    let at : get_or text (from + n) 0 ≡ 39 = sym (get_or-drop from text n 0) ∙ ap (λ (l : List ℕ). get_or l n 0) found.split ∙ (let same : n ≡ length found.raw + 0 = omega (arith, found.len) in ap (λ m. get_or (found.raw ++ (39 ∷ found.after)) m 0) same ∙ get_or-append-add found.raw (39 ∷ found.after) 0 0) in
    let fits : n < length (drop from text) = rw (found.split, length-append) (omega (arith, found.len)) in
    IsCharBoundary-before_ascii text (from + n) (omega (arith, length-drop from text)) (omega (arith, at))

-- the literal that is read is the one that stands at the front
pub literal_read : (text raw : List ℕ) (n : ℕ) → closes false text ≡ Some n → raw ≡ take n text → Some (Literal raw, n + 2) ≡ literal_front text
unfolding literal_front
literal_read text raw n e is = rw (e, ← is) refl
