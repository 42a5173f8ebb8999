-- A choice by the next token is read exactly.
use Rattle.std.proofs.Common.{◌≡◌, ℕ, ◌^◌, Bool, false, ◌||◌, List, [], ◌∷◌, ◌++◌, Option, None, Some, Ok, Err, refl, sym, ap, ◌∙◌, inl, inr}
use Rattle.std.specs.Prelude.{option_and_then, is_some}
use Rattle.sql_lex.specs.Spelling.{Lexeme, Number}
use Rattle.sql_lex.specs.Tokens.{Item}
use Rattle.sql_lex.proofs.Literals.{or_false}
use Rattle.sql_parse.specs.Phrases.{Phrase, Either}
use Rattle.sql_parse.specs.Reading.{Left, Read, first_lexeme, either_at}
use Rattle.sql_parse.proofs.Exact.{lexemes, left, Fails, Opens, Ends, Alike, SameHead, Reads, Faulty, Exact, IsQuiet, alike_same}

-- what the test makes of the next token
abbrev pub next : {S : Type 0} → (Lexeme → Option S) → List Item → Option S
next test items = option_and_then test (first_lexeme items)

-- the first token passes the test
pub record Starts {S : Type 0} (test : Lexeme → Option S) (front : List Item) : Type 0 where
  pub token : Item
  pub others : List Item
  pub split : front ≡ token ∷ others
  pub value : S
  pub passes : test token.lexeme ≡ Some value

pub none_of : {S : Type 0} (o : Option S) → is_some o ≡ false → o ≡ None
none_of None e = refl
none_of (Some x) e = absurd (cc)

module _ {S : Type 0} (test : Lexeme → Option S) (quiet : IsQuiet test) where
  same_next : (t u : Item) → Alike t u → test u.lexeme ≡ test t.lexeme
  same_next t u (inl e) = ap (λ (i : Item). test i.lexeme) e
  same_next t u (inr n) = ap test n.2 ∙ quiet (2 ^ 63) ∙ sym (quiet n.0) ∙ ap test (sym n.1)

  next_alone : (rest others : List Item) → SameHead rest others → next test others ≡ next test rest
  next_alone [] others same = ap (next test) same
  next_alone (t ∷ ts) [] same = absurd same
  next_alone (t ∷ ts) (u ∷ us) same = same_next t u same

  pub next_same : (front rest others : List Item) → SameHead rest others → next test (front ++ others) ≡ next test (front ++ rest)
  next_same [] rest others same = next_alone rest others same
  next_same (c ∷ cs) rest others same = refl

  pub next_starts : (front rest : List Item) (starts : Starts test front) → next test (front ++ rest) ≡ Some starts.value
  next_starts front rest starts = ap (λ (l : List Item). next test (l ++ rest)) starts.split ∙ starts.passes

  next_none_alone : (rest : List Item) → Ends (λ l. is_some (test l)) rest → next test rest ≡ None
  next_none_alone [] ends = refl
  next_none_alone (t ∷ ts) ends = none_of (test t.lexeme) ends

  pub next_none : (front rest : List Item) → Ends (λ l. is_some (test l)) front → Ends (λ l. is_some (test l)) rest → next test (front ++ rest) ≡ None
  next_none [] rest first ends = next_none_alone rest ends
  next_none (c ∷ cs) rest first ends = none_of (test c.lexeme) first

module _ {X : Type 0} (test : Lexeme → Option (Unit {0})) (N : Phrase X) (M : Phrase X) (p : Left → Read X) (q : Left → Read X) (g h : Lexeme → Bool) (exact_p : Exact N p g) (exact_q : Exact M q h) (quiet : IsQuiet test) where
  abbrev goes : Lexeme → Bool
  goes l = is_some (test l) || (g l || h l)

  chosen_first : (end : ℕ) (items : List Item) (u : Unit {0}) → next test items ≡ Some u → either_at test p q (left end items) ≡ p (left end items)
  chosen_first end items u e = rw e refl

  chosen_second : (end : ℕ) (items : List Item) → next test items ≡ None → either_at test p q (left end items) ≡ q (left end items)
  chosen_second end items e = rw e refl

  opens_left : (front : List Lexeme) → Opens N front → Opens (Either N M) front
  opens_left front opens = (opens.0, opens.1, inl opens.2)

  opens_right : (front : List Lexeme) → Opens M front → Opens (Either N M) front
  opens_right front opens = (opens.0, opens.1, inr opens.2)

  module _ (f : Left → Read X) (K : Phrase X) (lift : (front : List Lexeme) (x : X) → K front x → Either N M front x) (o : Option (Unit {0})) (is_f : (end : ℕ) (items : List Item) → next test items ≡ o → either_at test p q (left end items) ≡ f (left end items)) where
    chosen_reads : (end : ℕ) (items : List Item) (x : X) (after : Left) → next test items ≡ o → Reads K f end items x after → Reads (Either N M) (either_at test p q) end items x after
    chosen_reads end items x after e r = record {
      front = r.front;
      rest = r.rest;
      split = r.split;
      after_is = r.after_is;
      phrase = lift (lexemes r.front) x r.phrase;
      stable = λ others same. is_f end (r.front ++ others) (next_same test quiet r.front r.rest others same ∙ ap (next test) (sym r.split) ∙ e) ∙ r.stable others same;
    }

    chosen_fails : (end : ℕ) (items : List Item) → next test items ≡ o → Fails (f (left end items)) → Fails (either_at test p q (left end items))
    chosen_fails end items e fails = (fails.0, is_f end items e ∙ fails.1)

    chosen_opens : (front : List Lexeme) → Opens K front → Opens (Either N M) front
    chosen_opens front opens = (opens.0, opens.1, lift (front ++ opens.0) opens.1 opens.2)

    chosen_faulty : (end : ℕ) (items : List Item) (at : ℕ) → next test items ≡ o → Faulty K f end items at → Faulty (Either N M) (either_at test p q) end items at
    chosen_faulty end items at e (inl early) = inl (record { opens = chosen_opens (lexemes items) early.opens; place = early.place })
    chosen_faulty end items at e (inr (inl stuck)) = inr (inl (record {
      front = stuck.front;
      token = stuck.token;
      after = stuck.after;
      split = stuck.split;
      opens = chosen_opens (lexemes stuck.front) stuck.opens;
      place = stuck.place;
      fails = λ other others alike. chosen_fails end (stuck.front ++ other ∷ others) (next_same test quiet stuck.front (stuck.token ∷ stuck.after) (other ∷ others) alike ∙ ap (next test) (sym stuck.split) ∙ e) (stuck.fails other others alike);
    }))
    chosen_faulty end items at e (inr (inr great)) = inr (inr (record {
      front = great.front;
      minus = great.minus;
      token = great.token;
      after = great.after;
      number = great.number;
      split = great.split;
      is = great.is;
      opens = chosen_opens (lexemes great.front ++ great.minus.lexeme ∷ Number (2 ^ 63) ∷ []) great.opens;
      place = great.place;
      fails = λ others. chosen_fails end (great.front ++ great.minus ∷ great.token ∷ others) (next_same test quiet great.front (great.minus ∷ great.token ∷ great.after) (great.minus ∷ great.token ∷ others) (alike_same great.minus) ∙ ap (next test) (sym great.split) ∙ e) (great.fails others);
    }))

  sound_cases : (end : ℕ) (items : List Item) (x : X) (after : Left) (o : Option (Unit {0})) → next test items ≡ o → either_at test p q (left end items) ≡ Ok (x, after) → Reads (Either N M) (either_at test p q) end items x after
  sound_cases end items x after None e read = chosen_reads q M (λ front v m. inr m) None chosen_second end items x after e (exact_q.sound end items x after (sym (chosen_second end items e) ∙ read))
  sound_cases end items x after (Some u) e read = chosen_reads p N (λ front v n. inl n) (Some u) (λ end items. chosen_first end items u) end items x after e (exact_p.sound end items x after (sym (chosen_first end items u e) ∙ read))

  fault_cases : (end : ℕ) (items : List Item) (at : ℕ) (o : Option (Unit {0})) → next test items ≡ o → either_at test p q (left end items) ≡ Err at → Faulty (Either N M) (either_at test p q) end items at
  fault_cases end items at None e read = chosen_faulty q M (λ front v m. inr m) None chosen_second end items at e (exact_q.fault end items at (sym (chosen_second end items e) ∙ read))
  fault_cases end items at (Some u) e read = chosen_faulty p N (λ front v n. inl n) (Some u) (λ end items. chosen_first end items u) end items at e (exact_p.fault end items at (sym (chosen_first end items u e) ∙ read))

  ends_all : (rest : List Item) → Ends goes rest → Ends (λ l. is_some (test l)) rest × Ends g rest × Ends h rest
  ends_all [] ends = (tt, tt, tt)
  ends_all (t ∷ ts) ends =
      let outer = or_false (is_some (test t.lexeme)) (g t.lexeme || h t.lexeme) ends in
      let inner = or_false (g t.lexeme) (h t.lexeme) outer.1 in
      (outer.0, inner.0, inner.1)

  module _ (G : Lexeme → Bool) (ends_g : (rest : List Item) → Ends G rest → Ends g rest) (ends_h : (rest : List Item) → Ends G rest → Ends h rest) (starts : (front : List Item) (x : X) → N (lexemes front) x → Starts test front) (apart : (front rest : List Item) (x : X) → M (lexemes front) x → Ends G rest → next test (front ++ rest) ≡ None) where
    either_complete : (end : ℕ) (front rest : List Item) (x : X) → Either N M (lexemes front) x → Ends G rest → either_at test p q (left end (front ++ rest)) ≡ Ok (x, left end rest)
    either_complete end front rest x (inl n) ends =
        let s = starts front x n in
        chosen_first end (front ++ rest) s.value (next_starts test quiet front rest s) ∙ exact_p.complete end front rest x n (ends_g rest ends)
    either_complete end front rest x (inr m) ends = chosen_second end (front ++ rest) (apart front rest x m ends) ∙ exact_q.complete end front rest x m (ends_h rest ends)

    pub either_full : Exact (Either N M) (either_at test p q) G
    either_full = record {
      complete = either_complete;
      sound = λ end items x after e. sound_cases end items x after _ refl e;
      fault = λ end items at e. fault_cases end items at _ refl e;
      whole = opens_left [] exact_p.whole;
    }

  module _ (starts : (front : List Item) (x : X) → N (lexemes front) x → Starts test front) (apart : (front : List Item) (x : X) → M (lexemes front) x → Ends (λ l. is_some (test l)) front) where
    pub either_exact : Exact (Either N M) (either_at test p q) goes
    either_exact = either_full goes (λ rest ends. (ends_all rest ends).1) (λ rest ends. (ends_all rest ends).2) starts (λ front rest x m ends. next_none test quiet front rest (apart front x m) (ends_all rest ends).0)
