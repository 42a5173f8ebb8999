-- A list of tokens is read as the value that it is by a grammar, and else its first fault is found.
use Rattle.std.proofs.Common.{◌≡◌, ℕ, ◌+◌, ◌^◌, Bool, List, [], ◌∷◌, ◌++◌, length, map, Result, Ok, Err, refl, sym, ap, subst, ◌∙◌, ◌⊎◌, inl, inr, append_assoc}
use Rattle.std.proofs.lemmas.List.{map-append, append-nil}
use Rattle.sql_lex.specs.Spelling.{Lexeme, Number}
use Rattle.sql_lex.specs.Tokens.{Item, AreTokens, AreTokensUpTo}
use Rattle.sql_lex.specs.Scans.{EndsSo}
use Rattle.sql_lex.specs.declared.scanning.ScanEnd.{ScanEnd}
use Rattle.sql_lex.specs.declared.scanning.ScanEnd.TheVariants.{Whole, NoToken}
use Rattle.sql_parse.specs.Phrases.{Phrase}
use Rattle.sql_parse.specs.Reading.{Left, Read, ◌>>=◌, ended, whole_by, value_alone, whole_of, end_of}
use Rattle.sql_parse.specs.Faults.{lexemes, IsText, BeginsPhrase, StopsAtToken, StopsAtMinus, IsFault, IfSyntax}
use Rattle.sql_parse.specs.Parsed.{FailsAs}
use Rattle.sql_parse.specs.declared.fault.ParseFault.{ParseFault}
use Rattle.sql_parse.specs.declared.fault.ParseFault.TheVariants.{Syntax, OutOfMemory}
use Rattle.sql_parse.proofs.Exact.{left, Fails, Alike, SameHead, Exact, Reads, Stuck, TooGreat, Faulty, ok_pair, ok_no_err, err_no_ok, same_err}

-- tokens at no place
abbrev placeless : List Lexeme → List Item
placeless tokens = map (λ (l : Lexeme). record { lexeme = l; at = 0 }) tokens

lexemes-placeless : (tokens : List Lexeme) → lexemes (placeless tokens) ≡ tokens
lexemes-placeless [] = refl
lexemes-placeless (t ∷ ts) = ap (λ (l : List Lexeme). t ∷ l) (lexemes-placeless ts)

greatest : Item
greatest = record { lexeme = Number (2 ^ 63); at = 0 }

greatest_is : greatest.lexeme ≡ Number (2 ^ 63)
unfolding greatest
greatest_is = refl

left_items : (end : ℕ) (a b : List Item) → ◌≡◌ {A = Left} (left end a) (left end b) → a ≡ b
left_items end a b e = ap (λ (l : Left). l.items) e

no_items : (t : Item) (ts : List Item) → ◌≡◌ {A = List Item} (t ∷ ts) [] → ⊥
no_items t ts e = cc

ok_same : {X : Type 0} (a b : X) → ◌≡◌ {A = Result X ℕ} (Ok a) (Ok b) → a ≡ b
ok_same a b e = cc

alone_ok : {X : Type 0} (r : Read X) (found : X) → value_alone r ≡ Ok found → (l : Left) × (r ≡ Ok (found, l))
alone_ok (Ok x) found e = let same : x.0 ≡ found = ok_same x.0 found e in (x.1, ap (λ s. Ok (s, x.1)) same)
alone_ok (Err at) found e = absurd (cc)

alone_err : {X : Type 0} (r : Read X) (at : ℕ) → value_alone r ≡ Err at → r ≡ Err at
alone_err (Ok x) at e = absurd (cc)
alone_err (Err place) at e = let same : place ≡ at = cc in ap (λ (k : ℕ). Err k) same

module _ {X : Type 0} (N : Phrase X) (p : Left → Read X) (g : Lexeme → Bool) (exact : Exact N p g) where
  whole_read : (end : ℕ) (items : List Item) (statement : X) → N (lexemes items) statement → p (left end items) ≡ Ok (statement, left end [])
  whole_read end items statement rule = ap (λ (l : List Item). p (left end l)) (sym (append-nil items)) ∙ exact.complete end items [] statement rule tt

  -- tokens are at most one value
  pub one_value : (tokens : List Lexeme) (a b : X) → N tokens a → N tokens b → a ≡ b
  one_value tokens a b first second =
      let items = placeless tokens in
      let same = sym (lexemes-placeless tokens) in
      (ok_pair a b (left 0 []) (left 0 []) (sym (whole_read 0 items a (subst (λ (l : List Lexeme). N l a) same first)) ∙ whole_read 0 items b (subst (λ (l : List Lexeme). N l b) same second))).0

  -- no statement begins with these tokens, if none that begins so is read to its end
  no_statement : (end : ℕ) (front : List Item) (other : Item) → ((others : List Item) (statement : X) → p (left end (front ++ other ∷ others)) ≡ Ok (statement, left end []) → ⊥) → BeginsPhrase N (lexemes front ++ other.lexeme ∷ []) → ⊥
  no_statement end front other misses begins =
      let items = front ++ other ∷ placeless begins.0 in
      let same : lexemes items ≡ (lexemes front ++ other.lexeme ∷ []) ++ begins.0 = map-append (λ (i : Item). i.lexeme) front (other ∷ placeless begins.0) ∙ ap (λ (l : List Lexeme). lexemes front ++ other.lexeme ∷ l) (lexemes-placeless begins.0) ∙ sym (append_assoc (lexemes front) (other.lexeme ∷ []) begins.0) in
      misses (placeless begins.0) begins.1 (whole_read end items begins.1 (subst (λ (l : List Lexeme). N l begins.1) (sym same) begins.2))

  fails_misses : (end : ℕ) (items : List Item) (statement : X) → Fails (p (left end items)) → p (left end items) ≡ Ok (statement, left end []) → ⊥
  fails_misses end items statement fails read = err_no_ok (statement, left end []) fails.0 (sym fails.1 ∙ read)

  -- the fault of a list of tokens
  abbrev pub WholeFault : ℕ → List Item → ℕ → Type 0
  WholeFault end items at = (BeginsPhrase N (lexemes items) × ((statement : X) → N (lexemes items) statement → ⊥) × (at ≡ end)) ⊎ (StopsAtToken N items at ⊎ StopsAtMinus N items at)

  stops_stuck : (end : ℕ) (items : List Item) (at : ℕ) → Stuck N p end items at → StopsAtToken N items at
  stops_stuck end items at stuck = record {
    front = stuck.front;
    token = stuck.token;
    after = stuck.after;
    split = stuck.split;
    stops = record { begins = stuck.opens; none = no_statement end stuck.front stuck.token (λ others statement. fails_misses end (stuck.front ++ stuck.token ∷ others) statement (stuck.fails stuck.token others (inl refl))) };
    plain = λ signed. no_statement end stuck.front greatest (λ others statement. fails_misses end (stuck.front ++ greatest ∷ others) statement (stuck.fails greatest others (inr (signed.number, signed.is, greatest_is)))) (subst (λ (l : Lexeme). BeginsPhrase N (lexemes stuck.front ++ l ∷ [])) (sym greatest_is) signed.greatest);
    place = stuck.place;
  }

  stops_great : (end : ℕ) (items : List Item) (at : ℕ) → TooGreat N p end items at → StopsAtMinus N items at
  stops_great end items at great =
      let front = great.front ++ great.minus ∷ [] in
      let is : lexemes front ≡ lexemes great.front ++ great.minus.lexeme ∷ [] = map-append (λ (i : Item). i.lexeme) great.front (great.minus ∷ []) in
      let open_is : lexemes front ++ Number (2 ^ 63) ∷ [] ≡ lexemes great.front ++ great.minus.lexeme ∷ Number (2 ^ 63) ∷ [] = ap (λ (l : List Lexeme). l ++ Number (2 ^ 63) ∷ []) is ∙ append_assoc (lexemes great.front) (great.minus.lexeme ∷ []) (Number (2 ^ 63) ∷ []) in
      let opens : BeginsPhrase N (lexemes front ++ Number (2 ^ 63) ∷ []) = subst (BeginsPhrase N) (sym open_is) great.opens in
      record {
        front = great.front;
        minus = great.minus;
        token = great.token;
        after = great.after;
        split = great.split;
        stops = record {
          begins = (Number (2 ^ 63) ∷ opens.0, opens.1, subst (λ (l : List Lexeme). N l opens.1) (append_assoc (lexemes front) (Number (2 ^ 63) ∷ []) opens.0) opens.2);
          none = no_statement end front great.token (λ others statement read. fails_misses end (great.front ++ great.minus ∷ great.token ∷ others) statement (great.fails others) (ap (λ (l : List Item). p (left end l)) (sym (append_assoc great.front (great.minus ∷ []) (great.token ∷ others))) ∙ read));
        };
        signed = record { number = great.number; is = great.is; greatest = opens };
        place = great.place;
      }

  whole_faulty : (end : ℕ) (items : List Item) (at : ℕ) → p (left end items) ≡ Err at → Faulty N p end items at → WholeFault end items at
  whole_faulty end items at read (inl early) = inl (early.opens, λ statement rule. err_no_ok (statement, left end []) at (sym read ∙ whole_read end items statement rule), early.place)
  whole_faulty end items at read (inr (inl stuck)) = inr (inl (stops_stuck end items at stuck))
  whole_faulty end items at read (inr (inr great)) = inr (inr (stops_great end items at great))

  -- a statement is read, and a token stands behind it
  more_stops : (end : ℕ) (items : List Item) (statement : X) (after : Left) (t : Item) (ts : List Item) (r : Reads N p end items statement after) → r.rest ≡ t ∷ ts → StopsAtToken N items t.at
  more_stops end items statement after t ts r is =
      let begins : BeginsPhrase N (lexemes r.front) = ([], statement, subst (λ (l : List Lexeme). N l statement) (sym (append-nil (lexemes r.front))) r.phrase) in
      let misses : (other : Item) (others : List Item) (found : X) → Alike t other → p (left end (r.front ++ other ∷ others)) ≡ Ok (found, left end []) → ⊥ = λ other others found alike read. let same = left_items end (other ∷ others) [] (ok_pair statement found (left end (other ∷ others)) (left end []) (sym (r.stable (other ∷ others) (subst (λ (l : List Item). SameHead l (other ∷ others)) (sym is) alike)) ∙ read)).1 in no_items other others same in
      record {
        front = r.front;
        token = t;
        after = ts;
        split = r.split ∙ ap (λ (l : List Item). r.front ++ l) is;
        stops = record { begins = begins; none = no_statement end r.front t (λ others found. misses t others found (inl refl)) };
        plain = λ signed. no_statement end r.front greatest (λ others found. misses greatest others found (inr (signed.number, signed.is, greatest_is))) (subst (λ (l : Lexeme). BeginsPhrase N (lexemes r.front ++ l ∷ [])) (sym greatest_is) signed.greatest);
        place = refl;
      }

  ended_fault : (end : ℕ) (items : List Item) (statement : X) (after : Left) (rest : List Item) (at : ℕ) (r : Reads N p end items statement after) → r.rest ≡ rest → ended (left end rest) rest statement ≡ Err at → WholeFault end items at
  ended_fault end items statement after [] at r is read = ok_no_err (statement, left end []) at read
  ended_fault end items statement after (t ∷ ts) at r is read = inr (inl (subst (StopsAtToken N items) (same_err {X = X} t.at at read) (more_stops end items statement after t ts r is)))

  fault_read : (end : ℕ) (items : List Item) (at : ℕ) (s : Read X) → p (left end items) ≡ s → (s >>= λ x. ended x.1 x.1.items x.0) ≡ Err at → WholeFault end items at
  fault_read end items at (Ok x) e read =
      let r = exact.sound end items x.0 x.1 e in
      ended_fault end items x.0 x.1 r.rest at r refl (sym (ap (λ (l : Left). ended l l.items x.0) r.after_is) ∙ read)
  fault_read end items at (Err place) e read = let is : p (left end items) ≡ Err at = e ∙ ap (λ (k : ℕ). Err k) (same_err {X = X} place at read) in whole_faulty end items at is (exact.fault end items at is)

  ended_ok : (end : ℕ) (items : List Item) (statement found : X) (after l : Left) (rest : List Item) (r : Reads N p end items statement after) → r.rest ≡ rest → ended (left end rest) rest statement ≡ Ok (found, l) → N (lexemes items) found
  ended_ok end items statement found after l [] r is read =
      let same = (ok_pair statement found (left end []) l read).0 in
      let all : r.front ≡ items = sym (append-nil r.front) ∙ ap (λ (k : List Item). r.front ++ k) (sym is) ∙ sym r.split in
      subst (λ (k : List Item). N (lexemes k) found) all (subst (N (lexemes r.front)) same r.phrase)
  ended_ok end items statement found after l (t ∷ ts) r is read = err_no_ok (found, l) t.at read

  ok_read : (end : ℕ) (items : List Item) (found : X) (l : Left) (s : Read X) → p (left end items) ≡ s → (s >>= λ x. ended x.1 x.1.items x.0) ≡ Ok (found, l) → N (lexemes items) found
  ok_read end items found l (Ok x) e read =
      let r = exact.sound end items x.0 x.1 e in
      ended_ok end items x.0 found x.1 l r.rest r refl (sym (ap (λ (k : Left). ended k k.items x.0) r.after_is) ∙ read)
  ok_read end items found l (Err place) e read = err_no_ok (found, l) place read

  -- what is read is the statement
  pub whole_is : (end : ℕ) (items : List Item) (found : X) → whole_of p end items ≡ Ok found → N (lexemes items) found
  whole_is end items found e = let r = alone_ok (whole_by p (left end items)) found e in ok_read end items found r.0 _ refl r.1

  -- and a fault is the first one
  pub whole_fault : (end : ℕ) (items : List Item) (at : ℕ) → whole_of p end items ≡ Err at → WholeFault end items at
  whole_fault end items at e = fault_read end items at _ refl (alone_err (whole_by p (left end items)) at e)

  pub text_is : (base : ℕ) (text : List ℕ) (items : List Item) (found : X) → AreTokens base text items → whole_of p (base + length text) items ≡ Ok found → IsText N base text found
  text_is base text items found tokens e = record { items = items; tokens = tokens; rule = whole_is (base + length text) items found e }

  -- the tokens are a statement, and something stands behind them that is no token
  pub text_stops : (base at : ℕ) (text : List ℕ) (items : List Item) (found : X) → AreTokensUpTo base text items at → whole_of p at items ≡ Ok found → IsFault N base text at
  text_stops base at text items found stops e = record {
    items = items;
    tokens = inr (at, stops);
    cause = inr (inr (record { stops = stops; begins = ([], found, subst (λ (l : List Lexeme). N l found) (sym (append-nil (lexemes items))) (whole_is at items found e)) }));
  }

  fault_whole : (base at : ℕ) (text : List ℕ) (items : List Item) → AreTokens base text items → WholeFault (base + length text) items at → IsFault N base text at
  fault_whole base at text items tokens (inl early) = record { items = items; tokens = inl tokens; cause = inr (inl (record { tokens = tokens; begins = early.0; none = early.1; place = early.2 })) }
  fault_whole base at text items tokens (inr stops) = record { items = items; tokens = inl tokens; cause = inl stops }

  fault_stops : (base at place : ℕ) (text : List ℕ) (items : List Item) → AreTokensUpTo base text items place → WholeFault place items at → IsFault N base text at
  fault_stops base at place text items stops (inl early) = record { items = items; tokens = inr (place, stops); cause = inr (inr (record { stops = subst (AreTokensUpTo base text items) (sym early.2) stops; begins = early.0 })) }
  fault_stops base at place text items stops (inr cause) = record { items = items; tokens = inr (place, stops); cause = inl cause }

  pub text_fault : (base at : ℕ) (text : List ℕ) (items : List Item) (end : ScanEnd) → EndsSo base text items end → whole_of p (end_of end (base + length text)) items ≡ Err at → IsFault N base text at
  text_fault base at text items Whole tokens e = fault_whole base at text items tokens (whole_fault (base + length text) items at e)
  text_fault base at text items (NoToken place) stops e = fault_stops base at place text items stops (whole_fault place items at e)

  -- the text is a value, or has a fault
  abbrev pub Answer : ℕ → List ℕ → Type 0
  Answer base text = ((value : X) × IsText N base text value) ⊎ ((at : ℕ) × IsFault N base text at)

  of_tokens : (base : ℕ) (text : List ℕ) (items : List Item) (r : Result X ℕ) → AreTokens base text items → whole_of p (base + length text) items ≡ r → Answer base text
  of_tokens base text items (Ok found) tokens e = inl (found, text_is base text items found tokens e)
  of_tokens base text items (Err at) tokens e = inr (at, text_fault base at text items Whole tokens e)

  up_to : (base place : ℕ) (text : List ℕ) (items : List Item) (r : Result X ℕ) → AreTokensUpTo base text items place → whole_of p place items ≡ r → Answer base text
  up_to base place text items (Ok found) stops e = inr (place, text_stops base place text items found stops e)
  up_to base place text items (Err at) stops e = inr (at, text_fault base at text items (NoToken place) stops e)

  pub answer : (base : ℕ) (text : List ℕ) → ((items : List Item) × AreTokens base text items) ⊎ ((items : List Item) × (at : ℕ) × AreTokensUpTo base text items at) → Answer base text
  answer base text (inl t) = of_tokens base text t.0 _ t.1 refl
  answer base text (inr t) = up_to base t.1 text t.0 _ t.2 refl

  -- what parse answers, of the tokens that were found
  module _ (base : ℕ) (text : List ℕ) (items : List Item) (end : ScanEnd) (place : ℕ) (ends : EndsSo base text items end) (place_is : place ≡ end_of end (base + length text)) where
    pub answers_fault : (fault : ParseFault) → FailsAs fault (whole_of p place items) → IfSyntax fault (λ at. IsFault N base text at)
    answers_fault OutOfMemory e = tt
    answers_fault (Syntax at) e = text_fault base at text items end ends (ap (λ (k : ℕ). whole_of p k items) (sym place_is) ∙ e)

    pub answers_statement : (statement : X) → end ≡ Whole → whole_of p place items ≡ Ok statement → IsText N base text statement
    answers_statement statement is e =
        text_is base text items statement (subst (EndsSo base text items) is ends) (ap (λ (k : ℕ). whole_of p k items) (sym (place_is ∙ ap (λ (k : ScanEnd). end_of k (base + length text)) is)) ∙ e)

    pub answers_no_token : (at : ℕ) (statement : X) → end ≡ NoToken at → whole_of p place items ≡ Ok statement → IsFault N base text at
    answers_no_token at statement is e =
        text_stops base at text items statement (subst (EndsSo base text items) is ends) (ap (λ (k : ℕ). whole_of p k items) (sym (place_is ∙ ap (λ (k : ScanEnd). end_of k (base + length text)) is)) ∙ e)
