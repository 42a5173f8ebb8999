-- What is repeated is read exactly, and a loop that reads it.
use Rattle.std.proofs.Common.{◌≡◌, ℕ, zero, suc, ◌^◌, ◌≤◌, Bool, false, ◌||◌, List, [], ◌∷◌, ◌++◌, length, Option, None, Some, Ok, Err, refl, sym, ap, subst, ◌∙◌, inl, inr, arith, append_assoc, length-append}
use Rattle.std.specs.Prelude.{is_some}
use Rattle.std.proofs.lemmas.List.{map-append, append-nil}
use Rattle.sql_lex.specs.Spelling.{Lexeme, Number}
use Rattle.sql_lex.specs.Tokens.{Item}
use Rattle.sql_parse.specs.Phrases.{Phrase, One, Then, Repeated}
use Rattle.sql_parse.specs.Reading.{Left, Read, ◌>>=◌, repeated_step, repeated_from, repeated_at}
use Rattle.sql_parse.proofs.Exact.{lexemes, left, Fails, Opens, Ends, SameHead, Reads, Faulty, Exact, IsQuiet, alike_same, head_behind, head_token, parts, ok_pair, ok_no_err, err_no_ok, same_err}
use Rattle.sql_lex.proofs.Literals.{or_false}
use Rattle.sql_parse.proofs.Choices.{next, next_same, none_of}

module _ {S X Z : Type 0} (test : Lexeme → Option S) (join : S → X → Z) (p : Left → Read X) where
  abbrev more : Z → List Z × Left → Read (List Z)
  more z zs = Ok (z ∷ zs.0, zs.1)

  -- no further one
  pub repeated_none : (n end : ℕ) (items : List Item) → next test items ≡ None → repeated_from test join p n (left end items) ≡ Ok ([], left end items)
  repeated_none zero end items e = refl
  repeated_none (suc n) end items e = rw e refl

  -- one further
  pub repeated_some : (n end : ℕ) (t : Item) (ts : List Item) (s : S) (x : X) (after : Left) → test t.lexeme ≡ Some s → p (left end ts) ≡ Ok (x, after) → repeated_from test join p (suc n) (left end (t ∷ ts)) ≡ (repeated_from test join p n after >>= more (join s x))
  repeated_some n end t ts s x after e read = rw (e, read) refl

  -- one further that is faulty
  pub repeated_fails : (n end : ℕ) (t : Item) (ts : List Item) (s : S) (at : ℕ) → test t.lexeme ≡ Some s → p (left end ts) ≡ Err at → repeated_from test join p (suc n) (left end (t ∷ ts)) ≡ Err at
  repeated_fails n end t ts s at e read = rw (e, read) refl

module _ {S X Z : Type 0} (test : Lexeme → Option S) (join : S → X → Z) (N : Phrase X) (p : Left → Read X) (g : Lexeme → Bool) (exact : Exact N p g) (quiet : IsQuiet test) where
  abbrev again : ℕ → Left → Read (List Z)
  again n l = repeated_from test join p n l

  abbrev goes : Lexeme → Bool
  goes l = is_some (test l) || g l

  -- found at the front, with any fuel that is enough, and whatever follows
  record Found (end : ℕ) (items : List Item) (values : List Z) (after : Left) : Type 0 where
    front : List Item
    rest : List Item
    split : items ≡ front ++ rest
    after_is : after ≡ left end rest
    phrase : Repeated test join N (lexemes front) values
    stable : (others : List Item) (m : ℕ) → SameHead rest others → length (front ++ others) ≤ m → again m (left end (front ++ others)) ≡ Ok (values, left end others)

  found_none : (end : ℕ) (items : List Item) (values : List Z) (after : Left) → next test items ≡ None → ◌≡◌ {A = Read (List Z)} (Ok ([], left end items)) (Ok (values, after)) → Found end items values after
  found_none end items values after e read =
      let pair = ok_pair [] values (left end items) after read in
      record {
        front = [];
        rest = items;
        split = refl;
        after_is = sym pair.1;
        phrase = subst (λ (v : List Z). Repeated test join N [] v) pair.0 refl;
        stable = λ others m same enough. repeated_none test join p m end others (next_same test quiet [] items others same ∙ e) ∙ ap (λ (v : List Z). Ok (v, left end others)) pair.0;
      }

  one_then : (t : Item) (front : List Item) (s : S) (x : X) → test t.lexeme ≡ Some s → N (lexemes front) x → Then join (One test) N (lexemes (t ∷ front)) (join s x)
  one_then t front s x e n = record { front = t.lexeme ∷ []; back = lexemes front; first = s; second = x; split = refl; begins = record { token = t.lexeme; only = refl; passes = e }; goes_on = n; is = refl }

  repeated_more : (t : Item) (front back : List Item) (s : S) (x : X) (values : List Z) → test t.lexeme ≡ Some s → N (lexemes front) x → Repeated test join N (lexemes back) values → Repeated test join N (lexemes (t ∷ (front ++ back))) (join s x ∷ values)
  repeated_more t front back s x values e n rest = (lexemes (t ∷ front), lexemes back, map-append (λ (i : Item). i.lexeme) (t ∷ front) back, one_then t front s x e n, rest)

  stable_some : (m end : ℕ) (t : Item) (front back others : List Item) (s : S) (x : X) (values : List Z) → test t.lexeme ≡ Some s → p (left end (front ++ (back ++ others))) ≡ Ok (x, left end (back ++ others)) → ((k : ℕ) → length (back ++ others) ≤ k → again k (left end (back ++ others)) ≡ Ok (values, left end others)) → length (t ∷ ((front ++ back) ++ others)) ≤ m → again m (left end (t ∷ ((front ++ back) ++ others))) ≡ Ok (join s x ∷ values, left end others)
  stable_some zero end t front back others s x values e read rest enough = absurd (omega arith)
  stable_some (suc k) end t front back others s x values e read rest enough =
      ap (λ (l : List Item). again (suc k) (left end (t ∷ l))) (append_assoc front back others) ∙ repeated_some test join p k end t (front ++ (back ++ others)) s x (left end (back ++ others)) e read ∙ ap (λ (r : Read (List Z)). r >>= more test join p (join s x)) (rest k (omega (arith, length-append (front ++ back) others, length-append front back, length-append back others)))

  found_some : (end : ℕ) (t : Item) (ts : List Item) (s : S) (x : X) (between : Left) (values : List Z) (after : Left) → test t.lexeme ≡ Some s → (r : Reads N p end ts x between) → Found end r.rest values after → Found end (t ∷ ts) (join s x ∷ values) after
  found_some end t ts s x between values after e r f = record {
    front = t ∷ (r.front ++ f.front);
    rest = f.rest;
    split = ap (λ (l : List Item). t ∷ l) (r.split ∙ ap (λ (l : List Item). r.front ++ l) f.split ∙ sym (append_assoc r.front f.front f.rest));
    after_is = f.after_is;
    phrase = repeated_more t r.front f.front s x values e r.phrase f.phrase;
    stable = λ others m same enough.
        let head : SameHead r.rest (f.front ++ others) = subst (λ (l : List Item). SameHead l (f.front ++ others)) (sym f.split) (head_behind f.front f.rest others same) in
        stable_some m end t r.front f.front others s x values e (r.stable (f.front ++ others) head) (λ k enough. f.stable others k same enough) enough;
  }

  shorter : (end : ℕ) (items : List Item) (x : X) (after : Left) (r : Reads N p end items x after) → length r.rest ≤ length items
  shorter end items x after r = omega (arith, ap length r.split, length-append r.front r.rest)

  -- the values of one further step
  record Further (n : ℕ) (end : ℕ) (ts : List Item) (s : S) (values : List Z) (after : Left) : Type 0 where
    x : X
    between : Left
    others : List Z
    first : p (left end ts) ≡ Ok (x, between)
    rest : again n between ≡ Ok (others, after)
    is : values ≡ join s x ∷ others

  further_rest : (n end : ℕ) (ts : List Item) (s : S) (x : X) (between : Left) (values : List Z) (after : Left) (r : Read (List Z)) → p (left end ts) ≡ Ok (x, between) → again n between ≡ r → (r >>= λ zs. Ok (join s x ∷ zs.0, zs.1)) ≡ Ok (values, after) → Further n end ts s values after
  further_rest n end ts s x between values after (Ok zs) first rest read =
      let pair = ok_pair (join s x ∷ zs.0) values zs.1 after read in
      record { x = x; between = between; others = zs.0; first = first; rest = rest ∙ ap (λ (l : Left). Ok (zs.0, l)) pair.1; is = sym pair.0 }
  further_rest n end ts s x between values after (Err at) first rest read = err_no_ok (values, after) at read

  further : (n end : ℕ) (ts : List Item) (s : S) (values : List Z) (after : Left) (r : Read X) → p (left end ts) ≡ r → (r >>= λ x. (again n x.1 >>= λ zs. Ok (join s x.0 ∷ zs.0, zs.1))) ≡ Ok (values, after) → Further n end ts s values after
  further n end ts s values after (Ok x) first read = further_rest n end ts s x.0 x.1 values after _ first refl read
  further n end ts s values after (Err at) first read = err_no_ok (values, after) at read

  found_step : (n end : ℕ) (t : Item) (ts : List Item) (values : List Z) (after : Left) (o : Option S) → ((items : List Item) (values : List Z) (after : Left) → length items ≤ n → again n (left end items) ≡ Ok (values, after) → Found end items values after) → length ts ≤ n → test t.lexeme ≡ o → repeated_step join p o (repeated_from test join p n) (left end (t ∷ ts)) ≡ Ok (values, after) → Found end (t ∷ ts) values after
  found_step n end t ts values after None rec enough e read = found_none end (t ∷ ts) values after e read
  found_step n end t ts values after (Some s) rec enough e read =
      let f = further n end ts s values after _ refl read in
      let r = exact.sound end ts f.x f.between f.first in
      let deeper = rec r.rest f.others after (omega (arith, shorter end ts f.x f.between r)) (ap (again n) (sym r.after_is) ∙ f.rest) in
      subst (λ (v : List Z). Found end (t ∷ ts) v after) (sym f.is) (found_some end t ts s f.x f.between f.others after e r deeper)

  found : (n end : ℕ) (items : List Item) (values : List Z) (after : Left) → length items ≤ n → again n (left end items) ≡ Ok (values, after) → Found end items values after
  found n end [] values after enough read = found_none end [] values after refl (sym (repeated_none test join p n end [] refl) ∙ read)
  found zero end (t ∷ ts) values after enough read = absurd (omega arith)
  found (suc n) end (t ∷ ts) values after enough read = found_step n end t ts values after (test t.lexeme) (λ items values after. found n end items values after) (omega arith) refl read

  repeated_sound : (end : ℕ) (items : List Item) (values : List Z) (after : Left) → repeated_at test join p (left end items) ≡ Ok (values, after) → Reads (Repeated test join N) (repeated_at test join p) end items values after
  repeated_sound end items values after read =
      let f = found (length items) end items values after (omega arith) read in
      record { front = f.front; rest = f.rest; split = f.split; after_is = f.after_is; phrase = f.phrase; stable = λ others same. f.stable others (length (f.front ++ others)) same (omega arith) }

  -- fuel that is enough is as good as any other
  fuel_step : (n m end : ℕ) (ts : List Item) (s : S) (r : Read X) → ((items : List Item) → length items ≤ n → length items ≤ m → again n (left end items) ≡ again m (left end items)) → length ts ≤ n → length ts ≤ m → p (left end ts) ≡ r → (r >>= λ x. (again n x.1 >>= λ zs. Ok (join s x.0 ∷ zs.0, zs.1))) ≡ (r >>= λ x. (again m x.1 >>= λ zs. Ok (join s x.0 ∷ zs.0, zs.1)))
  fuel_step n m end ts s (Err at) rec a b read = refl
  fuel_step n m end ts s (Ok x) rec a b read =
      let r = exact.sound end ts x.0 x.1 read in
      let len = shorter end ts x.0 x.1 r in
      let same : again n x.1 ≡ again m x.1 = ap (again n) r.after_is ∙ rec r.rest (omega arith) (omega arith) ∙ ap (again m) (sym r.after_is) in
      ap (λ (o : Read (List Z)). o >>= λ zs. Ok (join s x.0 ∷ zs.0, zs.1)) same

  fuel_test : (n m end : ℕ) (t : Item) (ts : List Item) (o : Option S) → ((items : List Item) → length items ≤ n → length items ≤ m → again n (left end items) ≡ again m (left end items)) → length ts ≤ n → length ts ≤ m → repeated_step join p o (repeated_from test join p n) (left end (t ∷ ts)) ≡ repeated_step join p o (repeated_from test join p m) (left end (t ∷ ts))
  fuel_test n m end t ts None rec a b = refl
  fuel_test n m end t ts (Some s) rec a b = fuel_step n m end ts s _ rec a b refl

  pub fuel : (n m end : ℕ) (items : List Item) → length items ≤ n → length items ≤ m → again n (left end items) ≡ again m (left end items)
  fuel n m end [] a b = repeated_none test join p n end [] refl ∙ sym (repeated_none test join p m end [] refl)
  fuel zero m end (t ∷ ts) a b = absurd (omega arith)
  fuel (suc n) zero end (t ∷ ts) a b = absurd (omega arith)
  fuel (suc n) (suc m) end (t ∷ ts) a b = fuel_test n m end t ts (test t.lexeme) (λ items a b. fuel n m end items a b) (omega arith) (omega arith)

  opens_one : (token : Lexeme) (s : S) (front : List Lexeme) → test token ≡ Some s → Opens N front → Opens (Repeated test join N) (token ∷ front)
  opens_one token s front e opens = (
    opens.0,
    join s opens.1 ∷ [],
    (token ∷ (front ++ opens.0), [], sym (append-nil (token ∷ (front ++ opens.0))), record { front = token ∷ []; back = front ++ opens.0; first = s; second = opens.1; split = refl; begins = record { token = token; only = refl; passes = e }; goes_on = opens.2; is = refl }, refl),
  )

  opens_further : (t : Item) (front : List Item) (back : List Lexeme) (s : S) (x : X) → test t.lexeme ≡ Some s → N (lexemes front) x → Opens (Repeated test join N) back → Opens (Repeated test join N) (lexemes (t ∷ front) ++ back)
  opens_further t front back s x e n opens = (opens.0, join s x ∷ opens.1, (lexemes (t ∷ front), back ++ opens.0, append_assoc (lexemes (t ∷ front)) back opens.0, one_then t front s x e n, opens.2))

  abbrev all : Left → Read (List Z)
  all l = repeated_at test join p l

  fails_first : (end : ℕ) (t : Item) (ts : List Item) (s : S) → test t.lexeme ≡ Some s → Fails (p (left end ts)) → Fails (all (left end (t ∷ ts)))
  fails_first end t ts s e fails = (fails.0, repeated_fails test join p (length ts) end t ts s fails.0 e fails.1)

  fails_further : (end : ℕ) (t : Item) (front back : List Item) (s : S) (x : X) → test t.lexeme ≡ Some s → p (left end (front ++ back)) ≡ Ok (x, left end back) → Fails (all (left end back)) → Fails (all (left end (t ∷ (front ++ back))))
  fails_further end t front back s x e read fails =
      let deeper : again (length (front ++ back)) (left end back) ≡ Err fails.0 = fuel (length (front ++ back)) (length back) end back (omega (arith, length-append front back)) (omega arith) ∙ fails.1 in
      (fails.0, repeated_some test join p (length (front ++ back)) end t (front ++ back) s x (left end back) e read ∙ ap (λ (r : Read (List Z)). r >>= more test join p (join s x)) deeper)

  fault_first : (end : ℕ) (t : Item) (ts : List Item) (s : S) (at : ℕ) → test t.lexeme ≡ Some s → Faulty N p end ts at → Faulty (Repeated test join N) all end (t ∷ ts) at
  fault_first end t ts s at e (inl early) = inl (record { opens = opens_one t.lexeme s (lexemes ts) e early.opens; place = early.place })
  fault_first end t ts s at e (inr (inl stuck)) = inr (inl (record {
    front = t ∷ stuck.front;
    token = stuck.token;
    after = stuck.after;
    split = ap (λ (l : List Item). t ∷ l) stuck.split;
    opens = opens_one t.lexeme s (lexemes stuck.front) e stuck.opens;
    place = stuck.place;
    fails = λ other others alike. fails_first end t (stuck.front ++ other ∷ others) s e (stuck.fails other others alike);
  }))
  fault_first end t ts s at e (inr (inr great)) = inr (inr (record {
    front = t ∷ great.front;
    minus = great.minus;
    token = great.token;
    after = great.after;
    number = great.number;
    split = ap (λ (l : List Item). t ∷ l) great.split;
    is = great.is;
    opens = opens_one t.lexeme s (lexemes great.front ++ great.minus.lexeme ∷ Number (2 ^ 63) ∷ []) e great.opens;
    place = great.place;
    fails = λ others. fails_first end t (great.front ++ great.minus ∷ great.token ∷ others) s e (great.fails others);
  }))

  regrouped : (end : ℕ) (t : Item) (a b c : List Item) → Fails (all (left end (t ∷ (a ++ (b ++ c))))) → Fails (all (left end (t ∷ ((a ++ b) ++ c))))
  regrouped end t a b c fails = subst (λ (l : List Item). Fails (all (left end (t ∷ l)))) (sym (append_assoc a b c)) fails

  fault_further : (end : ℕ) (t : Item) (ts : List Item) (s : S) (x : X) (between : Left) (at : ℕ) → test t.lexeme ≡ Some s → (r : Reads N p end ts x between) → Faulty (Repeated test join N) all end r.rest at → Faulty (Repeated test join N) all end (t ∷ ts) at
  fault_further end t ts s x between at e r (inl early) = inl (record {
    opens = subst (λ (l : List Item). Opens (Repeated test join N) (t.lexeme ∷ lexemes l)) (sym r.split) (subst (λ (l : List Lexeme). Opens (Repeated test join N) (t.lexeme ∷ l)) (sym (map-append (λ (i : Item). i.lexeme) r.front r.rest)) (opens_further t r.front (lexemes r.rest) s x e r.phrase early.opens));
    place = early.place;
  })
  fault_further end t ts s x between at e r (inr (inl stuck)) = inr (inl (record {
    front = t ∷ (r.front ++ stuck.front);
    token = stuck.token;
    after = stuck.after;
    split = ap (λ (l : List Item). t ∷ l) (r.split ∙ ap (λ (l : List Item). r.front ++ l) stuck.split ∙ sym (append_assoc r.front stuck.front (stuck.token ∷ stuck.after)));
    opens = subst (λ (l : List Lexeme). Opens (Repeated test join N) (t.lexeme ∷ l)) (sym (map-append (λ (i : Item). i.lexeme) r.front stuck.front)) (opens_further t r.front (lexemes stuck.front) s x e r.phrase stuck.opens);
    place = stuck.place;
    fails = λ other others alike.
        let follows = stuck.front ++ other ∷ others in
        let same : SameHead r.rest follows = subst (λ (l : List Item). SameHead l follows) (sym stuck.split) (head_token stuck.front stuck.token other stuck.after others alike) in
        regrouped end t r.front stuck.front (other ∷ others) (fails_further end t r.front follows s x e (r.stable follows same) (stuck.fails other others alike));
  }))
  fault_further end t ts s x between at e r (inr (inr great)) = inr (inr (record {
    front = t ∷ (r.front ++ great.front);
    minus = great.minus;
    token = great.token;
    after = great.after;
    number = great.number;
    split = ap (λ (l : List Item). t ∷ l) (r.split ∙ ap (λ (l : List Item). r.front ++ l) great.split ∙ sym (append_assoc r.front great.front (great.minus ∷ great.token ∷ great.after)));
    is = great.is;
    opens = subst (λ (l : List Lexeme). Opens (Repeated test join N) (t.lexeme ∷ l)) (sym (ap (λ (l : List Lexeme). l ++ great.minus.lexeme ∷ Number (2 ^ 63) ∷ []) (map-append (λ (i : Item). i.lexeme) r.front great.front) ∙ append_assoc (lexemes r.front) (lexemes great.front) (great.minus.lexeme ∷ Number (2 ^ 63) ∷ []))) (opens_further t r.front (lexemes great.front ++ great.minus.lexeme ∷ Number (2 ^ 63) ∷ []) s x e r.phrase great.opens);
    place = great.place;
    fails = λ others.
        let follows = great.front ++ great.minus ∷ great.token ∷ others in
        let same : SameHead r.rest follows = subst (λ (l : List Item). SameHead l follows) (sym great.split) (head_token great.front great.minus great.minus (great.token ∷ great.after) (great.token ∷ others) (alike_same great.minus)) in
        regrouped end t r.front great.front (great.minus ∷ great.token ∷ others) (fails_further end t r.front follows s x e (r.stable follows same) (great.fails others));
  }))

  fault_rest : (n end : ℕ) (t : Item) (ts : List Item) (s : S) (x : X × Left) (at : ℕ) (r : Read (List Z)) → ((items : List Item) (at : ℕ) → length items ≤ n → again n (left end items) ≡ Err at → Faulty (Repeated test join N) all end items at) → length ts ≤ n → test t.lexeme ≡ Some s → p (left end ts) ≡ Ok x → again n x.1 ≡ r → (r >>= λ zs. Ok (join s x.0 ∷ zs.0, zs.1)) ≡ Err at → Faulty (Repeated test join N) all end (t ∷ ts) at
  fault_rest n end t ts s x at (Ok zs) rec enough e first rest read = ok_no_err (join s x.0 ∷ zs.0, zs.1) at read
  fault_rest n end t ts s x at (Err place) rec enough e first rest read =
      let r = exact.sound end ts x.0 x.1 first in
      let len = shorter end ts x.0 x.1 r in
      fault_further end t ts s x.0 x.1 at e r (rec r.rest at (omega arith) (ap (again n) (sym r.after_is) ∙ rest ∙ ap (λ (k : ℕ). Err k) (same_err {X = List Z} place at read)))

  fault_some : (n end : ℕ) (t : Item) (ts : List Item) (s : S) (at : ℕ) (r : Read X) → ((items : List Item) (at : ℕ) → length items ≤ n → again n (left end items) ≡ Err at → Faulty (Repeated test join N) all end items at) → length ts ≤ n → test t.lexeme ≡ Some s → p (left end ts) ≡ r → (r >>= λ x. (again n x.1 >>= λ zs. Ok (join s x.0 ∷ zs.0, zs.1))) ≡ Err at → Faulty (Repeated test join N) all end (t ∷ ts) at
  fault_some n end t ts s at (Ok x) rec enough e first read = fault_rest n end t ts s x at _ rec enough e first refl read
  fault_some n end t ts s at (Err place) rec enough e first read = fault_first end t ts s at e (exact.fault end ts at (first ∙ ap (λ (k : ℕ). Err k) (same_err {X = List Z} place at read)))

  fault_step : (n end : ℕ) (t : Item) (ts : List Item) (at : ℕ) (o : Option S) → ((items : List Item) (at : ℕ) → length items ≤ n → again n (left end items) ≡ Err at → Faulty (Repeated test join N) all end items at) → length ts ≤ n → test t.lexeme ≡ o → repeated_step join p o (repeated_from test join p n) (left end (t ∷ ts)) ≡ Err at → Faulty (Repeated test join N) all end (t ∷ ts) at
  fault_step n end t ts at None rec enough e read = ok_no_err ([], left end (t ∷ ts)) at read
  fault_step n end t ts at (Some s) rec enough e read = fault_some n end t ts s at _ rec enough e refl read

  faulty : (n end : ℕ) (items : List Item) (at : ℕ) → length items ≤ n → again n (left end items) ≡ Err at → Faulty (Repeated test join N) all end items at
  faulty n end [] at enough read = ok_no_err ([], left end []) at (sym (repeated_none test join p n end [] refl) ∙ read)
  faulty zero end (t ∷ ts) at enough read = absurd (omega arith)
  faulty (suc n) end (t ∷ ts) at enough read = fault_step n end t ts at (test t.lexeme) (λ items at. faulty n end items at) (omega arith) refl read

  none_left : (items : List Item) → lexemes items ≡ [] → items ≡ []
  none_left [] e = refl
  none_left (t ∷ ts) e = absurd (cc)

  ends_parts : (rest : List Item) → Ends goes rest → (next test rest ≡ None) × Ends g rest
  ends_parts [] ends = (refl, tt)
  ends_parts (t ∷ ts) ends = let both = or_false (is_some (test t.lexeme)) (g t.lexeme) ends in (none_of (test t.lexeme) both.0, both.1)

  -- the token that begins a step
  record Begun (front : List Item) (z : Z) : Type 0 where
    token : Item
    others : List Item
    s : S
    x : X
    split : front ≡ token ∷ others
    passes : test token.lexeme ≡ Some s
    phrase : N (lexemes others) x
    is : z ≡ join s x

  head_of : (x y : Lexeme) (xs ys : List Lexeme) → ◌≡◌ {A = List Lexeme} (x ∷ xs) (y ∷ ys) → (x ≡ y) × (xs ≡ ys)
  head_of x y xs ys e = (cc, cc)

  begun : (front : List Item) (z : Z) → Then join (One test) N (lexemes front) z → Begun front z
  begun [] z t = absurd (let e : [] ≡ t.begins.token ∷ t.back = t.split ∙ ap (λ (l : List Lexeme). l ++ t.back) t.begins.only in cc)
  begun (c ∷ cs) z t =
      let e = head_of c.lexeme t.begins.token (lexemes cs) t.back (t.split ∙ ap (λ (l : List Lexeme). l ++ t.back) t.begins.only) in
      record { token = c; others = cs; s = t.first; x = t.second; split = refl; passes = ap test e.0 ∙ t.begins.passes; phrase = subst (λ (l : List Lexeme). N l t.second) (sym e.1) t.goes_on; is = t.is }

  module _ (apart : (l : Lexeme) (s : S) → test l ≡ Some s → g l ≡ false) where
    pub ends_behind : (back rest : List Item) (values : List Z) → Repeated test join N (lexemes back) values → Ends goes rest → Ends g (back ++ rest)
    ends_behind [] rest values r ends = (ends_parts rest ends).1
    ends_behind (c ∷ cs) rest [] r ends = absurd (let e : c.lexeme ∷ lexemes cs ≡ [] = r in cc)
    ends_behind (c ∷ cs) rest (z ∷ zs) r ends =
        let part = parts (c ∷ cs) r.0 r.1 r.2 in
        let b = begun part.front z (subst (λ (l : List Lexeme). Then join (One test) N l z) (sym part.front_is) r.3) in
        let e : c.lexeme ≡ b.token.lexeme = (head_of c.lexeme b.token.lexeme (lexemes cs) (lexemes b.others ++ lexemes part.back) (ap lexemes (part.split ∙ ap (λ (l : List Item). l ++ part.back) b.split) ∙ ap (λ (l : List Lexeme). b.token.lexeme ∷ l) (map-append (λ (i : Item). i.lexeme) b.others part.back))).0 in
        apart c.lexeme b.s (ap test e ∙ b.passes)

    complete_some : (n end : ℕ) (front back rest : List Item) (z : Z) (zs : List Z) → Begun front z → Ends g (back ++ rest) → ((k : ℕ) → length (back ++ rest) ≤ k → again k (left end (back ++ rest)) ≡ Ok (zs, left end rest)) → length ((front ++ back) ++ rest) ≤ n → again n (left end ((front ++ back) ++ rest)) ≡ Ok (z ∷ zs, left end rest)
    complete_some n end front back rest z zs b ends rec enough =
        let e : (front ++ back) ++ rest ≡ b.token ∷ ((b.others ++ back) ++ rest) = ap (λ (l : List Item). (l ++ back) ++ rest) b.split in
        ap (λ (l : List Item). again n (left end l)) e ∙ stable_some n end b.token b.others back rest b.s b.x zs b.passes (exact.complete end b.others (back ++ rest) b.x b.phrase ends) rec (subst (λ (l : List Item). length l ≤ n) e enough) ∙ ap (λ (v : Z). Ok (v ∷ zs, left end rest)) (sym b.is)

    complete : (n end : ℕ) (front rest : List Item) (values : List Z) → Repeated test join N (lexemes front) values → Ends goes rest → length (front ++ rest) ≤ n → again n (left end (front ++ rest)) ≡ Ok (values, left end rest)
    complete n end front rest [] r ends enough = let e = none_left front r in ap (λ (l : List Item). again n (left end (l ++ rest))) e ∙ repeated_none test join p n end rest (ends_parts rest ends).0
    complete n end front rest (z ∷ zs) r ends enough =
        let part = parts front r.0 r.1 r.2 in
        let b = begun part.front z (subst (λ (l : List Lexeme). Then join (One test) N l z) (sym part.front_is) r.3) in
        let deeper : Repeated test join N (lexemes part.back) zs = subst (λ (l : List Lexeme). Repeated test join N l zs) (sym part.back_is) r.4 in
        ap (λ (l : List Item). again n (left end (l ++ rest))) part.split ∙ complete_some n end part.front part.back rest z zs b (ends_behind part.back rest zs deeper ends) (λ k enough. complete k end part.back rest zs deeper ends enough) (subst (λ (l : List Item). length (l ++ rest) ≤ n) part.split enough)

    pub repeated_exact : Exact (Repeated test join N) all goes
    repeated_exact = record {
      complete = λ end front rest values r ends. complete (length (front ++ rest)) end front rest values r ends (omega arith);
      sound = repeated_sound;
      fault = λ end items at e. faulty (length items) end items at (omega arith) e;
      whole = ([], [], refl);
    }

-- the values so far before those that are read
abbrev pub with_front : {Z : Type 0} → List Z → Read (List Z) → Read (List Z)
with_front front read = read >>= λ zs. Ok (front ++ zs.0, zs.1)

abbrev pub Looped : {S X Z : Type 0} → (Lexeme → Option S) → (S → X → Z) → (Left → Read X) → Read (List Z) → List Z → Left → Type 0
Looped test join p whole values l = with_front values (repeated_at test join p l) ≡ whole
