-- When a reader reads a phrase exactly, and that this is kept by what phrases are put together of.
use Rattle.std.proofs.Common.{◌≡◌, ℕ, ◌^◌, Bool, false, List, [], ◌∷◌, ◌++◌, map, Option, None, Some, Ok, Err, refl, sym, ap, subst, ◌∙◌, ◌⊎◌, inl, inr, append_assoc}
use Rattle.std.proofs.lemmas.List.{map-append}
use Rattle.sql_lex.specs.Spelling.{Lexeme, Number}
use Rattle.sql_lex.specs.Tokens.{Item}
use Rattle.sql_parse.specs.Phrases.{Phrase, One, Nothing, Then}
use Rattle.sql_parse.specs.Reading.{Left, Read, ◌>>=◌, taken, one_at, nothing_at, then_at}

-- what the items are
abbrev pub lexemes : List Item → List Lexeme
lexemes items = map (λ (i : Item). i.lexeme) items

abbrev pub left : ℕ → List Item → Left
left end items = record { end = end; items = items }

-- the reader finds a fault
abbrev pub Fails : {X : Type 0} → Read X → Type 0
Fails read = (at : ℕ) × (read ≡ Err at)

-- the tokens begin the phrase
abbrev pub Opens : {X : Type 0} → Phrase X → List Lexeme → Type 0
Opens {X} N front = (more : List Lexeme) × (value : X) × N (front ++ more) value

-- the first of them doesn't continue the phrase
abbrev pub Ends : (Lexeme → Bool) → List Item → Type 0
Ends goes [] = Unit {0}
Ends goes (t ∷ ts) = goes t.lexeme ≡ false

-- the same token, or 2 ^ 63 in place of a number
abbrev pub Alike : Item → Item → Type 0
Alike t u = (u ≡ t) ⊎ ((n : ℕ) × (t.lexeme ≡ Number n) × (u.lexeme ≡ Number (2 ^ 63)))

-- both are empty, or begin alike
abbrev pub SameHead : List Item → List Item → Type 0
SameHead [] us = us ≡ []
SameHead (t ∷ ts) [] = ⊥
SameHead (t ∷ ts) (u ∷ us) = Alike t u

-- the reader finds the phrase at the front, and would find it whatever follows the next token
pub record Reads {X : Type 0} (N : Phrase X) (p : Left → Read X) (end : ℕ) (items : List Item) (value : X) (after : Left) : Type 0 where
  pub front : List Item
  pub rest : List Item
  pub split : items ≡ front ++ rest
  pub after_is : after ≡ left end rest
  pub phrase : N (lexemes front) value
  pub stable : (others : List Item) → SameHead rest others → p (left end (front ++ others)) ≡ Ok (value, left end others)

-- the tokens begin the phrase, and then the text ends
pub record Early {X : Type 0} (N : Phrase X) (end : ℕ) (items : List Item) (at : ℕ) : Type 0 where
  pub opens : Opens N (lexemes items)
  pub place : at ≡ end

-- the tokens begin the phrase up to one with which none continues
pub record Stuck {X : Type 0} (N : Phrase X) (p : Left → Read X) (end : ℕ) (items : List Item) (at : ℕ) : Type 0 where
  pub front : List Item
  pub token : Item
  pub after : List Item
  pub split : items ≡ front ++ token ∷ after
  pub opens : Opens N (lexemes front)
  pub place : at ≡ token.at
  pub fails : (other : Item) (others : List Item) → Alike token other → Fails (p (left end (front ++ other ∷ others)))

-- the tokens begin the phrase up to a number that is too great for its sign
pub record TooGreat {X : Type 0} (N : Phrase X) (p : Left → Read X) (end : ℕ) (items : List Item) (at : ℕ) : Type 0 where
  pub front : List Item
  pub minus : Item
  pub token : Item
  pub after : List Item
  pub number : ℕ
  pub split : items ≡ front ++ minus ∷ token ∷ after
  pub is : token.lexeme ≡ Number number
  pub opens : Opens N (lexemes front ++ minus.lexeme ∷ Number (2 ^ 63) ∷ [])
  pub place : at ≡ minus.at
  pub fails : (others : List Item) → Fails (p (left end (front ++ minus ∷ token ∷ others)))

abbrev pub Faulty : {X : Type 0} → Phrase X → (Left → Read X) → ℕ → List Item → ℕ → Type 0
Faulty N p end items at = Early N end items at ⊎ (Stuck N p end items at ⊎ TooGreat N p end items at)

-- the reader reads the phrase exactly, where what follows doesn't continue it
pub record Exact {X : Type 0} (N : Phrase X) (p : Left → Read X) (goes : Lexeme → Bool) : Type 0 where
  pub complete : (end : ℕ) (front rest : List Item) (value : X) → N (lexemes front) value → Ends goes rest → p (left end (front ++ rest)) ≡ Ok (value, left end rest)
  pub sound : (end : ℕ) (items : List Item) (value : X) (after : Left) → p (left end items) ≡ Ok (value, after) → Reads N p end items value after
  pub fault : (end : ℕ) (items : List Item) (at : ℕ) → p (left end items) ≡ Err at → Faulty N p end items at
  pub whole : Opens N []

abbrev pub never : Lexeme → Bool
never _ = false

pub Ends-never : (items : List Item) → Ends never items
Ends-never [] = tt
Ends-never (t ∷ ts) = refl

-- a test that no number passes
abbrev pub IsQuiet : {S : Type 0} → (Lexeme → Option S) → Type 0
IsQuiet test = (n : ℕ) → test (Number n) ≡ None

value_of : {X : Type 0} → X × Left → Read X → X × Left
value_of default (Ok x) = x
value_of default (Err at) = default

pub ok_pair : {X : Type 0} (x y : X) (l r : Left) → ◌≡◌ {A = Read X} (Ok (x, l)) (Ok (y, r)) → (x ≡ y) × (l ≡ r)
unfolding value_of
ok_pair {X} x y l r e = (ap (λ (o : Read X). (value_of (x, l) o).0) e, ap (λ (o : Read X). (value_of (x, l) o).1) e)

pub ok_no_err : {X : Type 0} {P : Type 0} (x : X × Left) (at : ℕ) → ◌≡◌ {A = Read X} (Ok x) (Err at) → P
ok_no_err x at e = absurd (cc)

pub err_no_ok : {X : Type 0} {P : Type 0} (x : X × Left) (at : ℕ) → ◌≡◌ {A = Read X} (Err at) (Ok x) → P
err_no_ok x at e = absurd (cc)

err_at : {X : Type 0} → Read X → ℕ → ℕ
err_at (Ok x) default = default
err_at (Err at) default = at

pub same_err : {X : Type 0} (at place : ℕ) → ◌≡◌ {A = Read X} (Err at) (Err place) → at ≡ place
unfolding err_at
same_err {X} at place e = ap (λ (o : Read X). err_at o at) e

-- of the test at a token alike
alike_test : {S : Type 0} (test : Lexeme → Option S) → test (Number (2 ^ 63)) ≡ None → (t u : Item) → Alike t u → test t.lexeme ≡ None → test u.lexeme ≡ None
alike_test test quiet t u (inl e) none = ap (λ (i : Item). test i.lexeme) e ∙ none
alike_test test quiet t u (inr n) none = ap test n.2 ∙ quiet

module _ {X : Type 0} (test : Lexeme → Option X) (quiet : test (Number (2 ^ 63)) ≡ None) where
  taken_some : (end : ℕ) (t : Item) (ts : List Item) (x : X) → test t.lexeme ≡ Some x → one_at test (left end (t ∷ ts)) ≡ Ok (x, left end ts)
  taken_some end t ts x e = rw e refl

  taken_none : (end : ℕ) (t : Item) (ts : List Item) → test t.lexeme ≡ None → one_at test (left end (t ∷ ts)) ≡ Err t.at
  taken_none end t ts e = rw e refl

  one_complete : (end : ℕ) (front rest : List Item) (value : X) → One test (lexemes front) value → Ends never rest → one_at test (left end (front ++ rest)) ≡ Ok (value, left end rest)
  one_complete end [] rest value one ends = absurd (let e = one.only in cc)
  one_complete end (t ∷ []) rest value one ends = let same : t.lexeme ≡ one.token = cc (one.only) in taken_some end t rest value (ap test same ∙ one.passes)
  one_complete end (t ∷ u ∷ us) rest value one ends = absurd (let e = one.only in cc)

  one_sound_at : (end : ℕ) (t : Item) (ts : List Item) (value : X) (after : Left) (o : Option X) → test t.lexeme ≡ o → taken (left end (t ∷ ts)) o ≡ Ok (value, after) → Reads (One test) (one_at test) end (t ∷ ts) value after
  one_sound_at end t ts value after None e read = absurd (cc)
  one_sound_at end t ts value after (Some x) e read =
      let parts = ok_pair x value (left end ts) after read in
      record {
        front = t ∷ [];
        rest = ts;
        split = refl;
        after_is = sym parts.1;
        phrase = record { token = t.lexeme; only = refl; passes = e ∙ ap Some parts.0 };
        stable = λ others same. taken_some end t others value (e ∙ ap Some parts.0);
      }

  one_sound : (end : ℕ) (items : List Item) (value : X) (after : Left) → one_at test (left end items) ≡ Ok (value, after) → Reads (One test) (one_at test) end items value after
  one_sound end [] value after e = absurd (cc)
  one_sound end (t ∷ ts) value after e = one_sound_at end t ts value after _ refl e

  module _ (sample : Lexeme) (sampled : X) (passes : test sample ≡ Some sampled) where
    opens_one : Opens (One test) []
    opens_one = (sample ∷ [], sampled, record { token = sample; only = refl; passes = passes })

    one_fault_at : (end : ℕ) (t : Item) (ts : List Item) (at : ℕ) (o : Option X) → test t.lexeme ≡ o → taken (left end (t ∷ ts)) o ≡ Err at → Faulty (One test) (one_at test) end (t ∷ ts) at
    one_fault_at end t ts at None e read = inr (inl (record {
      front = [];
      token = t;
      after = ts;
      split = refl;
      opens = opens_one;
      place = sym (same_err t.at at read);
      fails = λ other others alike. (other.at, taken_none end other others (alike_test test quiet t other alike e));
    }))
    one_fault_at end t ts at (Some x) e read = ok_no_err (x, left end ts) at read

    one_fault : (end : ℕ) (items : List Item) (at : ℕ) → one_at test (left end items) ≡ Err at → Faulty (One test) (one_at test) end items at
    one_fault end [] at e = inl (record { opens = opens_one; place = sym (same_err end at e) })
    one_fault end (t ∷ ts) at e = one_fault_at end t ts at _ refl e

    pub one_exact : Exact (One test) (one_at test) never
    one_exact = record { complete = one_complete; sound = one_sound; fault = one_fault; whole = opens_one }

nothing_sound : {X : Type 0} (default : X) (end : ℕ) (items : List Item) (value : X) (after : Left) → nothing_at default (left end items) ≡ Ok (value, after) → Reads (Nothing default) (nothing_at default) end items value after
nothing_sound default end items value after e =
    let parts = ok_pair default value (left end items) after e in
    record { front = []; rest = items; split = refl; after_is = sym parts.1; phrase = record { none = refl; is = sym parts.0 }; stable = λ others same. ap (λ v. Ok (v, left end others)) parts.0 }

nothing_complete : {X : Type 0} (default : X) (end : ℕ) (front rest : List Item) (value : X) → Nothing default (lexemes front) value → Ends never rest → nothing_at default (left end (front ++ rest)) ≡ Ok (value, left end rest)
nothing_complete default end [] rest value nothing ends = ap (λ v. Ok (v, left end rest)) (sym nothing.is)
nothing_complete default end (t ∷ ts) rest value nothing ends = absurd (let e = nothing.none in cc)

pub nothing_exact : {X : Type 0} (default : X) → Exact (Nothing default) (nothing_at default) never
nothing_exact default = record {
  complete = nothing_complete default;
  sound = nothing_sound default;
  fault = λ end items at e. ok_no_err (default, left end items) at e;
  whole = ([], default, record { none = refl; is = refl });
}

-- items whose lexemes are two lists, parted there
pub record Parts (items : List Item) (a b : List Lexeme) : Type 0 where
  pub front : List Item
  pub back : List Item
  pub split : items ≡ front ++ back
  pub front_is : lexemes front ≡ a
  pub back_is : lexemes back ≡ b

pub heads : {A : Type 0} (x y : A) (xs ys : List A) → ◌≡◌ {A = List A} (x ∷ xs) (y ∷ ys) → (x ≡ y) × (xs ≡ ys)
heads x y xs ys e = (cc, cc)

pub parts : (items : List Item) (a b : List Lexeme) → lexemes items ≡ a ++ b → Parts items a b
parts items [] b e = record { front = []; back = items; split = refl; front_is = refl; back_is = e }
parts [] (x ∷ xs) b e = absurd (cc)
parts (t ∷ ts) (x ∷ xs) b e =
    let same = heads t.lexeme x (lexemes ts) (xs ++ b) e in
    let rest = parts ts xs b same.1 in
    record { front = t ∷ rest.front; back = rest.back; split = ap (λ l. t ∷ l) rest.split; front_is = λ i. same.0 i ∷ rest.front_is i; back_is = rest.back_is }

pub alike_same : (t : Item) → Alike t t
alike_same t = inl refl

pub head_behind : (b rest others : List Item) → SameHead rest others → SameHead (b ++ rest) (b ++ others)
head_behind [] rest others same = same
head_behind (c ∷ cs) rest others same = alike_same c

pub head_token : (b : List Item) (t u : Item) (ts us : List Item) → Alike t u → SameHead (b ++ t ∷ ts) (b ++ u ∷ us)
head_token b t u ts us alike = head_behind b (t ∷ ts) (u ∷ us) alike

module _ {X Y Z : Type 0} (join : X → Y → Z) (N : Phrase X) (M : Phrase Y) (p : Left → Read X) (q : Left → Read Y) where
  both : Left → Read Z
  both l = then_at join p q l

  then_ok : (l l1 l2 : Left) (x : X) (y : Y) → p l ≡ Ok (x, l1) → q l1 ≡ Ok (y, l2) → then_at join p q l ≡ Ok (join x y, l2)
  then_ok l l1 l2 x y e f = rw (e, f) refl

  then_first_fails : (l : Left) → Fails (p l) → Fails (then_at join p q l)
  then_first_fails l fails = (fails.0, rw fails.1 refl)

  then_second_fails : (l l1 : Left) (x : X) → p l ≡ Ok (x, l1) → Fails (q l1) → Fails (then_at join p q l)
  then_second_fails l l1 x e fails = (fails.0, rw (e, fails.1) refl)

  record Both (l : Left) (z : Z) (after : Left) : Type 0 where
    x : X
    y : Y
    between : Left
    first : p l ≡ Ok (x, between)
    second : q between ≡ Ok (y, after)
    is : z ≡ join x y

  both_second : (l : Left) (x : X) (l1 : Left) (z : Z) (after : Left) (s : Read Y) → p l ≡ Ok (x, l1) → q l1 ≡ s → (s >>= λ y. Ok (join x y.0, y.1)) ≡ Ok (z, after) → Both l z after
  both_second l x l1 z after (Ok y) e f read = let same = ok_pair (join x y.0) z y.1 after read in record { x = x; y = y.0; between = l1; first = e; second = f ∙ ap (λ (k : Left). Ok (y.0, k)) same.1; is = sym same.0 }
  both_second l x l1 z after (Err at) e f read = err_no_ok (z, after) at read

  both_first : (l : Left) (z : Z) (after : Left) (r : Read X) → p l ≡ r → (r >>= λ x. (q x.1 >>= λ y. Ok (join x.0 y.0, y.1))) ≡ Ok (z, after) → Both l z after
  both_first l z after (Ok x) e read = both_second l x.0 x.1 z after _ e refl read
  both_first l z after (Err at) e read = err_no_ok (z, after) at read

  both_read : (l : Left) (z : Z) (after : Left) → then_at join p q l ≡ Ok (z, after) → Both l z after
  both_read l z after read = both_first l z after _ refl read

  -- the second fails behind the first
  record Second (l : Left) (at : ℕ) : Type 0 where
    x : X
    between : Left
    first : p l ≡ Ok (x, between)
    fails : q between ≡ Err at

  fault_second : (l : Left) (x : X) (l1 : Left) (at : ℕ) (s : Read Y) → p l ≡ Ok (x, l1) → q l1 ≡ s → (s >>= λ y. Ok (join x y.0, y.1)) ≡ Err at → Second l at
  fault_second l x l1 at (Ok y) e f read = ok_no_err (join x y.0, y.1) at read
  fault_second l x l1 at (Err place) e f read = record { x = x; between = l1; first = e; fails = f ∙ ap (λ (k : ℕ). Err k) (same_err {X = Z} place at read) }

  fault_first : (l : Left) (at : ℕ) (r : Read X) → p l ≡ r → (r >>= λ x. (q x.1 >>= λ y. Ok (join x.0 y.0, y.1))) ≡ Err at → (p l ≡ Err at) ⊎ Second l at
  fault_first l at (Ok x) e read = inr (fault_second l x.0 x.1 at _ e refl read)
  fault_first l at (Err place) e read = inl (e ∙ ap (λ (k : ℕ). Err k) (same_err {X = Z} place at read))

  opens_first : (front : List Lexeme) → Opens N front → Opens M [] → Opens (Then join N M) front
  opens_first front a b = (a.0 ++ b.0, join a.1 b.1, record { front = front ++ a.0; back = b.0; first = a.1; second = b.1; split = sym (append_assoc front a.0 b.0); begins = a.2; goes_on = b.2; is = refl })

  opens_second : (front back : List Lexeme) (x : X) → N front x → Opens M back → Opens (Then join N M) (front ++ back)
  opens_second front back x n b = (b.0, join x b.1, record { front = front; back = back ++ b.0; first = x; second = b.1; split = append_assoc front back b.0; begins = n; goes_on = b.2; is = refl })

  module _ (g h : Lexeme → Bool) (exact_p : Exact N p g) (exact_q : Exact M q h) where
    then_sound : (end : ℕ) (items : List Item) (z : Z) (after : Left) → then_at join p q (left end items) ≡ Ok (z, after) → Reads (Then join N M) (then_at join p q) end items z after
    then_sound end items z after read =
        let b = both_read (left end items) z after read in
        let n = exact_p.sound end items b.x b.between b.first in
        let m = exact_q.sound end n.rest b.y after (ap q (sym n.after_is) ∙ b.second) in
        record {
          front = n.front ++ m.front;
          rest = m.rest;
          split = n.split ∙ ap (λ (l : List Item). n.front ++ l) m.split ∙ sym (append_assoc n.front m.front m.rest);
          after_is = m.after_is;
          phrase = record { front = lexemes n.front; back = lexemes m.front; first = b.x; second = b.y; split = map-append (λ (i : Item). i.lexeme) n.front m.front; begins = n.phrase; goes_on = m.phrase; is = b.is };
          stable = λ others same.
              ap (λ (l : List Item). then_at join p q (left end l)) (append_assoc n.front m.front others) ∙ then_ok (left end (n.front ++ (m.front ++ others))) (left end (m.front ++ others)) (left end others) b.x b.y (n.stable (m.front ++ others) (subst (λ r. SameHead r (m.front ++ others)) (sym m.split) (head_behind m.front m.rest others same))) (m.stable others same) ∙ ap (λ (v : Z). Ok (v, left end others)) (sym b.is);
        }

    lift_opens : (front : List Lexeme) → Opens N front → Opens (Then join N M) front
    lift_opens front opens = opens_first front opens exact_q.whole

    -- a fault of the first is one of both
    fault_of_first : (end : ℕ) (items : List Item) (at : ℕ) → Faulty N p end items at → Faulty (Then join N M) (then_at join p q) end items at
    fault_of_first end items at (inl early) = inl (record { opens = lift_opens (lexemes items) early.opens; place = early.place })
    fault_of_first end items at (inr (inl stuck)) = inr (inl (record {
      front = stuck.front;
      token = stuck.token;
      after = stuck.after;
      split = stuck.split;
      opens = lift_opens (lexemes stuck.front) stuck.opens;
      place = stuck.place;
      fails = λ other others alike. then_first_fails (left end (stuck.front ++ other ∷ others)) (stuck.fails other others alike);
    }))
    fault_of_first end items at (inr (inr great)) = inr (inr (record {
      front = great.front;
      minus = great.minus;
      token = great.token;
      after = great.after;
      number = great.number;
      split = great.split;
      is = great.is;
      opens = lift_opens (lexemes great.front ++ great.minus.lexeme ∷ Number (2 ^ 63) ∷ []) great.opens;
      place = great.place;
      fails = λ others. then_first_fails (left end (great.front ++ great.minus ∷ great.token ∷ others)) (great.fails others);
    }))

    opens_behind : (front back : List Item) (x : X) → N (lexemes front) x → Opens M (lexemes back) → Opens (Then join N M) (lexemes (front ++ back))
    opens_behind front back x n opens = subst (Opens (Then join N M)) (sym (map-append (λ (i : Item). i.lexeme) front back)) (opens_second (lexemes front) (lexemes back) x n opens)

    -- the second fails behind the first, which is found there whatever follows
    fails_behind : (end : ℕ) (a b : List Item) (x : X) → p (left end (a ++ b)) ≡ Ok (x, left end b) → Fails (q (left end b)) → Fails (then_at join p q (left end (a ++ b)))
    fails_behind end a b x e fails = then_second_fails (left end (a ++ b)) (left end b) x e fails

    regrouped : (a b c : List Item) (end : ℕ) → Fails (then_at join p q (left end (a ++ (b ++ c)))) → Fails (then_at join p q (left end ((a ++ b) ++ c)))
    regrouped a b c end fails = subst (λ (l : List Item). Fails (then_at join p q (left end l))) (sym (append_assoc a b c)) fails

    fault_of_second : (end : ℕ) (items : List Item) (at : ℕ) (x : X) (between : Left) (n : Reads N p end items x between) → Faulty M q end n.rest at → Faulty (Then join N M) (then_at join p q) end items at
    fault_of_second end items at x between n (inl early) = inl (record {
      opens = subst (λ (l : List Item). Opens (Then join N M) (lexemes l)) (sym n.split) (opens_behind n.front n.rest x n.phrase early.opens);
      place = early.place;
    })
    fault_of_second end items at x between n (inr (inl stuck)) = inr (inl (record {
      front = n.front ++ stuck.front;
      token = stuck.token;
      after = stuck.after;
      split = n.split ∙ ap (λ (l : List Item). n.front ++ l) stuck.split ∙ sym (append_assoc n.front stuck.front (stuck.token ∷ stuck.after));
      opens = opens_behind n.front stuck.front x n.phrase stuck.opens;
      place = stuck.place;
      fails = λ other others alike.
          let follows = stuck.front ++ other ∷ others in
          let same : SameHead n.rest follows = subst (λ (r : List Item). SameHead r follows) (sym stuck.split) (head_token stuck.front stuck.token other stuck.after others alike) in
          regrouped n.front stuck.front (other ∷ others) end (fails_behind end n.front follows x (n.stable follows same) (stuck.fails other others alike));
    }))
    fault_of_second end items at x between n (inr (inr great)) = inr (inr (record {
      front = n.front ++ great.front;
      minus = great.minus;
      token = great.token;
      after = great.after;
      number = great.number;
      split = n.split ∙ ap (λ (l : List Item). n.front ++ l) great.split ∙ sym (append_assoc n.front great.front (great.minus ∷ great.token ∷ great.after));
      is = great.is;
      opens = subst (λ (l : List Lexeme). Opens (Then join N M) l) (sym (ap (λ (l : List Lexeme). l ++ great.minus.lexeme ∷ Number (2 ^ 63) ∷ []) (map-append (λ (i : Item). i.lexeme) n.front great.front) ∙ append_assoc (lexemes n.front) (lexemes great.front) (great.minus.lexeme ∷ Number (2 ^ 63) ∷ []))) (opens_second (lexemes n.front) (lexemes great.front ++ great.minus.lexeme ∷ Number (2 ^ 63) ∷ []) x n.phrase great.opens);
      place = great.place;
      fails = λ others.
          let follows = great.front ++ great.minus ∷ great.token ∷ others in
          let same : SameHead n.rest follows = subst (λ (r : List Item). SameHead r follows) (sym great.split) (head_token great.front great.minus great.minus (great.token ∷ great.after) (great.token ∷ others) (alike_same great.minus)) in
          regrouped n.front great.front (great.minus ∷ great.token ∷ others) end (fails_behind end n.front follows x (n.stable follows same) (great.fails others));
    }))

    fault_cases : (end : ℕ) (items : List Item) (at : ℕ) → (p (left end items) ≡ Err at) ⊎ Second (left end items) at → Faulty (Then join N M) (then_at join p q) end items at
    fault_cases end items at (inl e) = fault_of_first end items at (exact_p.fault end items at e)
    fault_cases end items at (inr s) =
        let n = exact_p.sound end items s.x s.between s.first in
        fault_of_second end items at s.x s.between n (exact_q.fault end n.rest at (ap q (sym n.after_is) ∙ s.fails))

    then_fault : (end : ℕ) (items : List Item) (at : ℕ) → then_at join p q (left end items) ≡ Err at → Faulty (Then join N M) (then_at join p q) end items at
    then_fault end items at e = fault_cases end items at (fault_first (left end items) at _ refl e)

    module _ (follows : (end : ℕ) (back rest : List Item) (y : Y) → M (lexemes back) y → Ends h rest → Ends g (back ++ rest)) where
      then_complete : (end : ℕ) (front rest : List Item) (z : Z) → Then join N M (lexemes front) z → Ends h rest → then_at join p q (left end (front ++ rest)) ≡ Ok (z, left end rest)
      then_complete end front rest z t ends =
          let part = parts front t.front t.back t.split in
          let n : N (lexemes part.front) t.first = subst (λ (l : List Lexeme). N l t.first) (sym part.front_is) t.begins in
          let m : M (lexemes part.back) t.second = subst (λ (l : List Lexeme). M l t.second) (sym part.back_is) t.goes_on in
          let first = exact_p.complete end part.front (part.back ++ rest) t.first n (follows end part.back rest t.second m ends) in
          let second = exact_q.complete end part.back rest t.second m ends in
          ap (λ (l : List Item). then_at join p q (left end (l ++ rest))) part.split ∙ ap (λ (l : List Item). then_at join p q (left end l)) (append_assoc part.front part.back rest) ∙ then_ok (left end (part.front ++ (part.back ++ rest))) (left end (part.back ++ rest)) (left end rest) t.first t.second first second ∙ ap (λ (v : Z). Ok (v, left end rest)) (sym t.is)

      pub then_exact : Exact (Then join N M) (then_at join p q) h
      then_exact = record { complete = then_complete; sound = then_sound; fault = then_fault; whole = opens_first [] exact_p.whole exact_q.whole }
