-- A minus and its number are read exactly.
use Rattle.std.proofs.Common.{◌≡◌, ℕ, ◌^◌, Bool, true, false, List, [], ◌∷◌, ◌++◌, Option, None, Some, Ok, Err, refl, sym, ap, subst, ◌∙◌, inl, inr}
use Rattle.std.specs.Prelude.{nat_le, ℤ, pos, neg_ℤ}
use Rattle.sql_lex.specs.Spelling.{Lexeme, Word, Name, Number, Literal, Sign}
use Rattle.sql_lex.specs.declared.token.Sign.TheVariants as signs
use Rattle.sql_lex.specs.Tokens.{Item}
use Rattle.row_types.specs.declared.row.Value.{Value}
use Rattle.row_types.specs.declared.row.Value.TheVariants as values
use Rattle.sql_parse.specs.Phrases.{Phrase, One, Then}
use Rattle.sql_parse.specs.Grammar.{sign, negated, int_value, where_true}
use Rattle.sql_parse.specs.Reading.{Left, negative_at, signed_at}
use Rattle.sql_parse.proofs.Exact.{lexemes, left, Fails, Opens, Ends, Alike, Reads, Faulty, Exact, never, ok_pair, ok_no_err, err_no_ok, same_err}

abbrev IsSigned : Phrase Value
IsSigned = Then int_value (One (sign signs.Minus)) (One negated)

abbrev minus : Lexeme → Option (Unit {0})
minus = sign signs.Minus

quiet_minus : (n : ℕ) → minus (Number n) ≡ None
quiet_minus n = refl

pair : (m t : Lexeme) (z : ℤ) → minus m ≡ Some tt → negated t ≡ Some z → IsSigned (m ∷ t ∷ []) (values.Int z)
pair m t z e f = record { front = m ∷ []; back = t ∷ []; first = tt; second = z; split = refl; begins = record { token = m; only = refl; passes = e }; goes_on = record { token = t; only = refl; passes = f }; is = refl }

opens_none : Opens IsSigned []
opens_none = (Sign signs.Minus ∷ Number 0 ∷ [], values.Int (neg_ℤ (pos 0)), pair (Sign signs.Minus) (Number 0) (neg_ℤ (pos 0)) refl refl)

opens_minus : (m : Lexeme) → minus m ≡ Some tt → Opens IsSigned (m ∷ [])
opens_minus m e = (Number 0 ∷ [], values.Int (neg_ℤ (pos 0)), pair m (Number 0) (neg_ℤ (pos 0)) e refl)

opens_greatest : (m : Lexeme) → minus m ≡ Some tt → Opens IsSigned (m ∷ Number (2 ^ 63) ∷ [])
opens_greatest m e = ([], values.Int (neg_ℤ (pos (2 ^ 63))), pair m (Number (2 ^ 63)) (neg_ℤ (pos (2 ^ 63))) e refl)

with_minus : (end : ℕ) (m : Item) (ts : List Item) → minus m.lexeme ≡ Some tt → signed_at (left end (m ∷ ts)) ≡ negative_at m.at (left end ts)
with_minus end m ts e = rw e refl

without_minus : (end : ℕ) (m : Item) (ts : List Item) → minus m.lexeme ≡ None → signed_at (left end (m ∷ ts)) ≡ Err m.at
without_minus end m ts e = rw e refl

small : (place end n : ℕ) (at : ℕ) (ts : List Item) → nat_le n (2 ^ 63) ≡ true → negative_at place (left end (record { lexeme = Number n; at = at } ∷ ts)) ≡ Ok (values.Int (neg_ℤ (pos n)), left end ts)
small place end n at ts e = rw e refl

great : (place end n : ℕ) (at : ℕ) (ts : List Item) → nat_le n (2 ^ 63) ≡ false → negative_at place (left end (record { lexeme = Number n; at = at } ∷ ts)) ≡ Err place
great place end n at ts e = rw e refl

negated_some : (b : Bool) (z w : ℤ) → where_true b z ≡ Some w → (b ≡ true) × (z ≡ w)
negated_some true z w e = (refl, cc)
negated_some false z w e = absurd (cc)

negated_read : (place end : ℕ) (lexeme : Lexeme) (at : ℕ) (ts : List Item) (z : ℤ) → negated lexeme ≡ Some z → negative_at place (left end (record { lexeme = lexeme; at = at } ∷ ts)) ≡ Ok (values.Int z, left end ts)
negated_read place end (Number n) at ts z e = let s = negated_some (nat_le n (2 ^ 63)) (neg_ℤ (pos n)) z e in small place end n at ts s.0 ∙ ap (λ (w : ℤ). Ok (values.Int w, left end ts)) s.1
negated_read place end (Word k) at ts z e = absurd (cc)
negated_read place end (Name n) at ts z e = absurd (cc)
negated_read place end (Literal l) at ts z e = absurd (cc)
negated_read place end (Sign s) at ts z e = absurd (cc)

unit_some : (o : Option (Unit {0})) (u : Unit {0}) → o ≡ Some u → o ≡ Some tt
unit_some o u e = e

two_of : (m t a b : Lexeme) (us : List Lexeme) → ◌≡◌ {A = List Lexeme} (m ∷ t ∷ us) (a ∷ b ∷ []) → (m ≡ a) × (t ≡ b) × (us ≡ [])
two_of m t a b us e = (cc, cc, cc)

none_left : (items : List Item) → lexemes items ≡ [] → items ≡ []
none_left [] e = refl
none_left (t ∷ ts) e = absurd (cc)

signed_complete : (end : ℕ) (front rest : List Item) (value : Value) → IsSigned (lexemes front) value → Ends never rest → signed_at (left end (front ++ rest)) ≡ Ok (value, left end rest)
signed_complete end [] rest value s ends = absurd (let e : [] ≡ s.begins.token ∷ s.back = s.split ∙ ap (λ (l : List Lexeme). l ++ s.back) s.begins.only in cc)
signed_complete end (m ∷ []) rest value s ends = absurd (let e : m.lexeme ∷ [] ≡ s.begins.token ∷ s.goes_on.token ∷ [] = s.split ∙ (λ i. s.begins.only i ++ s.goes_on.only i) in cc)
signed_complete end (m ∷ t ∷ us) rest value s ends =
    let e = two_of m.lexeme t.lexeme s.begins.token s.goes_on.token (lexemes us) (s.split ∙ (λ i. s.begins.only i ++ s.goes_on.only i)) in
    let none = none_left us e.2 in
    ap (λ (l : List Item). signed_at (left end (m ∷ t ∷ (l ++ rest)))) none ∙ with_minus end m (t ∷ rest) (ap minus e.0 ∙ s.begins.passes) ∙ negated_read m.at end t.lexeme t.at rest s.second (ap negated e.1 ∙ s.goes_on.passes) ∙ ap (λ (v : Value). Ok (v, left end rest)) (sym s.is)

-- what stands behind the minus
record Behind (end : ℕ) (m : Item) (ts : List Item) (value : Value) (after : Left) : Type 0 where
  token : Item
  rest : List Item
  number : ℤ
  split : ts ≡ token ∷ rest
  passes : negated token.lexeme ≡ Some number
  is : value ≡ values.Int number
  after_is : after ≡ left end rest

behind_number : (end n at : ℕ) (m : Item) (ts : List Item) (value : Value) (after : Left) (b : Bool) → nat_le n (2 ^ 63) ≡ b → negative_at m.at (left end (record { lexeme = Number n; at = at } ∷ ts)) ≡ Ok (value, after) → Behind end m (record { lexeme = Number n; at = at } ∷ ts) value after
behind_number end n at m ts value after true e read =
    let p = ok_pair (values.Int (neg_ℤ (pos n))) value (left end ts) after (sym (small m.at end n at ts e) ∙ read) in
    record { token = record { lexeme = Number n; at = at }; rest = ts; number = neg_ℤ (pos n); split = refl; passes = rw e refl; is = sym p.0; after_is = sym p.1 }
behind_number end n at m ts value after false e read = err_no_ok (value, after) m.at (sym (great m.at end n at ts e) ∙ read)

behind_lexeme : (end : ℕ) (m : Item) (lexeme : Lexeme) (at : ℕ) (ts : List Item) (value : Value) (after : Left) → negative_at m.at (left end (record { lexeme = lexeme; at = at } ∷ ts)) ≡ Ok (value, after) → Behind end m (record { lexeme = lexeme; at = at } ∷ ts) value after
behind_lexeme end m (Number n) at ts value after read = behind_number end n at m ts value after _ refl read
behind_lexeme end m (Word k) at ts value after read = err_no_ok (value, after) at read
behind_lexeme end m (Name n) at ts value after read = err_no_ok (value, after) at read
behind_lexeme end m (Literal l) at ts value after read = err_no_ok (value, after) at read
behind_lexeme end m (Sign s) at ts value after read = err_no_ok (value, after) at read

behind : (end : ℕ) (m : Item) (ts : List Item) (value : Value) (after : Left) → negative_at m.at (left end ts) ≡ Ok (value, after) → Behind end m ts value after
behind end m [] value after read = err_no_ok (value, after) end read
behind end m (t ∷ ts) value after read = behind_lexeme end m t.lexeme t.at ts value after read

signed_sound_at : (end : ℕ) (m : Item) (ts : List Item) (value : Value) (after : Left) (o : Option (Unit {0})) → minus m.lexeme ≡ o → signed_at (left end (m ∷ ts)) ≡ Ok (value, after) → Reads IsSigned signed_at end (m ∷ ts) value after
signed_sound_at end m ts value after None e read = err_no_ok (value, after) m.at (sym (without_minus end m ts e) ∙ read)
signed_sound_at end m ts value after (Some u) e read =
    let b = behind end m ts value after (sym (with_minus end m ts e) ∙ read) in
    record {
      front = m ∷ b.token ∷ [];
      rest = b.rest;
      split = ap (λ (l : List Item). m ∷ l) b.split;
      after_is = b.after_is;
      phrase = subst (λ (v : Value). IsSigned (m.lexeme ∷ b.token.lexeme ∷ []) v) (sym b.is) (pair m.lexeme b.token.lexeme b.number e b.passes);
      stable = λ others same. with_minus end m (b.token ∷ others) e ∙ negated_read m.at end b.token.lexeme b.token.at others b.number b.passes ∙ ap (λ (v : Value). Ok (v, left end others)) (sym b.is);
    }

signed_sound : (end : ℕ) (items : List Item) (value : Value) (after : Left) → signed_at (left end items) ≡ Ok (value, after) → Reads IsSigned signed_at end items value after
signed_sound end [] value after read = err_no_ok (value, after) end read
signed_sound end (m ∷ ts) value after read = signed_sound_at end m ts value after _ refl read

-- no number
NoNumber : Lexeme → Type 0
NoNumber lexeme = (n : ℕ) → lexeme ≡ Number n → ⊥

stuck_behind : (end : ℕ) (m t : Item) (ts : List Item) (at : ℕ) → minus m.lexeme ≡ Some tt → NoNumber t.lexeme → ((others : List Item) → negative_at m.at (left end (t ∷ others)) ≡ Err t.at) → at ≡ t.at → Faulty IsSigned signed_at end (m ∷ t ∷ ts) at
unfolding NoNumber
stuck_behind end m t ts at e none fails place = inr (inl (record {
  front = m ∷ [];
  token = t;
  after = ts;
  split = refl;
  opens = opens_minus m.lexeme e;
  place = place;
  fails = λ other others alike. elim alike as (λ _. Fails (signed_at (left end (m ∷ other ∷ others)))) [
    | inl same ↦ (t.at, ap (λ (i : Item). signed_at (left end (m ∷ i ∷ others))) same ∙ with_minus end m (t ∷ others) e ∙ fails others)
    | inr n ↦ absurd (none n.0 n.1)
  ];
}))

fault_number : (end n place : ℕ) (m : Item) (ts : List Item) (at : ℕ) (b : Bool) → minus m.lexeme ≡ Some tt → nat_le n (2 ^ 63) ≡ b → negative_at m.at (left end (record { lexeme = Number n; at = place } ∷ ts)) ≡ Err at → Faulty IsSigned signed_at end (m ∷ record { lexeme = Number n; at = place } ∷ ts) at
fault_number end n place m ts at true e f read = ok_no_err (values.Int (neg_ℤ (pos n)), left end ts) at (sym (small m.at end n place ts f) ∙ read)
fault_number end n place m ts at false e f read = inr (inr (record {
  front = [];
  minus = m;
  token = record { lexeme = Number n; at = place };
  after = ts;
  number = n;
  split = refl;
  is = refl;
  opens = opens_greatest m.lexeme e;
  place = sym (same_err {X = Value} m.at at (sym (great m.at end n place ts f) ∙ read));
  fails = λ others. (m.at, with_minus end m (record { lexeme = Number n; at = place } ∷ others) e ∙ great m.at end n place others f);
}))

fault_lexeme : (end : ℕ) (m : Item) (lexeme : Lexeme) (place : ℕ) (ts : List Item) (at : ℕ) → minus m.lexeme ≡ Some tt → negative_at m.at (left end (record { lexeme = lexeme; at = place } ∷ ts)) ≡ Err at → Faulty IsSigned signed_at end (m ∷ record { lexeme = lexeme; at = place } ∷ ts) at
unfolding NoNumber
fault_lexeme end m (Number n) place ts at e read = fault_number end n place m ts at _ e refl read
fault_lexeme end m (Word k) place ts at e read = stuck_behind end m (record { lexeme = Word k; at = place }) ts at e (λ n f. absurd (cc)) (λ others. refl) (sym (same_err {X = Value} place at read))
fault_lexeme end m (Name k) place ts at e read = stuck_behind end m (record { lexeme = Name k; at = place }) ts at e (λ n f. absurd (cc)) (λ others. refl) (sym (same_err {X = Value} place at read))
fault_lexeme end m (Literal k) place ts at e read = stuck_behind end m (record { lexeme = Literal k; at = place }) ts at e (λ n f. absurd (cc)) (λ others. refl) (sym (same_err {X = Value} place at read))
fault_lexeme end m (Sign k) place ts at e read = stuck_behind end m (record { lexeme = Sign k; at = place }) ts at e (λ n f. absurd (cc)) (λ others. refl) (sym (same_err {X = Value} place at read))

fault_behind : (end : ℕ) (m : Item) (ts : List Item) (at : ℕ) → minus m.lexeme ≡ Some tt → negative_at m.at (left end ts) ≡ Err at → Faulty IsSigned signed_at end (m ∷ ts) at
fault_behind end m [] at e read = inl (record { opens = opens_minus m.lexeme e; place = sym (same_err {X = Value} end at read) })
fault_behind end m (t ∷ ts) at e read = fault_lexeme end m t.lexeme t.at ts at e read

alike_minus : (t u : Item) → Alike t u → minus t.lexeme ≡ None → minus u.lexeme ≡ None
alike_minus t u (inl e) none = ap (λ (i : Item). minus i.lexeme) e ∙ none
alike_minus t u (inr n) none = ap minus n.2

signed_fault_at : (end : ℕ) (m : Item) (ts : List Item) (at : ℕ) (o : Option (Unit {0})) → minus m.lexeme ≡ o → signed_at (left end (m ∷ ts)) ≡ Err at → Faulty IsSigned signed_at end (m ∷ ts) at
signed_fault_at end m ts at None e read = inr (inl (record {
  front = [];
  token = m;
  after = ts;
  split = refl;
  opens = opens_none;
  place = sym (same_err {X = Value} m.at at (sym (without_minus end m ts e) ∙ read));
  fails = λ other others alike. (other.at, without_minus end other others (alike_minus m other alike e));
}))
signed_fault_at end m ts at (Some u) e read = fault_behind end m ts at e (sym (with_minus end m ts e) ∙ read)

signed_fault : (end : ℕ) (items : List Item) (at : ℕ) → signed_at (left end items) ≡ Err at → Faulty IsSigned signed_at end items at
signed_fault end [] at read = inl (record { opens = opens_none; place = sym (same_err {X = Value} end at read) })
signed_fault end (m ∷ ts) at read = signed_fault_at end m ts at _ refl read

pub signed_exact : Exact IsSigned signed_at never
signed_exact = record { complete = signed_complete; sound = signed_sound; fault = signed_fault; whole = opens_none }
