-- A loop that reads what is repeated keeps what was read so far.
use Rattle.std.proofs.Common.{◌≡◌, ℕ, ◌<◌, ◌≤◌, Bool, true, false, List, [], ◌∷◌, ◌++◌, length, Option, None, Some, Ok, Err, refl, sym, ap, subst, ◌∙◌, arith, append_assoc, length-append}
use Rattle.std.specs.Prelude.{option_and_then, is_some}
use Rattle.std.proofs.lemmas.List.{append-nil}
use Rattle.sql_lex.specs.Spelling.{Lexeme}
use Rattle.sql_lex.specs.Tokens.{Item}
use Rattle.sql_parse.specs.Phrases.{Phrase, second, prepend}
use Rattle.sql_parse.specs.Reading.{Left, Read, next_of, rest_of, ◌>>=◌, repeated_at, then_at}
use Rattle.sql_parse.proofs.Exact.{left, Exact, IsQuiet}
use Rattle.sql_parse.proofs.Choices.{next, none_of}
use Rattle.sql_parse.proofs.Repetition.{Looped, with_front, fuel, repeated_none, repeated_some, repeated_fails}

some_of : {S : Type 0} (o : Option S) → is_some o ≡ true → (s : S) × (o ≡ Some s)
some_of None e = absurd (cc)
some_of (Some s) e = (s, refl)

front_pushed : {Z : Type 0} (front : List Z) (z : Z) (read : Read (List Z)) → with_front front (read >>= λ zs. Ok (z ∷ zs.0, zs.1)) ≡ with_front (front ++ z ∷ []) read
front_pushed front z (Ok zs) = ap (λ l. Ok (l, zs.1)) (sym (append_assoc front (z ∷ []) zs.0))
front_pushed front z (Err at) = refl

module _ {S X Z : Type 0} (test : Lexeme → Option S) (join : S → X → Z) (N : Phrase X) (p : Left → Read X) (g : Lexeme → Bool) (exact : Exact N p g) (quiet : IsQuiet test) where
  abbrev all : Left → Read (List Z)
  all l = repeated_at test join p l

  -- how much is left behind what was read
  pub after_shorter : (l after : Left) (x : X) → p l ≡ Ok (x, after) → length after.items ≤ length l.items
  after_shorter l after x read =
      let r = exact.sound l.end l.items x after read in
      omega (arith, ap (λ (k : Left). length k.items) r.after_is, ap length r.split, length-append r.front r.rest)

  step_cons : (end : ℕ) (t : Item) (ts : List Item) (after : Left) (s : S) (x : X) → test t.lexeme ≡ Some s → p (left end ts) ≡ Ok (x, after) → all (left end (t ∷ ts)) ≡ (all after >>= λ zs. Ok (join s x ∷ zs.0, zs.1))
  step_cons end t ts after s x e read =
      let enough = fuel test join N p g exact quiet (length ts) (length after.items) after.end after.items (after_shorter (left end ts) after x read) (omega arith) in
      repeated_some test join p (length ts) end t ts s x after e read ∙ ap (λ (r : Read (List Z)). r >>= λ zs. Ok (join s x ∷ zs.0, zs.1)) enough

  pub step : (l after : Left) (s : S) (x : X) → option_and_then test (next_of l) ≡ Some s → p (rest_of l) ≡ Ok (x, after) → all l ≡ (all after >>= λ zs. Ok (join s x ∷ zs.0, zs.1))
  step l after s x e read = elim l.items as (λ (items : List Item). next test items ≡ Some s → p (rest_of (left l.end items)) ≡ Ok (x, after) → all (left l.end items) ≡ (all after >>= λ zs. Ok (join s x ∷ zs.0, zs.1))) [
    | [] ↦ λ e read. absurd (cc)
    | t ∷ ts ↦ λ e read. step_cons l.end t ts after s x e read
  ] e read

  pub step_fails : (l : Left) (s : S) (at : ℕ) → option_and_then test (next_of l) ≡ Some s → p (rest_of l) ≡ Err at → all l ≡ Err at
  step_fails l s at e read = elim l.items as (λ (items : List Item). next test items ≡ Some s → p (rest_of (left l.end items)) ≡ Err at → all (left l.end items) ≡ Err at) [
    | [] ↦ λ e read. absurd (cc)
    | t ∷ ts ↦ λ e read. repeated_fails test join p (length ts) l.end t ts s at e read
  ] e read

  module _ (whole : Read (List Z)) (values : List Z) (l : Left) (looped : Looped test join p whole values l) where
    pub looped_next : (after : Left) (s : S) (x : X) → option_and_then test (next_of l) ≡ Some s → p (rest_of l) ≡ Ok (x, after) → Looped test join p whole (values ++ join s x ∷ []) after
    looped_next after s x e read = sym (front_pushed values (join s x) (all after)) ∙ ap (with_front values) (sym (step l after s x e read)) ∙ looped

    pub looped_fails : (s : S) (at : ℕ) → option_and_then test (next_of l) ≡ Some s → p (rest_of l) ≡ Err at → whole ≡ Err at
    looped_fails s at e read = sym looped ∙ ap (with_front values) (step_fails l s at e read)

    pub looped_ends : option_and_then test (next_of l) ≡ None → whole ≡ Ok (values, l)
    looped_ends e = sym looped ∙ ap (with_front values) (repeated_none test join p (length l.items) l.end l.items e) ∙ ap (λ (v : List Z). Ok (v, l)) (append-nil values)

  tail_shorter : (l : Left) (s : S) → option_and_then test (next_of l) ≡ Some s → length (rest_of l).items < length l.items
  tail_shorter l s e = elim l.items as (λ (items : List Item). next test items ≡ Some s → length (rest_of (left l.end items)).items < length items) [
    | [] ↦ λ e. absurd (cc)
    | t ∷ ts ↦ λ e. omega arith
  ] e

  -- each round leaves less
  pub round_shorter : (l after : Left) (s : S) (x : X) → option_and_then test (next_of l) ≡ Some s → p (rest_of l) ≡ Ok (x, after) → length after.items < length l.items
  round_shorter l after s x e read = omega (arith, tail_shorter l s e, after_shorter (rest_of l) after x read)

-- a list x { , x } is read by its first and then the loop
pub looped_first : {X : Type 0} (test : Lexeme → Option (Unit {0})) (p : Left → Read X) (l after : Left) (x : X) → p l ≡ Ok (x, after) → Looped test second p (then_at prepend p (repeated_at test second p) l) (x ∷ []) after
looped_first test p l after x read = rw read refl

pub accepted : (o : Option (Unit {0})) (b : Bool) → b ≡ is_some o → b ≡ true → o ≡ Some tt
accepted None b e f = absurd (cc)
accepted (Some u) b e f = refl

pub refused : (o : Option (Unit {0})) (b : Bool) → b ≡ is_some o → b ≡ false → o ≡ None
refused o b e f = none_of o (sym e ∙ f)

found_some : (o : Option (Unit {0})) → true ≡ is_some o → o ≡ Some tt
found_some None e = absurd (cc)
found_some (Some u) e = refl

-- a round of a loop over x { , x }: behind a sign one more is read
module _ {X : Type 0} (test : Lexeme → Option (Unit {0})) (N : Phrase X) (p : Left → Read X) (g : Lexeme → Bool) (exact : Exact N p g) (quiet : IsQuiet test) (l behind after : Left) (x : X) (found : true ≡ is_some (option_and_then test (next_of l))) (passed : behind ≡ rest_of l) (read : p behind ≡ Ok (x, after)) where
  pub round_keeps : (whole : Read (List X)) (values pushed : List X) → Looped test second p whole values l → pushed ≡ values ++ x ∷ [] → Looped test second p whole pushed after
  round_keeps whole values pushed looped is = subst (λ (v : List X). Looped test second p whole v after) (sym is) (looped_next test second N p g exact quiet whole values l looped after tt x (found_some _ found) (ap p (sym passed) ∙ read))

  pub round_ends : length after.items < length l.items
  round_ends = round_shorter test second N p g exact quiet l after tt x (found_some _ found) (ap p (sym passed) ∙ read)
