-- Tokens, and what stands between phrases, are read exactly.
use Rattle.std.proofs.Common.{◌≡◌, ℕ, Bool, true, false, ◌||◌, get_or, List, [], ◌∷◌, ◌++◌, Option, Some, refl, sym, ap, subst, ◌∙◌, inl, inr, eq-eqb}
use Rattle.std.specs.Prelude.{is_some}
use Rattle.std.proofs.lemmas.Bool.Decides.{Decides-eqb}
use Rattle.sql_lex.specs.Spelling.{Lexeme, Word, Name, Number, Literal, Sign}
use Rattle.sql_lex.specs.declared.keyword.Keyword.{Keyword}
use Rattle.sql_lex.specs.declared.keyword.Keyword.TheVariants as words
use Rattle.sql_lex.specs.declared.token.Sign.TheVariants as signs
use Rattle.sql_lex.specs.declared.token.Sign.{Sign as Mark}
use Rattle.sql_lex.specs.Tokens.{Item}
use Rattle.sql_parse.specs.Words.{word_number, sign_number}
use Rattle.sql_parse.specs.Phrases.{Phrase, One, Nothing, Then, Either, Repeated, first, second, prepend}
use Rattle.sql_parse.specs.Grammar.{word, sign, where_true, name_of, IsName, IsSeparated, IsListed, IsEnclosed, IsBehind, Made}
use Rattle.sql_parse.specs.Reading.{Left, Read, nothing_at, then_at, repeated_at, name_at, word_at, sign_at, separated_at, listed_at, enclosed_at, behind_at, made_at}
use Rattle.sql_parse.proofs.Exact.{lexemes, Ends, Ends-never, Exact, never, one_exact, nothing_exact, then_exact, parts, IsQuiet}
use Rattle.sql_lex.proofs.Literals.{or_false}
use Rattle.sql_parse.proofs.Choices.{Starts}
use Rattle.sql_parse.proofs.Repetition.{repeated_exact, ends_behind}

pub quiet_sign : (mark : Mark) → IsQuiet (sign mark)
quiet_sign mark n = refl

pub quiet_word : (keyword : Keyword) → IsQuiet (word keyword)
quiet_word keyword n = refl

words_in_order : List Keyword
words_in_order = words.And ∷ words.Asc ∷ words.Begin ∷ words.Bigint ∷ words.By ∷ words.Checkpoint ∷ words.Commit ∷ words.Count ∷ words.Create ∷ words.Delete ∷ words.Desc ∷ words.From ∷ words.Insert ∷ words.Int ∷ words.Integer ∷ words.Into ∷ words.Key ∷ words.Limit ∷ words.Order ∷ words.Primary ∷ words.Rollback ∷ words.Select ∷ words.Set ∷ words.Sum ∷ words.Table ∷ words.Text ∷ words.Update ∷ words.Values ∷ words.Varchar ∷ words.Where ∷ []

word_at_number : (k : Keyword) → get_or words_in_order (word_number k) words.And ≡ k
unfolding words_in_order
word_at_number words.And = refl
word_at_number words.Asc = refl
word_at_number words.Begin = refl
word_at_number words.Bigint = refl
word_at_number words.By = refl
word_at_number words.Checkpoint = refl
word_at_number words.Commit = refl
word_at_number words.Count = refl
word_at_number words.Create = refl
word_at_number words.Delete = refl
word_at_number words.Desc = refl
word_at_number words.From = refl
word_at_number words.Insert = refl
word_at_number words.Int = refl
word_at_number words.Integer = refl
word_at_number words.Into = refl
word_at_number words.Key = refl
word_at_number words.Limit = refl
word_at_number words.Order = refl
word_at_number words.Primary = refl
word_at_number words.Rollback = refl
word_at_number words.Select = refl
word_at_number words.Set = refl
word_at_number words.Sum = refl
word_at_number words.Table = refl
word_at_number words.Text = refl
word_at_number words.Update = refl
word_at_number words.Values = refl
word_at_number words.Varchar = refl
word_at_number words.Where = refl

marks_in_order : List Mark
marks_in_order = signs.Open ∷ signs.Close ∷ signs.Comma ∷ signs.Star ∷ signs.Plus ∷ signs.Minus ∷ signs.Equal ∷ signs.NotEqual ∷ signs.Less ∷ signs.LessEqual ∷ signs.Greater ∷ signs.GreaterEqual ∷ []

mark_at_number : (s : Mark) → get_or marks_in_order (sign_number s) signs.Open ≡ s
unfolding marks_in_order
mark_at_number signs.Open = refl
mark_at_number signs.Close = refl
mark_at_number signs.Comma = refl
mark_at_number signs.Star = refl
mark_at_number signs.Plus = refl
mark_at_number signs.Minus = refl
mark_at_number signs.Equal = refl
mark_at_number signs.NotEqual = refl
mark_at_number signs.Less = refl
mark_at_number signs.LessEqual = refl
mark_at_number signs.Greater = refl
mark_at_number signs.GreaterEqual = refl

passed : {X : Type 0} (b : Bool) (x y : X) → where_true b x ≡ Some y → b ≡ true
passed true x y e = refl
passed false x y e = absurd (cc)

-- what passes the test of a keyword is that keyword
pub word_is : (keyword : Keyword) (l : Lexeme) (u : Unit {0}) → word keyword l ≡ Some u → l ≡ Word keyword
word_is keyword (Word found) u e =
    let same = (Decides-eqb (word_number keyword) (word_number found)).0 (passed _ tt u e) in
    ap Word (sym (word_at_number found) ∙ ap (λ n. get_or words_in_order n words.And) (sym same) ∙ word_at_number keyword)
word_is keyword (Name n) u e = absurd (cc)
word_is keyword (Number n) u e = absurd (cc)
word_is keyword (Literal n) u e = absurd (cc)
word_is keyword (Sign n) u e = absurd (cc)

-- what passes the test of a sign is that sign
pub sign_is : (mark : Mark) (l : Lexeme) (u : Unit {0}) → sign mark l ≡ Some u → l ≡ Sign mark
sign_is mark (Sign found) u e =
    let same = (Decides-eqb (sign_number mark) (sign_number found)).0 (passed _ tt u e) in
    ap Sign (sym (mark_at_number found) ∙ ap (λ n. get_or marks_in_order n signs.Open) (sym same) ∙ mark_at_number mark)
sign_is mark (Name n) u e = absurd (cc)
sign_is mark (Number n) u e = absurd (cc)
sign_is mark (Literal n) u e = absurd (cc)
sign_is mark (Word n) u e = absurd (cc)

pub word_passes : (keyword : Keyword) → word keyword (Word keyword) ≡ Some tt
word_passes keyword = ap (λ (b : Bool). where_true b tt) (eq-eqb (word_number keyword) (word_number keyword) refl)

pub sign_passes : (mark : Mark) → sign mark (Sign mark) ≡ Some tt
sign_passes mark = ap (λ (b : Bool). where_true b tt) (eq-eqb (sign_number mark) (sign_number mark) refl)

-- a keyword, a sign that the test doesn't take
pub no_word : (keyword : Keyword) (g : Lexeme → Bool) → g (Word keyword) ≡ false → (l : Lexeme) (u : Unit {0}) → word keyword l ≡ Some u → g l ≡ false
no_word keyword g e l u passes = ap g (word_is keyword l u passes) ∙ e

pub no_sign : (mark : Mark) (g : Lexeme → Bool) → g (Sign mark) ≡ false → (l : Lexeme) (u : Unit {0}) → sign mark l ≡ Some u → g l ≡ false
no_sign mark g e l u passes = ap g (sign_is mark l u passes) ∙ e

-- the first token of the phrase, where it has one, doesn't pass the test
abbrev pub Apart : {X : Type 0} → (Lexeme → Bool) → Phrase X → Type 0
Apart {X} g N = (front : List Item) (x : X) → N (lexemes front) x → Ends g front

pub apart_one : {X : Type 0} (g : Lexeme → Bool) (test : Lexeme → Option X) → ((l : Lexeme) (x : X) → test l ≡ Some x → g l ≡ false) → Apart g (One test)
apart_one g test others [] x o = tt
apart_one g test others (c ∷ cs) x o =
    let e : c.lexeme ∷ lexemes cs ≡ o.token ∷ [] = o.only in
    let same : c.lexeme ≡ o.token = cc in
    others c.lexeme x (ap test same ∙ o.passes)

pub apart_nothing : {X : Type 0} (g : Lexeme → Bool) (x : X) → Apart g (Nothing x)
apart_nothing g x [] y n = tt
apart_nothing g x (c ∷ cs) y n = absurd (let e : c.lexeme ∷ lexemes cs ≡ [] = n.none in cc)

ends_front : (g : Lexeme → Bool) (front back : List Item) → Ends g front → Ends g back → Ends g (front ++ back)
ends_front g [] back a b = b
ends_front g (c ∷ cs) back a b = a

pub apart_then : {X Y Z : Type 0} (g : Lexeme → Bool) (join : X → Y → Z) (N : Phrase X) (M : Phrase Y) → Apart g N → Apart g M → Apart g (Then join N M)
apart_then g join N M a b front z t =
    let part = parts front t.front t.back t.split in
    subst (λ (l : List Item). Ends g l) (sym part.split) (ends_front g part.front part.back (a part.front t.first (subst (λ l. N l t.first) (sym part.front_is) t.begins)) (b part.back t.second (subst (λ l. M l t.second) (sym part.back_is) t.goes_on)))

-- a phrase that begins with one token is apart where the token is
pub apart_first : {S X Z : Type 0} (g : Lexeme → Bool) (test : Lexeme → Option S) (join : S → X → Z) (N : Phrase X) → ((l : Lexeme) (s : S) → test l ≡ Some s → g l ≡ false) → Apart g (Then join (One test) N)
apart_first g test join N others [] z t = tt
apart_first g test join N others (c ∷ cs) z t =
    let e : c.lexeme ∷ lexemes cs ≡ t.begins.token ∷ t.back = t.split ∙ ap (λ (l : List Lexeme). l ++ t.back) t.begins.only in
    let same : c.lexeme ≡ t.begins.token = cc in
    others c.lexeme t.first (ap test same ∙ t.begins.passes)

pub apart_behind : {X : Type 0} (g : Lexeme → Bool) (keyword : Keyword) (N : Phrase X) → g (Word keyword) ≡ false → Apart g (IsBehind keyword N)
apart_behind g keyword N e = apart_first g (word keyword) second N (no_word keyword g e)

pub apart_either : {X : Type 0} (g : Lexeme → Bool) (N M : Phrase X) → Apart g N → Apart g M → Apart g (Either N M)
apart_either g N M a b front x (inl n) = a front x n
apart_either g N M a b front x (inr m) = b front x m

pub apart_repeated : {S X Z : Type 0} (g : Lexeme → Bool) (test : Lexeme → Option S) (join : S → X → Z) (N : Phrase X) → ((l : Lexeme) (s : S) → test l ≡ Some s → g l ≡ false) → Apart g (Repeated test join N)
apart_repeated g test join N others [] values r = tt
apart_repeated g test join N others (c ∷ cs) [] r = absurd (let e : c.lexeme ∷ lexemes cs ≡ [] = r in cc)
apart_repeated g test join N others (c ∷ cs) (z ∷ zs) r =
    let e : c.lexeme ∷ lexemes cs ≡ r.3.begins.token ∷ (r.3.back ++ r.1) = r.2 ∙ ap (λ (l : List Lexeme). l ++ r.1) (r.3.split ∙ ap (λ (l : List Lexeme). l ++ r.3.back) r.3.begins.only) in
    let same : c.lexeme ≡ r.3.begins.token = cc in
    others c.lexeme r.3.first (ap test same ∙ r.3.begins.passes)

-- the first token of a phrase that begins with one token
pub starts_one : {S X Z : Type 0} (test : Lexeme → Option S) (join : S → X → Z) (N : Phrase X) (front : List Item) (z : Z) → Then join (One test) N (lexemes front) z → Starts test front
starts_one test join N [] z t = absurd (let e : [] ≡ t.begins.token ∷ t.back = t.split ∙ ap (λ (l : List Lexeme). l ++ t.back) t.begins.only in cc)
starts_one test join N (c ∷ cs) z t =
    let e : c.lexeme ∷ lexemes cs ≡ t.begins.token ∷ t.back = t.split ∙ ap (λ (l : List Lexeme). l ++ t.back) t.begins.only in
    let same : c.lexeme ≡ t.begins.token = cc in
    record { token = c; others = cs; split = refl; value = t.first; passes = ap test same ∙ t.begins.passes }

pub ends_narrow : (g h : Lexeme → Bool) → ((l : Lexeme) → h l ≡ false → g l ≡ false) → (rest : List Item) → Ends h rest → Ends g rest
ends_narrow g h narrow [] ends = tt
ends_narrow g h narrow (t ∷ ts) ends = narrow t.lexeme ends

-- what is apart doesn't continue what stands before it, where what follows doesn't
pub follows_apart : {Y : Type 0} (g h : Lexeme → Bool) (M : Phrase Y) → Apart g M → ((l : Lexeme) → h l ≡ false → g l ≡ false) → (end : ℕ) (back rest : List Item) (y : Y) → M (lexemes back) y → Ends h rest → Ends g (back ++ rest)
follows_apart g h M apart narrow end back rest y m ends = ends_front g back rest (apart back y m) (ends_narrow g h narrow rest ends)

-- what begins with a token that doesn't continue what stands before it
pub follows_first : {S X Z : Type 0} (test : Lexeme → Option S) (join : S → X → Z) (N : Phrase X) (g h : Lexeme → Bool) → ((l : Lexeme) (s : S) → test l ≡ Some s → g l ≡ false) → (end : ℕ) (back rest : List Item) (z : Z) → Then join (One test) N (lexemes back) z → Ends h rest → Ends g (back ++ rest)
follows_first test join N g h apart end back rest z t ends =
    let s = starts_one test join N back z t in
    subst (λ (l : List Item). Ends g (l ++ rest)) (sym s.split) (apart s.token.lexeme s.value s.passes)

pub follows_token : {S : Type 0} (test : Lexeme → Option S) (g h : Lexeme → Bool) → ((l : Lexeme) (s : S) → test l ≡ Some s → g l ≡ false) → (end : ℕ) (back rest : List Item) (s : S) → One test (lexemes back) s → Ends h rest → Ends g (back ++ rest)
follows_token test g h apart end [] rest s o ends = absurd (let e : [] ≡ o.token ∷ [] = o.only in cc)
follows_token test g h apart end (c ∷ cs) rest s o ends =
    let e : c.lexeme ∷ lexemes cs ≡ o.token ∷ [] = o.only in
    let same : c.lexeme ≡ o.token = cc in
    apart c.lexeme s (ap test same ∙ o.passes)

-- nothing continues a phrase that ends by itself
pub follows_never : {Y : Type 0} (M : Phrase Y) (h : Lexeme → Bool) (end : ℕ) (back rest : List Item) (y : Y) → M (lexemes back) y → Ends h rest → Ends never (back ++ rest)
follows_never M h end back rest y m ends = Ends-never (back ++ rest)

-- a reader that is exact before fewer tokens
pub weaker : {X : Type 0} (N : Phrase X) (p : Left → Read X) (g h : Lexeme → Bool) → ((l : Lexeme) → h l ≡ false → g l ≡ false) → Exact N p g → Exact N p h
weaker N p g h narrow exact = record {
  complete = λ end front rest x n ends. exact.complete end front rest x n (ends_narrow g h narrow rest ends);
  sound = exact.sound;
  fault = exact.fault;
  whole = exact.whole;
}

abbrev pub both : (Lexeme → Bool) → (Lexeme → Bool) → Lexeme → Bool
both g h l = g l || h l

pub name_exact : Exact IsName name_at never
name_exact = one_exact name_of refl (Name (97 ∷ [])) (97 ∷ []) refl

module _ {X : Type 0} (N : Phrase X) (p : Left → Read X) (g : Lexeme → Bool) (exact : Exact N p g) where
  pub behind_exact : (keyword : Keyword) → Exact (IsBehind keyword N) (behind_at keyword p) g
  behind_exact keyword = then_exact second (One (word keyword)) N (word_at keyword) p never g (one_exact (word keyword) refl (Word keyword) tt (word_passes keyword)) exact (follows_never N g)

  pub made_exact : {Y : Type 0} (make : Unit {0} → X → Y) → Exact (Made make N) (made_at make p) g
  made_exact make = then_exact make (Nothing tt) N (nothing_at tt) p never g (nothing_exact tt) exact (follows_never N g)

  -- x and then what may be there
  pub maybe_exact : {Y Z : Type 0} (join : X → Y → Z) (M : Phrase Y) (q : Left → Read Y) (h : Lexeme → Bool) → Exact M q h → Apart g M → Exact (Then join N M) (then_at join p q) (both g h)
  maybe_exact join M q h other apart =
      then_exact join N M p q g (both g h) exact (weaker M q h (both g h) (λ l e. (or_false (g l) (h l) e).1) other) (follows_apart g (both g h) M apart (λ l e. (or_false (g l) (h l) e).0))

  -- x { s x }
  module _ (test : Lexeme → Option (Unit {0})) (quiet : IsQuiet test) (apart : (l : Lexeme) (u : Unit {0}) → test l ≡ Some u → g l ≡ false) where
    abbrev pub goes_further : Lexeme → Bool
    goes_further l = is_some (test l) || g l

    further_exact : Exact (Repeated test second N) (repeated_at test second p) goes_further
    further_exact = repeated_exact test second N p g exact quiet apart

    further_ends : (end : ℕ) (back rest : List Item) (values : List X) → Repeated test second N (lexemes back) values → Ends goes_further rest → Ends g (back ++ rest)
    further_ends end back rest values r ends = ends_behind test second N p g exact quiet apart back rest values r ends

    pub separated_exact : Exact (IsSeparated test N) (separated_at test p) goes_further
    separated_exact = then_exact prepend N (Repeated test second N) p (repeated_at test second p) g goes_further exact further_exact further_ends

  pub listed_exact : ((l : Lexeme) (u : Unit {0}) → sign signs.Comma l ≡ Some u → g l ≡ false) → Exact (IsListed N) (listed_at p) (λ l. is_some (sign signs.Comma l) || g l)
  listed_exact apart = separated_exact (sign signs.Comma) (quiet_sign signs.Comma) apart

  -- ( x )
  pub enclosed_exact : ((l : Lexeme) (u : Unit {0}) → sign signs.Close l ≡ Some u → g l ≡ false) → Exact (IsEnclosed N) (enclosed_at p) never
  enclosed_exact apart =
      then_exact second (One (sign signs.Open)) (Then first N (One (sign signs.Close))) (sign_at signs.Open) (then_at first p (sign_at signs.Close)) never never
      (one_exact (sign signs.Open) refl (Sign signs.Open) tt refl)
      (then_exact first N (One (sign signs.Close)) p (sign_at signs.Close) g never exact (one_exact (sign signs.Close) refl (Sign signs.Close) tt refl) (follows_token (sign signs.Close) g never apart))
      (follows_never (Then first N (One (sign signs.Close))) never)

abbrev pub takes : {S : Type 0} → (Lexeme → Option S) → Lexeme → Bool
takes test l = is_some (test l)
