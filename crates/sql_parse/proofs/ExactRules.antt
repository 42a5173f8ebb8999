-- The rules of the grammar are read exactly.
use Rattle.std.proofs.Common.{◌≡◌, ℕ, Bool, true, false, ◌||◌, List, [], ◌∷◌, ◌++◌, Option, None, Some, refl, sym, ap, subst, ◌∙◌, ◌⊎◌, inl, inr}
use Rattle.std.specs.Prelude.{is_some}
use Rattle.sql_lex.specs.Spelling.{Lexeme, Word, Name, Number, Literal, Sign}
use Rattle.sql_lex.specs.declared.keyword.Keyword.{Keyword}
use Rattle.sql_lex.specs.declared.keyword.Keyword.TheVariants as words
use Rattle.sql_lex.specs.declared.token.Sign.TheVariants as signs
use Rattle.sql_lex.specs.Tokens.{Item}
use Rattle.row_types.specs.declared.definition.Kind.TheVariants as kinds
use Rattle.sql_parse.specs.declared.statement.Comparison.TheVariants as comparisons
use Rattle.sql_parse.specs.declared.statement.Statement.TheVariants as statements
use Rattle.sql_parse.specs.declared.statement.Total.{Total}
use Rattle.sql_parse.specs.declared.statement.Statement.{Statement}
use Rattle.sql_parse.specs.Words.{is_word}
use Rattle.sql_parse.specs.Phrases.{Phrase, One, Nothing, Then, Either, Repeated, second, paired, prepend}
use Rattle.sql_parse.specs.Grammar.{where_true, word, sign, name_of, IsName, plain_value, negated, int_value, IsValue, IsSeparated, IsListed, IsEnclosed, IsBehind, Made, IsRow, insert_of, IsInsert, comparison_of, condition_of, IsCondition, IsWhere, a_name, column_term, value_term, IsTerm, step_sign, step_of, change_of, IsChange, update_of, IsUpdate, delete_of, IsDelete, all_columns, shown_columns, IsShown, IsDirection, order_of, IsOrder, limit_of, IsLimit, select_of, IsPlain, count_all, sum_of, IsTotal, totals_of, IsTotals, total_word, IsSelect, text_word, int_word, text_kind, IsType, IsMarked, column_of, IsColumn, create_of, IsCreate, block_of, IsStatement}
use Rattle.sql_parse.specs.Reading.{Left, Read, Read, one_at, either_at, nothing_at, then_at, value_at, sign_at, name_at, separated_at, listed_at, enclosed_at, behind_at, made_at, insert_at, condition_at, where_at, term_at, steps_at, change_at, update_at, delete_at, shown_at, direction_at, order_at, limit_at, plain_at, total_at, totals_at, select_at, type_at, marked_at, column_at, create_at, statement_at}
use Rattle.sql_parse.proofs.Exact.{lexemes, Exact, never, one_exact, nothing_exact, then_exact, parts}
use Rattle.sql_parse.proofs.Choices.{Starts, either_exact}
use Rattle.sql_parse.proofs.Repetition.{repeated_exact}
use Rattle.sql_parse.proofs.ExactTokens.{quiet_sign, quiet_word, word_is, no_word, no_sign, Apart, apart_one, apart_nothing, apart_then, apart_first, apart_behind, apart_either, apart_repeated, starts_one, follows_first, follows_never, both, name_exact, behind_exact, made_exact, maybe_exact, separated_exact, listed_exact, enclosed_exact, takes}
use Rattle.sql_parse.proofs.ExactValues.{value_exact, goes_rows, insert_exact}

-- name and then x
named : {X Z : Type 0} (join : List ℕ → X → Z) (M : Phrase X) (q : Left → Read X) (h : Lexeme → Bool) → Exact M q h → Exact (Then join IsName M) (then_at join name_at q) h
named join M q h exact = then_exact join IsName M name_at q never h name_exact exact (follows_never M h)

-- a phrase that ends by itself and then x
after : {X Y Z : Type 0} (join : X → Y → Z) (N : Phrase X) (p : Left → Read X) (M : Phrase Y) (q : Left → Read Y) (h : Lexeme → Bool) → Exact N p never → Exact M q h → Exact (Then join N M) (then_at join p q) h
after join N p M q h one exact = then_exact join N M p q never h one exact (follows_never M h)

-- x and then what begins with a keyword
before_word : {X Y Z : Type 0} (join : X → Y → Z) (N : Phrase X) (p : Left → Read X) (g : Lexeme → Bool) (keyword : Keyword) (M : Phrase Y) (q : Left → Read Y) (h : Lexeme → Bool) → Exact N p g → Exact M q h → g (Word keyword) ≡ false → Exact (Then join N (IsBehind keyword M)) (then_at join p (behind_at keyword q)) h
before_word join N p g keyword M q h one exact apart = then_exact join N (IsBehind keyword M) p (behind_at keyword q) g h one (behind_exact M q h exact keyword) (follows_first (word keyword) second M g h (no_word keyword g apart))

-- what a keyword begins, or nothing
optional : {X : Type 0} (keyword : Keyword) (N : Phrase X) (p : Left → Read X) (g : Lexeme → Bool) (default : X) → Exact N p g → Exact (Either (IsBehind keyword N) (Nothing default)) (either_at (word keyword) (behind_at keyword p) (nothing_at default)) (λ l. takes (word keyword) l || (g l || never l))
optional keyword N p g default exact = either_exact (word keyword) (IsBehind keyword N) (Nothing default) (behind_at keyword p) (nothing_at default) g never (behind_exact N p g exact keyword) (nothing_exact default) (quiet_word keyword) (starts_one (word keyword) second N) (apart_nothing (takes (word keyword)) default)

pub condition_exact : Exact IsCondition condition_at never
unfolding condition_at
condition_exact = named condition_of (Then paired (One comparison_of) IsValue) (then_at paired (one_at comparison_of) value_at) never (after paired (One comparison_of) (one_at comparison_of) IsValue value_at never (one_exact comparison_of refl (Sign signs.Equal) comparisons.Equal refl) value_exact)

abbrev pub goes_and : Lexeme → Bool
goes_and l = is_some (word words.And l) || never l

abbrev pub goes_where : Lexeme → Bool
goes_where l = takes (word words.Where) l || (goes_and l || never l)

pub where_exact : Exact IsWhere where_at goes_where
unfolding where_at
where_exact = optional words.Where (IsSeparated (word words.And) IsCondition) (separated_at (word words.And) condition_at) goes_and [] (separated_exact IsCondition condition_at never condition_exact (word words.And) (quiet_word words.And) (λ l u e. refl))

apart_where : (g : Lexeme → Bool) → g (Word words.Where) ≡ false → Apart g IsWhere
apart_where g e = apart_either g (IsBehind words.Where (IsSeparated (word words.And) IsCondition)) (Nothing []) (apart_behind g words.Where (IsSeparated (word words.And) IsCondition) e) (apart_nothing g [])

is_name : (l : Lexeme) (x : List ℕ) → name_of l ≡ Some x → a_name l ≡ Some tt
is_name (Name n) x e = refl
is_name (Word n) x e = absurd (cc)
is_name (Number n) x e = absurd (cc)
is_name (Literal n) x e = absurd (cc)
is_name (Sign n) x e = absurd (cc)

-- a name first
name_starts : (front : List Item) (x : List ℕ) → IsName (lexemes front) x → Starts a_name front
name_starts [] x o = absurd (let e : [] ≡ o.token ∷ [] = o.only in cc)
name_starts (c ∷ cs) x o =
    let e : c.lexeme ∷ lexemes cs ≡ o.token ∷ [] = o.only in
    let same : c.lexeme ≡ o.token = cc in
    record { token = c; others = cs; split = refl; value = tt; passes = is_name c.lexeme x (ap name_of same ∙ o.passes) }

made_is : {X Y : Type 0} (make : Unit {0} → X → Y) (N : Phrase X) (front : List Lexeme) (y : Y) → Made make N front y → (x : X) × N front x
made_is make N front y m = (m.second, subst (λ (l : List Lexeme). N l m.second) (sym (m.split ∙ ap (λ (l : List Lexeme). l ++ m.back) m.begins.none)) m.goes_on)

column_starts : (front : List Item) (t : _) → Made column_term IsName (lexemes front) t → Starts a_name front
column_starts front t m = let n = made_is column_term IsName (lexemes front) t m in name_starts front n.0 n.1

plain_no_name : (l : Lexeme) (x : _) → plain_value l ≡ Some x → takes a_name l ≡ false
plain_no_name (Name n) x e = absurd (cc)
plain_no_name (Word n) x e = refl
plain_no_name (Number n) x e = refl
plain_no_name (Literal n) x e = refl
plain_no_name (Sign n) x e = refl

value_no_name : Apart (takes a_name) IsValue
value_no_name = apart_either (takes a_name) (Then int_value (One (sign signs.Minus)) (One negated)) (One plain_value) (apart_first (takes a_name) (sign signs.Minus) int_value (One negated) (no_sign signs.Minus (takes a_name) refl)) (apart_one (takes a_name) plain_value plain_no_name)

abbrev pub goes_term : Lexeme → Bool
goes_term l = takes a_name l || (never l || never l)

pub term_exact : Exact IsTerm term_at goes_term
unfolding term_at
term_exact = either_exact a_name (Made column_term IsName) (Made value_term IsValue) (made_at column_term name_at) (made_at value_term value_at) never never (made_exact IsName name_at never name_exact column_term) (made_exact IsValue value_at never value_exact value_term) (λ n. refl) column_starts (apart_then (takes a_name) value_term (Nothing tt) IsValue (apart_nothing (takes a_name) tt) value_no_name)

pub quiet_step : (n : ℕ) → step_sign (Number n) ≡ None
quiet_step n = refl

step_alone : (l : Lexeme) (s : Bool) → step_sign l ≡ Some s → goes_term l ≡ false
step_alone (Sign n) x e = refl
step_alone (Word n) x e = refl
step_alone (Number n) x e = refl
step_alone (Literal n) x e = refl
step_alone (Name n) x e = absurd (cc)

abbrev pub goes_steps : Lexeme → Bool
goes_steps l = is_some (step_sign l) || goes_term l

pub steps_exact : Exact (Repeated step_sign step_of IsTerm) steps_at goes_steps
steps_exact = repeated_exact step_sign step_of IsTerm term_at goes_term term_exact quiet_step step_alone

abbrev pub goes_change : Lexeme → Bool
goes_change l = goes_term l || goes_steps l

pub change_exact : Exact IsChange change_at goes_change
unfolding change_at
change_exact = named change_of (Then second (One (sign signs.Equal)) (Then paired IsTerm (Repeated step_sign step_of IsTerm))) (then_at second (sign_at signs.Equal) (then_at paired term_at steps_at)) goes_change (after second (One (sign signs.Equal)) (sign_at signs.Equal) (Then paired IsTerm (Repeated step_sign step_of IsTerm)) (then_at paired term_at steps_at) goes_change (one_exact (sign signs.Equal) refl (Sign signs.Equal) tt refl) (maybe_exact IsTerm term_at goes_term term_exact paired (Repeated step_sign step_of IsTerm) steps_at goes_steps steps_exact (apart_repeated goes_term step_sign step_of IsTerm step_alone)))

abbrev pub goes_changes : Lexeme → Bool
goes_changes l = is_some (sign signs.Comma l) || goes_change l

pub update_exact : Exact IsUpdate update_at (both goes_changes goes_where)
unfolding update_at
update_exact =
    let changes = listed_exact IsChange change_at goes_change change_exact (no_sign signs.Comma goes_change refl) in
    let rest = maybe_exact (IsListed IsChange) (listed_at change_at) goes_changes changes paired IsWhere where_at goes_where where_exact (apart_where goes_changes refl) in
    let set = behind_exact (Then paired (IsListed IsChange) IsWhere) (then_at paired (listed_at change_at) where_at) (both goes_changes goes_where) rest words.Set in
    behind_exact (Then update_of IsName (IsBehind words.Set (Then paired (IsListed IsChange) IsWhere))) (then_at update_of name_at (behind_at words.Set (then_at paired (listed_at change_at) where_at))) (both goes_changes goes_where) (named update_of (IsBehind words.Set (Then paired (IsListed IsChange) IsWhere)) (behind_at words.Set (then_at paired (listed_at change_at) where_at)) (both goes_changes goes_where) set) words.Update

pub delete_exact : Exact IsDelete delete_at goes_where
unfolding delete_at
delete_exact = behind_exact (IsBehind words.From (Then delete_of IsName IsWhere)) (behind_at words.From (then_at delete_of name_at where_at)) goes_where (behind_exact (Then delete_of IsName IsWhere) (then_at delete_of name_at where_at) goes_where (named delete_of IsWhere where_at goes_where where_exact) words.From) words.Delete

abbrev pub goes_names : Lexeme → Bool
goes_names l = is_some (sign signs.Comma l) || never l

names_exact : Exact (IsListed IsName) (listed_at name_at) goes_names
names_exact = listed_exact IsName name_at never name_exact (λ l u e. refl)

abbrev pub goes_shown : Lexeme → Bool
goes_shown l = takes (sign signs.Star) l || (never l || goes_names l)

name_no_sign : (g : Lexeme → Bool) → ((n : List ℕ) → g (Name n) ≡ false) → (l : Lexeme) (x : List ℕ) → name_of l ≡ Some x → g l ≡ false
name_no_sign g e (Name n) x f = e n
name_no_sign g e (Word n) x f = absurd (cc)
name_no_sign g e (Number n) x f = absurd (cc)
name_no_sign g e (Literal n) x f = absurd (cc)
name_no_sign g e (Sign n) x f = absurd (cc)

apart_names : (g : Lexeme → Bool) → ((n : List ℕ) → g (Name n) ≡ false) → g (Sign signs.Comma) ≡ false → Apart g (IsListed IsName)
apart_names g e f = apart_then g prepend IsName (Repeated (sign signs.Comma) second IsName) (apart_one g name_of (name_no_sign g e)) (apart_repeated g (sign signs.Comma) second IsName (no_sign signs.Comma g f))

star_exact : Exact (Then all_columns (One (sign signs.Star)) (Nothing tt)) (then_at all_columns (sign_at signs.Star) (nothing_at tt)) never
star_exact = after all_columns (One (sign signs.Star)) (sign_at signs.Star) (Nothing tt) (nothing_at tt) never (one_exact (sign signs.Star) refl (Sign signs.Star) tt refl) (nothing_exact tt)

pub shown_exact : Exact IsShown shown_at goes_shown
unfolding shown_at
shown_exact = either_exact (sign signs.Star) (Then all_columns (One (sign signs.Star)) (Nothing tt)) (Made shown_columns (IsListed IsName)) (then_at all_columns (sign_at signs.Star) (nothing_at tt)) (made_at shown_columns (listed_at name_at)) never goes_names star_exact (made_exact (IsListed IsName) (listed_at name_at) goes_names names_exact shown_columns) (quiet_sign signs.Star) (starts_one (sign signs.Star) all_columns (Nothing tt)) (apart_then (takes (sign signs.Star)) shown_columns (Nothing tt) (IsListed IsName) (apart_nothing (takes (sign signs.Star)) tt) (apart_names (takes (sign signs.Star)) (λ n. refl) refl))

abbrev goes_desc : Lexeme → Bool
goes_desc l = takes (word words.Desc) l || (never l || never l)

abbrev pub goes_direction : Lexeme → Bool
goes_direction l = takes (word words.Asc) l || (never l || goes_desc l)

pub direction_exact : Exact IsDirection direction_at goes_direction
unfolding direction_at
direction_exact = either_exact (word words.Asc) (IsBehind words.Asc (Nothing false)) (Either (IsBehind words.Desc (Nothing true)) (Nothing false)) (behind_at words.Asc (nothing_at false)) (either_at (word words.Desc) (behind_at words.Desc (nothing_at true)) (nothing_at false)) never goes_desc (behind_exact (Nothing false) (nothing_at false) never (nothing_exact false) words.Asc) (optional words.Desc (Nothing true) (nothing_at true) never false (nothing_exact true)) (quiet_word words.Asc) (starts_one (word words.Asc) second (Nothing false)) (apart_either (takes (word words.Asc)) (IsBehind words.Desc (Nothing true)) (Nothing false) (apart_behind (takes (word words.Asc)) words.Desc (Nothing true) refl) (apart_nothing (takes (word words.Asc)) false))

abbrev pub goes_order : Lexeme → Bool
goes_order l = takes (word words.Order) l || (goes_direction l || never l)

pub order_exact : Exact IsOrder order_at goes_order
unfolding order_at
order_exact = optional words.Order (IsBehind words.By (Then order_of IsName IsDirection)) (behind_at words.By (then_at order_of name_at direction_at)) goes_direction None (behind_exact (Then order_of IsName IsDirection) (then_at order_of name_at direction_at) goes_direction (named order_of IsDirection direction_at goes_direction direction_exact) words.By)

abbrev pub goes_limit : Lexeme → Bool
goes_limit l = takes (word words.Limit) l || (never l || never l)

pub limit_exact : Exact IsLimit limit_at goes_limit
unfolding limit_at
limit_exact = optional words.Limit (One limit_of) (one_at limit_of) never None (one_exact limit_of refl (Number 0) (Some 0) refl)

apart_order : (g : Lexeme → Bool) → g (Word words.Order) ≡ false → Apart g IsOrder
apart_order g e = apart_either g (IsBehind words.Order (IsBehind words.By (Then order_of IsName IsDirection))) (Nothing None) (apart_behind g words.Order (IsBehind words.By (Then order_of IsName IsDirection)) e) (apart_nothing g None)

apart_limit : (g : Lexeme → Bool) → g (Word words.Limit) ≡ false → Apart g IsLimit
apart_limit g e = apart_either g (IsBehind words.Limit (One limit_of)) (Nothing None) (apart_behind g words.Limit (One limit_of) e) (apart_nothing g None)

abbrev goes_tail : Lexeme → Bool
goes_tail = both goes_order goes_limit

abbrev pub goes_plain : Lexeme → Bool
goes_plain = both goes_where goes_tail

tail_exact : Exact (Then paired IsOrder IsLimit) (then_at paired order_at limit_at) goes_tail
tail_exact = maybe_exact IsOrder order_at goes_order order_exact paired IsLimit limit_at goes_limit limit_exact (apart_limit goes_order refl)

where_tail_exact : Exact (Then paired IsWhere (Then paired IsOrder IsLimit)) (then_at paired where_at (then_at paired order_at limit_at)) goes_plain
where_tail_exact = maybe_exact IsWhere where_at goes_where where_exact paired (Then paired IsOrder IsLimit) (then_at paired order_at limit_at) goes_tail tail_exact (apart_then goes_where paired IsOrder IsLimit (apart_order goes_where refl) (apart_limit goes_where refl))

pub plain_exact : Exact IsPlain plain_at goes_plain
unfolding plain_at
plain_exact = before_word select_of IsShown shown_at goes_shown words.From (Then paired IsName (Then paired IsWhere (Then paired IsOrder IsLimit))) (then_at paired name_at (then_at paired where_at (then_at paired order_at limit_at))) goes_plain shown_exact (named paired (Then paired IsWhere (Then paired IsOrder IsLimit)) (then_at paired where_at (then_at paired order_at limit_at)) goes_plain where_tail_exact) refl

abbrev IsCount : Phrase Total
IsCount = IsEnclosed (Then count_all (One (sign signs.Star)) (Nothing tt))

abbrev IsSum : Phrase Total
IsSum = IsEnclosed (Made sum_of IsName)

count_exact : Exact IsCount (enclosed_at (then_at count_all (sign_at signs.Star) (nothing_at tt))) never
count_exact = enclosed_exact (Then count_all (One (sign signs.Star)) (Nothing tt)) (then_at count_all (sign_at signs.Star) (nothing_at tt)) never (after count_all (One (sign signs.Star)) (sign_at signs.Star) (Nothing tt) (nothing_at tt) never (one_exact (sign signs.Star) refl (Sign signs.Star) tt refl) (nothing_exact tt)) (λ l u e. refl)

sum_exact : Exact IsSum (enclosed_at (made_at sum_of name_at)) never
sum_exact = enclosed_exact (Made sum_of IsName) (made_at sum_of name_at) never (made_exact IsName name_at never name_exact sum_of) (λ l u e. refl)

abbrev pub goes_total : Lexeme → Bool
goes_total l = takes (word words.Count) l || (never l || never l)

pub total_exact : Exact IsTotal total_at goes_total
unfolding total_at
total_exact = either_exact (word words.Count) (IsBehind words.Count IsCount) (IsBehind words.Sum IsSum) (behind_at words.Count (enclosed_at (then_at count_all (sign_at signs.Star) (nothing_at tt)))) (behind_at words.Sum (enclosed_at (made_at sum_of name_at))) never never (behind_exact IsCount (enclosed_at (then_at count_all (sign_at signs.Star) (nothing_at tt))) never count_exact words.Count) (behind_exact IsSum (enclosed_at (made_at sum_of name_at)) never sum_exact words.Sum) (quiet_word words.Count) (starts_one (word words.Count) second IsCount) (apart_behind (takes (word words.Count)) words.Sum IsSum refl)

abbrev goes_totals_list : Lexeme → Bool
goes_totals_list l = is_some (sign signs.Comma l) || goes_total l

pub totals_exact : Exact IsTotals totals_at goes_where
unfolding totals_at
totals_exact = before_word totals_of (IsListed IsTotal) (listed_at total_at) goes_totals_list words.From (Then paired IsName IsWhere) (then_at paired name_at where_at) goes_where (listed_exact IsTotal total_at goes_total total_exact (no_sign signs.Comma goes_total refl)) (named paired IsWhere where_at goes_where where_exact) refl

starts_as : {S T : Type 0} (test : Lexeme → Option S) (other : Lexeme → Option T) (t : T) (front : List Item) → ((l : Lexeme) (s : S) → test l ≡ Some s → other l ≡ Some t) → Starts test front → Starts other front
starts_as test other t front same s = record { token = s.token; others = s.others; split = s.split; value = t; passes = same s.token.lexeme s.value s.passes }

total_starts : (front : List Item) (x : _) → IsTotal (lexemes front) x → Starts total_word front
total_starts front x (inl c) = starts_as (word words.Count) total_word tt front (λ l u e. ap total_word (word_is words.Count l u e)) (starts_one (word words.Count) second IsCount front x c)
total_starts front x (inr c) = starts_as (word words.Sum) total_word tt front (λ l u e. ap total_word (word_is words.Sum l u e)) (starts_one (word words.Sum) second IsSum front x c)

starts_front : {S : Type 0} (test : Lexeme → Option S) (front back : List Item) → Starts test front → Starts test (front ++ back)
starts_front test front back s = record { token = s.token; others = s.others ++ back; split = ap (λ (l : List Item). l ++ back) s.split; value = s.value; passes = s.passes }

starts_then : {S X Y Z : Type 0} (test : Lexeme → Option S) (join : X → Y → Z) (N : Phrase X) (M : Phrase Y) → ((front : List Item) (x : X) → N (lexemes front) x → Starts test front) → (front : List Item) (z : Z) → Then join N M (lexemes front) z → Starts test front
starts_then test join N M starts front z t =
    let part = parts front t.front t.back t.split in
    subst (Starts test) (sym part.split) (starts_front test part.front part.back (starts part.front t.first (subst (λ (l : List Lexeme). N l t.first) (sym part.front_is) t.begins)))

totals_starts : (front : List Item) (x : _) → IsTotals (lexemes front) x → Starts total_word front
totals_starts = starts_then total_word totals_of (IsListed IsTotal) (IsBehind words.From (Then paired IsName IsWhere)) (starts_then total_word prepend IsTotal (Repeated (sign signs.Comma) second IsTotal) total_starts)

shown_no_total : Apart (takes total_word) IsShown
shown_no_total = apart_either (takes total_word) (Then all_columns (One (sign signs.Star)) (Nothing tt)) (Made shown_columns (IsListed IsName)) (apart_first (takes total_word) (sign signs.Star) all_columns (Nothing tt) (no_sign signs.Star (takes total_word) refl)) (apart_then (takes total_word) shown_columns (Nothing tt) (IsListed IsName) (apart_nothing (takes total_word) tt) (apart_names (takes total_word) (λ n. refl) refl))

plain_no_total : Apart (takes total_word) IsPlain
plain_no_total = apart_then (takes total_word) select_of IsShown (IsBehind words.From (Then paired IsName (Then paired IsWhere (Then paired IsOrder IsLimit)))) shown_no_total (apart_behind (takes total_word) words.From (Then paired IsName (Then paired IsWhere (Then paired IsOrder IsLimit))) refl)

abbrev pub goes_select : Lexeme → Bool
goes_select l = takes total_word l || (goes_where l || goes_plain l)

pub select_exact : Exact IsSelect select_at goes_select
unfolding select_at
select_exact = behind_exact (Either IsTotals IsPlain) (either_at total_word totals_at plain_at) goes_select (either_exact total_word IsTotals IsPlain totals_at plain_at goes_where goes_plain totals_exact plain_exact (λ n. refl) totals_starts plain_no_total) words.Select

either_passed : (l : Lexeme) (a b : Keyword) (t : Bool) → is_word a l ≡ t → ◌≡◌ {A = Option (Unit {0})} (where_true (is_word a l || is_word b l) tt) (Some tt) → (l ≡ Word a) ⊎ (l ≡ Word b)
either_passed l a b true e f = inl (word_is a l tt (ap (λ (t : Bool). where_true t tt) e))
either_passed l a b false e f = inr (word_is b l tt (sym (ap (λ (t : Bool). where_true (t || is_word b l) tt) e) ∙ f))

either_word : (l : Lexeme) (a b : Keyword) → ◌≡◌ {A = Option (Unit {0})} (where_true (is_word a l || is_word b l) tt) (Some tt) → (l ≡ Word a) ⊎ (l ≡ Word b)
either_word l a b e = either_passed l a b (is_word a l) refl e

text_no_int : (l : Lexeme) (u : Unit {0}) → text_word l ≡ Some u → takes int_word l ≡ false
text_no_int l u e = elim (either_word l words.Text words.Varchar e) as (λ _. takes int_word l ≡ false) [ inl f ↦ ap (takes int_word) f | inr f ↦ ap (takes int_word) f ]

abbrev pub goes_type : Lexeme → Bool
goes_type l = takes int_word l || (never l || never l)

pub type_exact : Exact IsType type_at goes_type
unfolding type_at
type_exact = either_exact int_word (Then second (One int_word) (Nothing kinds.Int)) (Then second (One text_word) (IsEnclosed (One text_kind))) (then_at second (one_at int_word) (nothing_at kinds.Int)) (then_at second (one_at text_word) (enclosed_at (one_at text_kind))) never never (after second (One int_word) (one_at int_word) (Nothing kinds.Int) (nothing_at kinds.Int) never (one_exact int_word refl (Word words.Int) tt refl) (nothing_exact kinds.Int)) (after second (One text_word) (one_at text_word) (IsEnclosed (One text_kind)) (enclosed_at (one_at text_kind)) never (one_exact text_word refl (Word words.Text) tt refl) (enclosed_exact (One text_kind) (one_at text_kind) never (one_exact text_kind refl (Number 1) (kinds.Text 1) refl) (λ l u e. refl))) (λ n. refl) (starts_one int_word second (Nothing kinds.Int)) (apart_first (takes int_word) text_word second (IsEnclosed (One text_kind)) text_no_int)

abbrev pub goes_marked : Lexeme → Bool
goes_marked l = takes (word words.Primary) l || (never l || never l)

pub marked_exact : Exact IsMarked marked_at goes_marked
unfolding marked_at
marked_exact = optional words.Primary (IsBehind words.Key (Nothing true)) (behind_at words.Key (nothing_at true)) never false (behind_exact (Nothing true) (nothing_at true) never (nothing_exact true) words.Key)

apart_marked : (g : Lexeme → Bool) → g (Word words.Primary) ≡ false → Apart g IsMarked
apart_marked g e = apart_either g (IsBehind words.Primary (IsBehind words.Key (Nothing true))) (Nothing false) (apart_behind g words.Primary (IsBehind words.Key (Nothing true)) e) (apart_nothing g false)

abbrev pub goes_column : Lexeme → Bool
goes_column = both goes_type goes_marked

pub column_exact : Exact IsColumn column_at goes_column
unfolding column_at
column_exact = named column_of (Then paired IsType IsMarked) (then_at paired type_at marked_at) goes_column (maybe_exact IsType type_at goes_type type_exact paired IsMarked marked_at goes_marked marked_exact (apart_marked goes_type refl))

abbrev goes_columns : Lexeme → Bool
goes_columns l = is_some (sign signs.Comma l) || goes_column l

pub columns_exact : Exact (IsListed IsColumn) (listed_at column_at) goes_columns
columns_exact = listed_exact IsColumn column_at goes_column column_exact (no_sign signs.Comma goes_column refl)

pub create_exact : Exact IsCreate create_at never
unfolding create_at
create_exact =
    let enclosed = enclosed_exact (IsListed IsColumn) (listed_at column_at) goes_columns columns_exact (no_sign signs.Close goes_columns refl) in
    let table = named create_of (IsEnclosed (IsListed IsColumn)) (enclosed_at (listed_at column_at)) never enclosed in
    behind_exact (IsBehind words.Table (Then create_of IsName (IsEnclosed (IsListed IsColumn)))) (behind_at words.Table (then_at create_of name_at (enclosed_at (listed_at column_at)))) never (behind_exact (Then create_of IsName (IsEnclosed (IsListed IsColumn))) (then_at create_of name_at (enclosed_at (listed_at column_at))) never table words.Table) words.Create

block_alone : (g : Lexeme → Bool) → g (Word words.Begin) ≡ false → g (Word words.Commit) ≡ false → g (Word words.Rollback) ≡ false → (l : Lexeme) (x : Statement) → block_of l ≡ Some x → g l ≡ false
block_alone g a b c (Name n) x e = absurd (cc)
block_alone g a b c (Number n) x e = absurd (cc)
block_alone g a b c (Literal n) x e = absurd (cc)
block_alone g a b c (Sign n) x e = absurd (cc)
block_alone g a b c (Word words.Begin) x e = a
block_alone g a b c (Word words.Commit) x e = b
block_alone g a b c (Word words.Rollback) x e = c
block_alone g a b c (Word words.And) x e = absurd (cc)
block_alone g a b c (Word words.Asc) x e = absurd (cc)
block_alone g a b c (Word words.Bigint) x e = absurd (cc)
block_alone g a b c (Word words.By) x e = absurd (cc)
block_alone g a b c (Word words.Checkpoint) x e = absurd (cc)
block_alone g a b c (Word words.Count) x e = absurd (cc)
block_alone g a b c (Word words.Create) x e = absurd (cc)
block_alone g a b c (Word words.Delete) x e = absurd (cc)
block_alone g a b c (Word words.Desc) x e = absurd (cc)
block_alone g a b c (Word words.From) x e = absurd (cc)
block_alone g a b c (Word words.Insert) x e = absurd (cc)
block_alone g a b c (Word words.Int) x e = absurd (cc)
block_alone g a b c (Word words.Integer) x e = absurd (cc)
block_alone g a b c (Word words.Into) x e = absurd (cc)
block_alone g a b c (Word words.Key) x e = absurd (cc)
block_alone g a b c (Word words.Limit) x e = absurd (cc)
block_alone g a b c (Word words.Order) x e = absurd (cc)
block_alone g a b c (Word words.Primary) x e = absurd (cc)
block_alone g a b c (Word words.Select) x e = absurd (cc)
block_alone g a b c (Word words.Set) x e = absurd (cc)
block_alone g a b c (Word words.Sum) x e = absurd (cc)
block_alone g a b c (Word words.Table) x e = absurd (cc)
block_alone g a b c (Word words.Text) x e = absurd (cc)
block_alone g a b c (Word words.Update) x e = absurd (cc)
block_alone g a b c (Word words.Values) x e = absurd (cc)
block_alone g a b c (Word words.Varchar) x e = absurd (cc)
block_alone g a b c (Word words.Where) x e = absurd (cc)

apart_block : (g : Lexeme → Bool) → g (Word words.Begin) ≡ false → g (Word words.Commit) ≡ false → g (Word words.Rollback) ≡ false → Apart g (One block_of)
apart_block g a b c = apart_one g block_of (block_alone g a b c)

block_exact : Exact (One block_of) (one_at block_of) never
block_exact = one_exact block_of refl (Word words.Begin) statements.Begin refl

abbrev IsAfterUpdate : Phrase Statement
IsAfterUpdate = Either IsDelete (One block_of)

abbrev after_update_at : Left → Read Statement
after_update_at left = either_at (word words.Delete) delete_at (one_at block_of) left

abbrev goes_after_update : Lexeme → Bool
goes_after_update l = takes (word words.Delete) l || (goes_where l || never l)

after_update_exact : Exact IsAfterUpdate after_update_at goes_after_update
after_update_exact = either_exact (word words.Delete) IsDelete (One block_of) delete_at (one_at block_of) goes_where never delete_exact block_exact (quiet_word words.Delete) (starts_one (word words.Delete) second (IsBehind words.From (Then delete_of IsName IsWhere))) (apart_block (takes (word words.Delete)) refl refl refl)

abbrev IsAfterSelect : Phrase Statement
IsAfterSelect = Either IsUpdate IsAfterUpdate

abbrev after_select_at : Left → Read Statement
after_select_at left = either_at (word words.Update) update_at after_update_at left

abbrev goes_after_select : Lexeme → Bool
goes_after_select l = takes (word words.Update) l || (both goes_changes goes_where l || goes_after_update l)

apart_after_update : (g : Lexeme → Bool) → g (Word words.Delete) ≡ false → g (Word words.Begin) ≡ false → g (Word words.Commit) ≡ false → g (Word words.Rollback) ≡ false → Apart g IsAfterUpdate
apart_after_update g d a b c = apart_either g IsDelete (One block_of) (apart_behind g words.Delete (IsBehind words.From (Then delete_of IsName IsWhere)) d) (apart_block g a b c)

after_select_exact : Exact IsAfterSelect after_select_at goes_after_select
after_select_exact = either_exact (word words.Update) IsUpdate IsAfterUpdate update_at after_update_at (both goes_changes goes_where) goes_after_update update_exact after_update_exact (quiet_word words.Update) (starts_one (word words.Update) second (Then update_of IsName (IsBehind words.Set (Then paired (IsListed IsChange) IsWhere)))) (apart_after_update (takes (word words.Update)) refl refl refl refl)

abbrev IsAfterInsert : Phrase Statement
IsAfterInsert = Either IsSelect IsAfterSelect

abbrev after_insert_at : Left → Read Statement
after_insert_at left = either_at (word words.Select) select_at after_select_at left

abbrev goes_after_insert : Lexeme → Bool
goes_after_insert l = takes (word words.Select) l || (goes_select l || goes_after_select l)

apart_after_select : (g : Lexeme → Bool) → g (Word words.Update) ≡ false → g (Word words.Delete) ≡ false → g (Word words.Begin) ≡ false → g (Word words.Commit) ≡ false → g (Word words.Rollback) ≡ false → Apart g IsAfterSelect
apart_after_select g u d a b c = apart_either g IsUpdate IsAfterUpdate (apart_behind g words.Update (Then update_of IsName (IsBehind words.Set (Then paired (IsListed IsChange) IsWhere))) u) (apart_after_update g d a b c)

after_insert_exact : Exact IsAfterInsert after_insert_at goes_after_insert
after_insert_exact = either_exact (word words.Select) IsSelect IsAfterSelect select_at after_select_at goes_select goes_after_select select_exact after_select_exact (quiet_word words.Select) (starts_one (word words.Select) second (Either IsTotals IsPlain)) (apart_after_select (takes (word words.Select)) refl refl refl refl refl)

abbrev IsAfterCreate : Phrase Statement
IsAfterCreate = Either IsInsert IsAfterInsert

abbrev after_create_at : Left → Read Statement
after_create_at left = either_at (word words.Insert) insert_at after_insert_at left

abbrev goes_after_create : Lexeme → Bool
goes_after_create l = takes (word words.Insert) l || (goes_rows l || goes_after_insert l)

apart_after_insert : (g : Lexeme → Bool) → g (Word words.Select) ≡ false → g (Word words.Update) ≡ false → g (Word words.Delete) ≡ false → g (Word words.Begin) ≡ false → g (Word words.Commit) ≡ false → g (Word words.Rollback) ≡ false → Apart g IsAfterInsert
apart_after_insert g s u d a b c = apart_either g IsSelect IsAfterSelect (apart_behind g words.Select (Either IsTotals IsPlain) s) (apart_after_select g u d a b c)

after_create_exact : Exact IsAfterCreate after_create_at goes_after_create
after_create_exact = either_exact (word words.Insert) IsInsert IsAfterInsert insert_at after_insert_at goes_rows goes_after_insert insert_exact after_insert_exact (quiet_word words.Insert) (starts_one (word words.Insert) second (IsBehind words.Into (Then insert_of IsName (IsBehind words.Values (IsListed IsRow))))) (apart_after_insert (takes (word words.Insert)) refl refl refl refl refl refl)

apart_after_create : (g : Lexeme → Bool) → g (Word words.Insert) ≡ false → g (Word words.Select) ≡ false → g (Word words.Update) ≡ false → g (Word words.Delete) ≡ false → g (Word words.Begin) ≡ false → g (Word words.Commit) ≡ false → g (Word words.Rollback) ≡ false → Apart g IsAfterCreate
apart_after_create g i s u d a b c = apart_either g IsInsert IsAfterInsert (apart_behind g words.Insert (IsBehind words.Into (Then insert_of IsName (IsBehind words.Values (IsListed IsRow)))) i) (apart_after_insert g s u d a b c)

abbrev pub goes_statement : Lexeme → Bool
goes_statement l = takes (word words.Create) l || (never l || goes_after_create l)

pub statement_exact : Exact IsStatement statement_at goes_statement
unfolding statement_at
statement_exact = either_exact (word words.Create) IsCreate IsAfterCreate create_at after_create_at never goes_after_create create_exact after_create_exact (quiet_word words.Create) (starts_one (word words.Create) second (IsBehind words.Table (Then create_of IsName (IsEnclosed (IsListed IsColumn))))) (apart_after_create (takes (word words.Create)) refl refl refl refl refl refl refl)
