-- One table of many: what is said of its rows is said of all tables.
use Rattle.std.proofs.Common.{◌≡◌, ℕ, zero, suc, ◌<◌, ◌≤◌, List, [], ◌∷◌, length, refl, sym, ap, subst, ◌∙◌, arith}
use Rattle.row_types.specs.Tables.{TableRows, Tables}
use Rattle.row_types.specs.declared.definition.TableDef.{TableDef}
use Rattle.key_space.specs.Plays.{Rows, OfTable, changed}
use Rattle.plain_model.specs.Calls.{Call}
use Rattle.plain_model.specs.CallPlays.{tables_of}
use Rattle.plain_model.specs.Meaning.{table_at}
use Rattle.plain_model.specs.Runs.{Since}
use Rattle.sql_exec.specs.Plays.{OnTable, Turns}
use Rattle.sql_exec.proofs.Playing.{plays_since}

-- a fact of table n is one of the table that stands there
pub fact_at : (tables : Tables) (n : ℕ) (Fact : TableRows → Type 0) → OfTable tables n Fact → Fact (table_at tables n)
fact_at [] n Fact is = absurd is
fact_at (t ∷ tables) zero Fact is = is
fact_at (t ∷ tables) (suc n) Fact is = fact_at tables n Fact is

pub there : (tables : Tables) (n : ℕ) (Fact : TableRows → Type 0) → OfTable tables n Fact → n < length tables
there [] n Fact is = absurd is
there (t ∷ tables) zero Fact is = omega arith
there (t ∷ tables) (suc n) Fact is = let rest = there tables n Fact is in omega arith

-- the rows of the table that is changed
pub rows_changed : (tables : Tables) (n : ℕ) (rows_of : TableRows → Rows) → n < length tables → (table_at (changed tables n rows_of) n).rows ≡ rows_of (table_at tables n)
rows_changed [] n rows_of less = absurd (omega arith)
rows_changed (t ∷ tables) zero rows_of less = refl
rows_changed (t ∷ tables) (suc n) rows_of less = rows_changed tables n rows_of (omega arith)

-- a table that isn't there is none after a change either
pub none_changed : (tables : Tables) (n : ℕ) (rows_of : TableRows → Rows) → length tables ≤ n → changed tables n rows_of ≡ tables
none_changed [] n rows_of out = refl
none_changed (t ∷ tables) zero rows_of out = absurd (omega arith)
none_changed (t ∷ tables) (suc n) rows_of out = ap (λ rest. t ∷ rest) (none_changed tables n rows_of (omega arith))

-- two changes that come to the same rows
pub same_changed : (tables : Tables) (n : ℕ) (f g : TableRows → Rows) → f (table_at tables n) ≡ g (table_at tables n) → changed tables n f ≡ changed tables n g
same_changed [] n f g same = refl
same_changed (t ∷ tables) zero f g same = ap (λ rows. record t { rows = rows } ∷ tables) same
same_changed (t ∷ tables) (suc n) f g same = ap (λ rest. t ∷ rest) (same_changed tables n f g same)

-- of two changes one after the other the rows of the last stand
pub changed_again : (tables : Tables) (n : ℕ) (r s : Rows) → changed (changed tables n (λ t. r)) n (λ t. s) ≡ changed tables n (λ t. s)
changed_again [] n r s = refl
changed_again (t ∷ tables) zero r s = refl
changed_again (t ∷ tables) (suc n) r s = ap (λ rest. t ∷ rest) (changed_again tables n r s)

pub unchanged : (tables : Tables) (n : ℕ) → tables ≡ changed tables n (λ t. (table_at tables n).rows)
unchanged [] n = refl
unchanged (t ∷ tables) zero = refl
unchanged (t ∷ tables) (suc n) = ap (λ rest. t ∷ rest) (unchanged tables n)

-- ---- Turns

-- nothing changes
pub stays : (n : ℕ) (Fact : Rows → Rows → Type 0) (old new : Tables) → new ≡ old → Fact (table_at old n).rows (table_at old n).rows → Turns n Fact old new
stays n Fact old new same fact = subst (Turns n Fact old) (sym same) (record { others = unchanged old n; rows = fact })

-- one change of table n
pub one_change : (n : ℕ) (rows_of : TableRows → Rows) (old new : Tables) → n < length old → new ≡ changed old n rows_of → Turns n (λ before after. after ≡ rows_of (table_at old n)) old new
one_change n rows_of old new less is =
    let now : (table_at new n).rows ≡ rows_of (table_at old n) = ap (λ (t : Tables). (table_at t n).rows) is ∙ rows_changed old n rows_of less in
    record { others = is ∙ same_changed old n rows_of (λ t. (table_at new n).rows) (sym now); rows = now }

-- one turn after the other
pub turns_on : (n : ℕ) (First Next All : Rows → Rows → Type 0) (a b c : Tables) → ((r s t : Rows) → First r s → Next s t → All r t) → Turns n First a b → Turns n Next b c → Turns n All a c
turns_on n First Next All a b c joined first next = record {
  others = next.others ∙ ap (λ (t : Tables). changed t n (λ x. (table_at c n).rows)) first.others ∙ changed_again a n (table_at b n).rows (table_at c n).rows;
  rows = joined _ _ _ first.rows next.rows;
}

pub weaker : (n : ℕ) (First All : Rows → Rows → Type 0) (a b : Tables) → ((r s : Rows) → First r s → All r s) → Turns n First a b → Turns n All a b
weaker n First All a b more first = record { others = first.others; rows = more _ _ first.rows }

-- ---- In the words of the calls

pub on_after : (defs : List TableDef) (n : ℕ) (First Next All : Rows → Rows → Type 0) (a b c : List Call) → Since b c → ((r s t : Rows) → First r s → Next s t → All r t)
    → OnTable defs n First a b → OnTable defs n Next b c → OnTable defs n All a c
on_after defs n First Next All a b c since joined first next start plays =
    turns_on n First Next All (tables_of start a) (tables_of start b) (tables_of start c) joined (first start (plays_since defs start b c since plays)) (next start plays)

pub on_weaker : (defs : List TableDef) (n : ℕ) (First All : Rows → Rows → Type 0) (a b : List Call) → ((r s : Rows) → First r s → All r s) → OnTable defs n First a b → OnTable defs n All a b
on_weaker defs n First All a b more first start plays = weaker n First All (tables_of start a) (tables_of start b) more (first start plays)
