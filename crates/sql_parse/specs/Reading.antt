-- How the parser reads, a function for each rule: the value and what is left, or the place of the fault. That
-- this reads the grammar, and finds its first fault, is proved.
use Prim.Native.Nat.{zero, suc}
use Rattle.std.specs.Prelude.{ℕ, Bool, true, false, List, [], ◌∷◌, length, Option, None, Some, Result, Ok}
use Rattle.std.specs.Prelude.{Err, option_and_then, pos, neg_ℤ, nat_le, ◌^◌, if◌then◌else◌}
use Rattle.sql_lex.specs.Spelling.{Lexeme, Number}
use Rattle.sql_lex.specs.Tokens.{Item}
use Rattle.sql_lex.specs.declared.keyword.Keyword.{Keyword}
use Rattle.sql_lex.specs.declared.keyword.Keyword.TheVariants as words
use Rattle.sql_lex.specs.declared.token.Sign.{Sign as Mark}
use Rattle.sql_lex.specs.declared.token.Sign.TheVariants as signs
use Rattle.sql_lex.specs.declared.scanning.ScanEnd.{ScanEnd}
use Rattle.sql_lex.specs.declared.scanning.ScanEnd.TheVariants.{Whole, NoToken}
use Rattle.row_types.specs.declared.row.Value.{Value}
use Rattle.row_types.specs.declared.row.Value.TheVariants as values
use Rattle.sql_parse.specs.declared.statement.Statement.{Statement}
use Rattle.row_types.specs.declared.definition.Kind.{Kind}
use Rattle.row_types.specs.declared.definition.Kind.TheVariants as kinds
use Rattle.row_types.specs.declared.definition.Column.{Column}
use Rattle.sql_parse.specs.declared.statement.Change.{Change}
use Rattle.sql_parse.specs.declared.statement.Condition.{Condition}
use Rattle.sql_parse.specs.declared.statement.Order.{Order}
use Rattle.sql_parse.specs.declared.statement.Shown.{Shown}
use Rattle.sql_parse.specs.declared.statement.Step.{Step}
use Rattle.sql_parse.specs.declared.statement.Term.{Term}
use Rattle.sql_parse.specs.declared.statement.Total.{Total}
use Rattle.sql_parse.specs.Phrases.{first, second, paired, prepend}
use Rattle.sql_parse.specs.Grammar.{word, sign, name_of, plain_value, insert_of, comparison_of, condition_of}
use Rattle.sql_parse.specs.Grammar.{a_name, column_term, value_term, step_sign, step_of, change_of, update_of}
use Rattle.sql_parse.specs.Grammar.{delete_of, all_columns, shown_columns, order_of, limit_of, select_of}
use Rattle.sql_parse.specs.Grammar.{count_all, sum_of, totals_of, total_word, text_word, int_word, text_kind}
use Rattle.sql_parse.specs.Grammar.{column_of, create_of, block_of}

-- the tokens that are left, and the place at which they end
pub record Left : Type 0 where
  pub end : ℕ
  pub items : List Item

-- the first of some tokens
abbrev pub first_lexeme : List Item → Option Lexeme
first_lexeme [] = None
first_lexeme (item ∷ items) = Some item.lexeme

-- the place of the first of some tokens, or the end where there is none
abbrev pub first_place : ℕ → List Item → ℕ
first_place end [] = end
first_place end (item ∷ items) = item.at

-- some tokens without the first
abbrev pub tail : List Item → List Item
tail [] = []
tail (item ∷ items) = items

-- what the next token is
abbrev pub next_of : Left → Option Lexeme
next_of left = first_lexeme left.items

-- the place of the next token
abbrev pub place_of : Left → ℕ
place_of left = first_place left.end left.items

-- what is left behind the next token
abbrev pub rest_of : Left → Left
rest_of left = record { end = left.end; items = tail left.items }

-- a value and what is left, or the place of a fault
abbrev pub Read : Type 0 → Type 0
Read X = Result (X × Left) ℕ

-- reading continues with what was read, or the fault stands
infixl 10 ◌>>=◌
abbrev pub ◌>>=◌ : {X Y : Type 0} → Read X → (X × Left → Read Y) → Read Y
(Ok x) >>= f = f x
(Err at) >>= f = Err at

-- the next token, where it gives a value
abbrev pub taken : {X : Type 0} → Left → Option X → Read X
taken left None = Err (place_of left)
taken left (Some x) = Ok (x, rest_of left)

-- one token that passes the test
abbrev pub one_at : {X : Type 0} → (Lexeme → Option X) → Left → Read X
one_at test left = taken left (option_and_then test (next_of left))

-- the one or the other, as the next token tells
abbrev pub chosen_at : {X : Type 0} → Option (Unit {0}) → (Left → Read X) → (Left → Read X) → Left → Read X
chosen_at None p q left = q left
chosen_at (Some _) p q left = p left

-- the one phrase where the next token passes the test, else the other
abbrev pub either_at : {X : Type 0} → (Lexeme → Option (Unit {0})) → (Left → Read X) → (Left → Read X) → Left
    → Read X
either_at test p q left = chosen_at (option_and_then test (next_of left)) p q left

-- nothing is read
abbrev pub nothing_at : {X : Type 0} → X → Left → Read X
nothing_at default left = Ok (default, left)

-- where the token was there, its phrase and then more of the same
abbrev pub repeated_step : {S X Z : Type 0} → (S → X → Z) → (Left → Read X) → Option S
    → (Left → Read (List Z)) → Left → Read (List Z)
repeated_step join p None again left = Ok ([], left)
repeated_step join p (Some s) again left =
    p (rest_of left) >>= λ x. (again x.1 >>= λ zs. Ok (join s x.0 ∷ zs.0, zs.1))

-- any number of times a token and a phrase, at most so many times
abbrev pub repeated_from : {S X Z : Type 0} → (Lexeme → Option S) → (S → X → Z) → (Left → Read X) → ℕ → Left
    → Read (List Z)
repeated_from test join p zero left = Ok ([], left)
repeated_from test join p (suc n) left =
    repeated_step join p (option_and_then test (next_of left)) (repeated_from test join p n) left

-- any number of times a token and a phrase, at most as often as there are tokens
abbrev pub repeated_at : {S X Z : Type 0} → (Lexeme → Option S) → (S → X → Z) → (Left → Read X) → Left
    → Read (List Z)
repeated_at test join p left = repeated_from test join p (length left.items) left

-- one phrase and then another
abbrev pub then_at : {X Y Z : Type 0} → (X → Y → Z) → (Left → Read X) → (Left → Read Y) → Left → Read Z
then_at join p q left = p left >>= λ x. (q x.1 >>= λ y. Ok (join x.0 y.0, y.1))

-- a number behind a minus that stands at the place
abbrev pub negative_of : ℕ → Left → Option Lexeme → Read Value
negative_of place left (Some (Number n)) =
    if nat_le n (2 ^ 63) then Ok (values.Int (neg_ℤ (pos n)), rest_of left) else Err place
negative_of place left _ = Err (place_of left)

-- the number behind a minus that stands at the place
abbrev pub negative_at : ℕ → Left → Read Value
negative_at place left = negative_of place left (next_of left)

-- a minus and its number; the fault of a number that is too great stands at its minus
abbrev pub signed_by : Option (Unit {0}) → Left → Read Value
signed_by None left = Err (place_of left)
signed_by (Some _) left = negative_at (place_of left) (rest_of left)

-- a minus and its number
abbrev pub signed_at : Left → Read Value
signed_at left = signed_by (option_and_then (sign signs.Minus) (next_of left)) left

-- a number with its sign, or a literal
abbrev pub value_at : Left → Read Value
value_at left = either_at (sign signs.Minus) signed_at (one_at plain_value) left

-- this keyword
abbrev pub word_at : Keyword → Left → Read (Unit {0})
word_at keyword left = one_at (word keyword) left

-- this sign
abbrev pub sign_at : Mark → Left → Read (Unit {0})
sign_at mark left = one_at (sign mark) left

-- a name
abbrev pub name_at : Left → Read (List ℕ)
name_at left = one_at name_of left

-- one phrase or more, with a token between them
abbrev pub separated_at : {X : Type 0} → (Lexeme → Option (Unit {0})) → (Left → Read X) → Left → Read (List X)
separated_at test p left = then_at prepend p (repeated_at test second p) left

-- one phrase or more, with commas between them
abbrev pub listed_at : {X : Type 0} → (Left → Read X) → Left → Read (List X)
listed_at p left = separated_at (sign signs.Comma) p left

-- a phrase in brackets
abbrev pub enclosed_at : {X : Type 0} → (Left → Read X) → Left → Read X
enclosed_at p left = then_at second (sign_at signs.Open) (then_at first p (sign_at signs.Close)) left

-- a keyword and the phrase behind it
abbrev pub behind_at : {X : Type 0} → Keyword → (Left → Read X) → Left → Read X
behind_at keyword p left = then_at second (word_at keyword) p left

-- a phrase, of whose value another is made
abbrev pub made_at : {X Y : Type 0} → (Unit {0} → X → Y) → (Left → Read X) → Left → Read Y
made_at make p left = then_at make (nothing_at tt) p left

-- the values of a row
unfoldable pub row_at : Left → Read (List Value)
row_at left = enclosed_at (listed_at value_at) left

-- an INSERT
unfoldable pub insert_at : Left → Read Statement
insert_at left =
    behind_at words.Insert
    (behind_at words.Into (then_at insert_of name_at (behind_at words.Values (listed_at row_at)))) left

-- a column, a comparison and a value
unfoldable pub condition_at : Left → Read Condition
condition_at left = then_at condition_of name_at (then_at paired (one_at comparison_of) value_at) left

-- the conditions behind WHERE, where it stands
unfoldable pub where_at : Left → Read (List Condition)
where_at left =
    either_at (word words.Where) (behind_at words.Where (separated_at (word words.And) condition_at))
    (nothing_at []) left

-- a column or a value
unfoldable pub term_at : Left → Read Term
term_at left = either_at a_name (made_at column_term name_at) (made_at value_term value_at) left

-- the further terms of a sum, each behind its sign
abbrev pub steps_at : Left → Read (List Step)
steps_at left = repeated_at step_sign step_of term_at left

-- a column and what it is set to
unfoldable pub change_at : Left → Read Change
change_at left =
    then_at change_of name_at (then_at second (sign_at signs.Equal) (then_at paired term_at steps_at)) left

-- an UPDATE
unfoldable pub update_at : Left → Read Statement
update_at left =
    behind_at words.Update
    (then_at update_of name_at (behind_at words.Set (then_at paired (listed_at change_at) where_at))) left

-- a DELETE
unfoldable pub delete_at : Left → Read Statement
delete_at left = behind_at words.Delete (behind_at words.From (then_at delete_of name_at where_at)) left

-- all columns, or those that are named
unfoldable pub shown_at : Left → Read Shown
shown_at left =
    either_at (sign signs.Star) (then_at all_columns (sign_at signs.Star) (nothing_at tt))
    (made_at shown_columns (listed_at name_at)) left

-- whether the order falls: DESC, or ASC, or no word
unfoldable pub direction_at : Left → Read Bool
direction_at left =
    either_at (word words.Asc) (behind_at words.Asc (nothing_at false))
    (either_at (word words.Desc) (behind_at words.Desc (nothing_at true)) (nothing_at false)) left

-- the order behind ORDER BY, where it stands
unfoldable pub order_at : Left → Read (Option Order)
order_at left =
    either_at (word words.Order)
    (behind_at words.Order (behind_at words.By (then_at order_of name_at direction_at)))
    (nothing_at None) left

-- the number behind LIMIT, where it stands
unfoldable pub limit_at : Left → Read (Option ℕ)
limit_at left = either_at (word words.Limit) (behind_at words.Limit (one_at limit_of)) (nothing_at None) left

-- what stands behind the SELECT of columns
unfoldable pub plain_at : Left → Read Statement
plain_at left =
    then_at select_of shown_at
    (behind_at words.From
    (then_at paired name_at (then_at paired where_at (then_at paired order_at limit_at)))) left

-- a COUNT or a SUM
unfoldable pub total_at : Left → Read Total
total_at left =
    either_at (word words.Count)
    (behind_at words.Count (enclosed_at (then_at count_all (sign_at signs.Star) (nothing_at tt))))
    (behind_at words.Sum (enclosed_at (made_at sum_of name_at))) left

-- what stands behind the SELECT of totals
unfoldable pub totals_at : Left → Read Statement
totals_at left =
    then_at totals_of (listed_at total_at) (behind_at words.From (then_at paired name_at where_at)) left

-- a SELECT
unfoldable pub select_at : Left → Read Statement
select_at left = behind_at words.Select (either_at total_word totals_at plain_at) left

-- the type of a column
unfoldable pub type_at : Left → Read Kind
type_at left =
    either_at int_word (then_at second (one_at int_word) (nothing_at kinds.Int))
    (then_at second (one_at text_word) (enclosed_at (one_at text_kind))) left

-- whether PRIMARY KEY stands there
unfoldable pub marked_at : Left → Read Bool
marked_at left =
    either_at (word words.Primary) (behind_at words.Primary (behind_at words.Key (nothing_at true)))
    (nothing_at false) left

-- a column of a definition, and whether it is marked as the key
unfoldable pub column_at : Left → Read (Column × Bool)
column_at left = then_at column_of name_at (then_at paired type_at marked_at) left

-- a CREATE TABLE
unfoldable pub create_at : Left → Read Statement
create_at left =
    behind_at words.Create
    (behind_at words.Table (then_at create_of name_at (enclosed_at (listed_at column_at)))) left

-- a statement, as its first word tells
unfoldable pub statement_at : Left → Read Statement
statement_at left =
    either_at (word words.Create) create_at
    (either_at (word words.Insert) insert_at
    (either_at (word words.Select) select_at
    (either_at (word words.Update) update_at
    (either_at (word words.Delete) delete_at (one_at block_of))))) left

-- no token is left
abbrev pub ended : {X : Type 0} → Left → List Item → X → Read X
ended left [] value = Ok (value, left)
ended left (item ∷ items) value = Err item.at

-- a phrase, behind which nothing stands
abbrev pub whole_by : {X : Type 0} → (Left → Read X) → Left → Read X
whole_by p left = p left >>= λ x. ended x.1 x.1.items x.0

-- the value that was read, without what is left
abbrev pub value_alone : {X : Type 0} → Read X → Result X ℕ
value_alone (Ok x) = Ok x.0
value_alone (Err at) = Err at

-- the value that the items are, which end at this place
abbrev pub whole_of : {X : Type 0} → (Left → Read X) → ℕ → List Item → Result X ℕ
whole_of p end items = value_alone (whole_by p (record { end = end; items = items }))

-- the place at which tokens end, of a text that ends at this place
abbrev pub end_of : ScanEnd → ℕ → ℕ
end_of Whole whole = whole
end_of (NoToken at) whole = at
