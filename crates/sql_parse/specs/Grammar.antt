-- The grammar: which tokens are which statement, one rule for each of its lines.
use Rattle.std.specs.Prelude.{ℕ, ◌+◌, ◌^◌, min, Bool, true, false, ◌&&◌, ◌||◌, nat_le, nat_lt, if◌then◌else◌}
use Rattle.std.specs.Prelude.{ℤ, pos, neg_ℤ, List, [], ◌∷◌, length, map, Option, None, Some}
use Rattle.sql_lex.specs.Spelling.{Lexeme, Word, Name, Number, Literal, Sign}
use Rattle.sql_lex.specs.declared.keyword.Keyword.{Keyword}
use Rattle.sql_lex.specs.declared.keyword.Keyword.TheVariants as words
use Rattle.sql_lex.specs.declared.token.Sign.TheVariants as signs
use Rattle.sql_lex.specs.declared.token.Sign.{Sign as Mark}
use Rattle.row_types.specs.declared.row.Value.{Value}
use Rattle.row_types.specs.declared.row.Value.TheVariants as values
use Rattle.row_types.specs.declared.definition.Kind.{Kind}
use Rattle.row_types.specs.declared.definition.Kind.TheVariants as kinds
use Rattle.row_types.specs.declared.definition.Column.{Column}
use Rattle.sql_parse.specs.declared.statement.Statement.{Statement}
use Rattle.sql_parse.specs.declared.statement.Statement.TheVariants as statements
use Rattle.sql_parse.specs.declared.statement.Change.{Change}
use Rattle.sql_parse.specs.declared.statement.Comparison.{Comparison}
use Rattle.sql_parse.specs.declared.statement.Condition.{Condition}
use Rattle.sql_parse.specs.declared.statement.Order.{Order}
use Rattle.sql_parse.specs.declared.statement.Shown.{Shown}
use Rattle.sql_parse.specs.declared.statement.Step.{Step}
use Rattle.sql_parse.specs.declared.statement.Term.{Term}
use Rattle.sql_parse.specs.declared.statement.Total.{Total}
use Rattle.sql_parse.specs.declared.statement.Comparison.TheVariants as comparisons
use Rattle.sql_parse.specs.declared.statement.Shown.TheVariants as showns
use Rattle.sql_parse.specs.declared.statement.Term.TheVariants as terms
use Rattle.sql_parse.specs.declared.statement.Total.TheVariants as totals
use Rattle.sql_parse.specs.Phrases.{Phrase, One, Nothing, Then, Either, Repeated, first, second, paired}
use Rattle.sql_parse.specs.Phrases.{prepend}
use Rattle.sql_parse.specs.Quotes.{unquoted}
use Rattle.sql_parse.specs.Words.{is_word, is_sign}

-- the value where the test holds
abbrev pub where_true : {X : Type 0} → Bool → X → Option X
where_true true x = Some x
where_true false x = None

-- a keyword
abbrev pub word : Keyword → Lexeme → Option (Unit {0})
word keyword lexeme = where_true (is_word keyword lexeme) tt

-- a sign
abbrev pub sign : Mark → Lexeme → Option (Unit {0})
sign mark lexeme = where_true (is_sign mark lexeme) tt

-- a name has at most 32 bytes
abbrev pub name_of : Lexeme → Option (List ℕ)
name_of (Name name) = where_true (nat_le 1 (length name) && nat_le (length name) 32) name
name_of _ = None

-- a name
abbrev pub IsName : Phrase (List ℕ)
IsName = One name_of

-- a number below 2 ^ 63, or a text
abbrev pub plain_value : Lexeme → Option Value
plain_value (Number n) = where_true (nat_lt n (2 ^ 63)) (values.Int (pos n))
plain_value (Literal raw) = Some (values.Text (unquoted raw))
plain_value _ = None

-- what stands behind a minus: a number up to 2 ^ 63
abbrev pub negated : Lexeme → Option ℤ
negated (Number n) = where_true (nat_le n (2 ^ 63)) (neg_ℤ (pos n))
negated _ = None

-- a number as a value, behind its minus
abbrev pub int_value : Unit {0} → ℤ → Value
int_value _ n = values.Int n

-- value = [ - ] number | text
abbrev pub IsValue : Phrase Value
IsValue = Either (Then int_value (One (sign signs.Minus)) (One negated)) (One plain_value)

-- x { s x }, with this between two of them
abbrev pub IsSeparated : {X : Type 0} → (Lexeme → Option (Unit {0})) → Phrase X → Phrase (List X)
IsSeparated test N = Then prepend N (Repeated test second N)

-- x { , x }
abbrev pub IsListed : {X : Type 0} → Phrase X → Phrase (List X)
IsListed N = IsSeparated (sign signs.Comma) N

-- ( x )
abbrev pub IsEnclosed : {X : Type 0} → Phrase X → Phrase X
IsEnclosed N = Then second (One (sign signs.Open)) (Then first N (One (sign signs.Close)))

-- a keyword and then x
abbrev pub IsBehind : {X : Type 0} → Keyword → Phrase X → Phrase X
IsBehind keyword N = Then second (One (word keyword)) N

-- x as another value
abbrev pub Made : {X Y : Type 0} → (Unit {0} → X → Y) → Phrase X → Phrase Y
Made make N = Then make (Nothing tt) N

-- row = ( value { , value } )
abbrev pub IsRow : Phrase (List Value)
IsRow = IsEnclosed (IsListed IsValue)

-- the INSERT of these rows into this table
abbrev pub insert_of : List ℕ → List (List Value) → Statement
insert_of table rows = statements.Insert (record { table = table; rows = rows })

-- insert = INSERT INTO name VALUES row { , row }
abbrev pub IsInsert : Phrase Statement
IsInsert =
    IsBehind words.Insert
    (IsBehind words.Into (Then insert_of IsName (IsBehind words.Values (IsListed IsRow))))

-- op is one of = <> < <= > >=
abbrev pub comparison_of_sign : Mark → Option Comparison
comparison_of_sign signs.Equal = Some comparisons.Equal
comparison_of_sign signs.NotEqual = Some comparisons.NotEqual
comparison_of_sign signs.Less = Some comparisons.Less
comparison_of_sign signs.LessEqual = Some comparisons.LessEqual
comparison_of_sign signs.Greater = Some comparisons.Greater
comparison_of_sign signs.GreaterEqual = Some comparisons.GreaterEqual
comparison_of_sign _ = None

-- which comparison a token is
abbrev pub comparison_of : Lexeme → Option Comparison
comparison_of (Sign mark) = comparison_of_sign mark
comparison_of _ = None

-- the condition on this column
abbrev pub condition_of : List ℕ → Comparison × Value → Condition
condition_of column rest = record { column = column; comparison = rest.0; value = rest.1 }

-- cond = name op value
abbrev pub IsCondition : Phrase Condition
IsCondition = Then condition_of IsName (Then paired (One comparison_of) IsValue)

-- where = WHERE cond { AND cond }, or nothing
abbrev pub IsWhere : Phrase (List Condition)
IsWhere = Either (IsBehind words.Where (IsSeparated (word words.And) IsCondition)) (Nothing [])

-- any name, of whatever length
abbrev pub a_name : Lexeme → Option (Unit {0})
a_name (Name name) = Some tt
a_name _ = None

-- what this column has
abbrev pub column_term : Unit {0} → List ℕ → Term
column_term _ name = terms.Column name

-- this value
abbrev pub value_term : Unit {0} → Value → Term
value_term _ value = terms.Value value

-- term = [ - ] number | text | name
abbrev pub IsTerm : Phrase Term
IsTerm = Either (Made column_term IsName) (Made value_term IsValue)

-- a plus (false), or a minus (true)
abbrev pub step_of_sign : Mark → Option Bool
step_of_sign signs.Plus = Some false
step_of_sign signs.Minus = Some true
step_of_sign _ = None

-- the same of a token
abbrev pub step_sign : Lexeme → Option Bool
step_sign (Sign mark) = step_of_sign mark
step_sign _ = None

-- a term that is added or taken away
abbrev pub step_of : Bool → Term → Step
step_of is_minus term = record { is_minus = is_minus; term = term }

-- the change of this column
abbrev pub change_of : List ℕ → Term × List Step → Change
change_of column expression = record { column = column; first = expression.0; further = expression.1 }

-- set = name = expr, and expr = term { ( + | - ) term }
abbrev pub IsChange : Phrase Change
IsChange =
    Then change_of IsName
    (Then second (One (sign signs.Equal)) (Then paired IsTerm (Repeated step_sign step_of IsTerm)))

-- the UPDATE of this table
abbrev pub update_of : List ℕ → List Change × List Condition → Statement
update_of table rest = statements.Update (record { table = table; changes = rest.0; conditions = rest.1 })

-- update = UPDATE name SET set { , set } [ where ]
abbrev pub IsUpdate : Phrase Statement
IsUpdate =
    IsBehind words.Update
    (Then update_of IsName (IsBehind words.Set (Then paired (IsListed IsChange) IsWhere)))

-- the DELETE from this table
abbrev pub delete_of : List ℕ → List Condition → Statement
delete_of table conditions = statements.Delete (record { table = table; conditions = conditions })

-- delete = DELETE FROM name [ where ]
abbrev pub IsDelete : Phrase Statement
IsDelete = IsBehind words.Delete (IsBehind words.From (Then delete_of IsName IsWhere))

-- all columns are shown
abbrev pub all_columns : Unit {0} → Unit {0} → Shown
all_columns _ _ = showns.All

-- these columns are shown
abbrev pub shown_columns : Unit {0} → List (List ℕ) → Shown
shown_columns _ names = showns.Columns names

-- plain = * | name { , name }
abbrev pub IsShown : Phrase Shown
IsShown =
    Either (Then all_columns (One (sign signs.Star)) (Nothing tt)) (Made shown_columns (IsListed IsName))

-- [ ASC | DESC ]: whether it falls
abbrev pub IsDirection : Phrase Bool
IsDirection =
    Either (IsBehind words.Asc (Nothing false)) (Either (IsBehind words.Desc (Nothing true)) (Nothing false))

-- the order of this column
abbrev pub order_of : List ℕ → Bool → Option Order
order_of column is_falling = Some (record { column = column; is_falling = is_falling })

-- [ ORDER BY name [ ASC | DESC ] ]
abbrev pub IsOrder : Phrase (Option Order)
IsOrder = Either (IsBehind words.Order (IsBehind words.By (Then order_of IsName IsDirection))) (Nothing None)

-- a number below 2 ^ 63
abbrev pub limit_of : Lexeme → Option (Option ℕ)
limit_of (Number n) = where_true (nat_lt n (2 ^ 63)) (Some n)
limit_of _ = None

-- [ LIMIT number ]
abbrev pub IsLimit : Phrase (Option ℕ)
IsLimit = Either (IsBehind words.Limit (One limit_of)) (Nothing None)

-- the SELECT of these columns
abbrev pub select_of : Shown → List ℕ × (List Condition × (Option Order × Option ℕ)) → Statement
select_of shown rest =
    statements.Select
    (record { shown = shown; table = rest.0; conditions = rest.1.0; order = rest.1.1.0; limit = rest.1.1.1 })

-- plain FROM name [ where ] [ ORDER BY name [ ASC | DESC ] ] [ LIMIT number ]
abbrev pub IsPlain : Phrase Statement
IsPlain =
    Then select_of IsShown
    (IsBehind words.From (Then paired IsName (Then paired IsWhere (Then paired IsOrder IsLimit))))

-- how many rows there are
abbrev pub count_all : Unit {0} → Unit {0} → Total
count_all _ _ = totals.Count

-- the sum of this column
abbrev pub sum_of : Unit {0} → List ℕ → Total
sum_of _ column = totals.Sum column

-- total = COUNT ( * ) | SUM ( name )
abbrev pub IsTotal : Phrase Total
IsTotal =
    Either (IsBehind words.Count (IsEnclosed (Then count_all (One (sign signs.Star)) (Nothing tt))))
    (IsBehind words.Sum (IsEnclosed (Made sum_of IsName)))

-- the SELECT of these totals
abbrev pub totals_of : List Total → List ℕ × List Condition → Statement
totals_of asked rest = statements.Totals (record { totals = asked; table = rest.0; conditions = rest.1 })

-- total { , total } FROM name [ where ]
abbrev pub IsTotals : Phrase Statement
IsTotals = Then totals_of (IsListed IsTotal) (IsBehind words.From (Then paired IsName IsWhere))

-- COUNT, or SUM
abbrev pub total_word : Lexeme → Option (Unit {0})
total_word lexeme = where_true (is_word words.Count lexeme || is_word words.Sum lexeme) tt

-- select = SELECT and then plain columns or totals
abbrev pub IsSelect : Phrase Statement
IsSelect = IsBehind words.Select (Either IsTotals IsPlain)

-- TEXT, or VARCHAR
abbrev pub text_word : Lexeme → Option (Unit {0})
text_word lexeme = where_true (is_word words.Text lexeme || is_word words.Varchar lexeme) tt

-- INT, INTEGER or BIGINT
abbrev pub int_word : Lexeme → Option (Unit {0})
int_word lexeme =
    where_true (is_word words.Int lexeme || (is_word words.Integer lexeme || is_word words.Bigint lexeme)) tt

-- a length from 1 to 4,093
abbrev pub text_kind : Lexeme → Option Kind
text_kind (Number n) = where_true (nat_le 1 n && nat_le n 4093) (kinds.Text n)
text_kind _ = None

-- type = INT | INTEGER | BIGINT | ( TEXT | VARCHAR ) ( number )
abbrev pub IsType : Phrase Kind
IsType =
    Either (Then second (One int_word) (Nothing kinds.Int))
    (Then second (One text_word) (IsEnclosed (One text_kind)))

-- [ PRIMARY KEY ]: whether it stands
abbrev pub IsMarked : Phrase Bool
IsMarked = Either (IsBehind words.Primary (IsBehind words.Key (Nothing true))) (Nothing false)

-- the column, and whether it is marked
abbrev pub column_of : List ℕ → Kind × Bool → Column × Bool
column_of name rest = (record { name = name; kind = rest.0 }, rest.1)

-- column = name type [ PRIMARY KEY ]
abbrev pub IsColumn : Phrase (Column × Bool)
IsColumn = Then column_of IsName (Then paired IsType IsMarked)

-- the numbers of the columns that are marked, from this number on; from 255 on each is reported as 255
abbrev pub marks_of : ℕ → List (Column × Bool) → List ℕ
marks_of n [] = []
marks_of n (c ∷ cs) = if c.1 then min n 255 ∷ marks_of (n + 1) cs else marks_of (n + 1) cs

-- the columns without their marks
abbrev pub columns_of : List (Column × Bool) → List Column
columns_of columns = map (λ (c : Column × Bool). c.0) columns

-- the CREATE of this table
abbrev pub create_of : List ℕ → List (Column × Bool) → Statement
create_of name columns =
    statements.Create (record { name = name; columns = columns_of columns; keys = marks_of 0 columns })

-- create = CREATE TABLE name ( column { , column } )
abbrev pub IsCreate : Phrase Statement
IsCreate =
    IsBehind words.Create (IsBehind words.Table (Then create_of IsName (IsEnclosed (IsListed IsColumn))))

-- BEGIN | COMMIT | ROLLBACK
abbrev pub block_word : Keyword → Option Statement
block_word words.Begin = Some statements.Begin
block_word words.Commit = Some statements.Commit
block_word words.Rollback = Some statements.Rollback
block_word _ = None

-- the statement that one token is
abbrev pub block_of : Lexeme → Option Statement
block_of (Word keyword) = block_word keyword
block_of _ = None

-- statement = create | insert | select | update | delete | BEGIN | COMMIT | ROLLBACK
abbrev pub IsStatement : Phrase Statement
IsStatement =
    Either IsCreate (Either IsInsert (Either IsSelect (Either IsUpdate (Either IsDelete (One block_of)))))
