-- Values, rows and lists of them are read exactly.
use Rattle.std.proofs.Common.{◌≡◌, Bool, ◌||◌, List, [], ◌∷◌, ◌++◌, None, Some, refl, ap, ◌∙◌}
use Rattle.std.specs.Prelude.{is_some, pos}
use Rattle.sql_lex.specs.Spelling.{Lexeme, Word, Name, Number, Literal, Sign}
use Rattle.sql_lex.specs.declared.keyword.Keyword.TheVariants as words
use Rattle.sql_lex.specs.declared.token.Sign.TheVariants as signs
use Rattle.sql_lex.specs.Tokens.{Item}
use Rattle.row_types.specs.declared.row.Value.{Value}
use Rattle.row_types.specs.declared.row.Value.TheVariants as values
use Rattle.sql_parse.specs.Phrases.{One, Then}
use Rattle.sql_parse.specs.Grammar.{sign, negated, int_value, plain_value, insert_of, IsName, IsValue, IsListed, IsRow, IsInsert, IsBehind}
use Rattle.sql_parse.specs.Reading.{one_at, signed_at, value_at, listed_at, row_at, name_at, behind_at, insert_at}
use Rattle.sql_parse.proofs.Exact.{lexemes, Ends, Exact, never, one_exact, then_exact}
use Rattle.sql_parse.proofs.Choices.{next, either_full}
use Rattle.sql_parse.proofs.ExactTokens.{quiet_sign, starts_one, no_sign, listed_exact, enclosed_exact, name_exact, behind_exact, follows_never}
use Rattle.sql_parse.proofs.Signed.{signed_exact}

plain_no_minus : (l : Lexeme) (x : Value) → plain_value l ≡ Some x → sign signs.Minus l ≡ None
plain_no_minus (Word k) x e = refl
plain_no_minus (Name k) x e = refl
plain_no_minus (Number k) x e = refl
plain_no_minus (Literal k) x e = refl
plain_no_minus (Sign k) x e = absurd (cc)

plain_next : (front rest : List Item) (x : Value) → One plain_value (lexemes front) x → Ends never rest → next (sign signs.Minus) (front ++ rest) ≡ None
plain_next [] rest x o ends = absurd (let e : [] ≡ o.token ∷ [] = o.only in cc)
plain_next (c ∷ cs) rest x o ends =
    let e : c.lexeme ∷ lexemes cs ≡ o.token ∷ [] = o.only in
    let same : c.lexeme ≡ o.token = cc in
    plain_no_minus c.lexeme x (ap plain_value same ∙ o.passes)

pub value_exact : Exact IsValue value_at never
value_exact = either_full (sign signs.Minus) (Then int_value (One (sign signs.Minus)) (One negated)) (One plain_value) signed_at (one_at plain_value) never never signed_exact (one_exact plain_value refl (Number 0) (values.Int (pos 0)) refl) (quiet_sign signs.Minus) never (λ rest ends. ends) (λ rest ends. ends) (starts_one (sign signs.Minus) int_value (One negated)) plain_next

pub row_exact : Exact IsRow row_at never
unfolding row_at
row_exact = enclosed_exact (IsListed IsValue) (listed_at value_at) (λ l. is_some (sign signs.Comma l) || never l) (listed_exact IsValue value_at never value_exact (λ l u e. refl)) (no_sign signs.Close (λ l. is_some (sign signs.Comma l) || never l) refl)

abbrev pub goes_rows : Lexeme → Bool
goes_rows l = is_some (sign signs.Comma l) || never l

pub insert_exact : Exact IsInsert insert_at goes_rows
unfolding insert_at
insert_exact =
    let rows = listed_exact IsRow row_at never row_exact (λ l u e. refl) in
    let values = behind_exact (IsListed IsRow) (listed_at row_at) goes_rows rows words.Values in
    let named = then_exact insert_of IsName (IsBehind words.Values (IsListed IsRow)) name_at (behind_at words.Values (listed_at row_at)) never goes_rows name_exact values (follows_never (IsBehind words.Values (IsListed IsRow)) goes_rows) in
    behind_exact _ _ goes_rows (behind_exact _ _ goes_rows named words.Into) words.Insert
