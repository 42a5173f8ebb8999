-- Blocks, as they are built of statements.
use Rattle.std.proofs.Common.{◌≡◌, ℕ, List, [], ◌∷◌, ◌++◌, Option, None, Some, refl, sym, ap, subst, append_assoc, inl, inr}
use Rattle.std.specs.Prelude.{IfSome, IfNone, option_map}
use Rattle.std.specs.List.{AllByRecursion}
use Rattle.std.proofs.lemmas.List.{append-nil}
use Rattle.sql_lex.specs.Spelling.{Lexeme, Word}
use Rattle.sql_lex.specs.Seen.{lexeme_of}
use Rattle.sql_lex.specs.Tokens.{Item, AreTokens}
use Rattle.sql_lex.specs.declared.keyword.Keyword.{Keyword}
use Rattle.sql_lex.specs.declared.keyword.Keyword.TheVariants as words
use Rattle.sql_lex.specs.declared.token.TokenKind.{TokenKind}
use Rattle.row_types.specs.Block.{Placed}
use Rattle.row_types.specs.declared.block.Block.{Block}
use Rattle.row_types.specs.declared.block.Block.TheVariants.{Alone, Transaction as Begun}
use Rattle.row_types.specs.declared.block.BlockEnd.{BlockEnd}
use Rattle.row_types.specs.declared.block.BlockEnd.TheVariants.{Commit, Rollback, CutOff}
use Rattle.script.specs.Blocks.{IsWord, EndsBlock, Ends, BeginsWith, BeginWith, AreBlocks}
use Rattle.script.specs.Building.{AreBuilt, HasRole, role_of, role_of_lexeme, role_of_word}
use Rattle.script.specs.declared.building.Role.{Role}
use Rattle.script.specs.declared.building.Role.TheVariants.{Begin, End, Other}

-- a text is at most one list of tokens
abbrev pub OneList : Type 0
OneList = (base : ℕ) (text : List ℕ) (xs ys : List Item) → AreTokens base text xs → AreTokens base text ys → xs ≡ ys

lexeme_at : List Item → Lexeme → Lexeme
lexeme_at [] other = other
lexeme_at (item ∷ items) other = item.lexeme

one_lexeme : OneList → (base : ℕ) (text : List ℕ) (x y : Lexeme) (i j : ℕ) → AreTokens base text (record { lexeme = x; at = i } ∷ []) → AreTokens base text (record { lexeme = y; at = j } ∷ []) → x ≡ y
unfolding lexeme_at
one_lexeme one base text x y i j a b = ap (λ (l : List Item). lexeme_at l x) (one base text _ _ a b)

-- no statement is two words
pub one_word : OneList → (s : Placed) (k j : Keyword) → IsWord k s → IsWord j s → k ≡ j
one_word one s k j a b = let e = one_lexeme one s.base s.text (Word k) (Word j) a.0 b.0 a.1 b.1 in cc

module _ (one : OneList) (s : Placed) where
  no_word : (lexeme : Lexeme) (at : ℕ) (k : Keyword) → AreTokens s.base s.text (record { lexeme = lexeme; at = at } ∷ []) → (lexeme ≡ Word k → ⊥) → IsWord k s → ⊥
  no_word lexeme at k tokens other word = other (one_lexeme one s.base s.text lexeme (Word k) at word.0 tokens word.1)

  other_role : (lexeme : Lexeme) (at : ℕ) → AreTokens s.base s.text (record { lexeme = lexeme; at = at } ∷ []) → (lexeme ≡ Word words.Begin → ⊥) → (lexeme ≡ Word words.Commit → ⊥) → (lexeme ≡ Word words.Rollback → ⊥) → HasRole s Other
  other_role lexeme at tokens begin commit rollback = (no_word lexeme at words.Begin tokens begin, λ ends. elim ends as (λ _. ⊥) [ inl c ↦ no_word lexeme at words.Commit tokens commit c | inr r ↦ no_word lexeme at words.Rollback tokens rollback r ])

  role_word : (k : Keyword) (at : ℕ) → AreTokens s.base s.text (record { lexeme = Word k; at = at } ∷ []) → HasRole s (role_of_word k)
  role_word words.Begin at tokens = ((at, tokens), λ ends. elim ends as (λ _. ⊥) [ inl c ↦ no_word (Word words.Begin) at words.Commit tokens (λ e. absurd (cc)) c | inr r ↦ no_word (Word words.Begin) at words.Rollback tokens (λ e. absurd (cc)) r ])
  role_word words.Commit at tokens = ((at, tokens), no_word (Word words.Commit) at words.Begin tokens (λ e. absurd (cc)))
  role_word words.Rollback at tokens = ((at, tokens), no_word (Word words.Rollback) at words.Begin tokens (λ e. absurd (cc)))
  role_word k at tokens = other_role (Word k) at tokens (λ e. absurd (cc)) (λ e. absurd (cc)) (λ e. absurd (cc))

  pub role_lexeme : (lexeme : Lexeme) (at : ℕ) → AreTokens s.base s.text (record { lexeme = lexeme; at = at } ∷ []) → HasRole s (role_of_lexeme lexeme)
  role_lexeme (Word k) at tokens = role_word k at tokens
  role_lexeme lexeme at tokens = other_role lexeme at tokens (λ e. absurd (cc)) (λ e. absurd (cc)) (λ e. absurd (cc))

  -- the role by the one token of the statement
  pub role_is : (o : Option TokenKind) → IfSome o (λ kind. (base : ℕ) → (at : ℕ) × AreTokens base s.text (record { lexeme = lexeme_of kind; at = at } ∷ [])) → IfNone o ((base : ℕ) (item : Item) → AreTokens base s.text (item ∷ []) → ⊥) → HasRole s (role_of (option_map lexeme_of o))
  role_is None some none = (λ w. none s.base _ w.1, λ ends. elim ends as (λ _. ⊥) [ inl c ↦ none s.base _ c.1 | inr r ↦ none s.base _ r.1 ])
  role_is (Some kind) some none = let found = some s.base in role_lexeme (lexeme_of kind) found.0 found.1

-- a block more behind others
pub begin_push : (done : List Block) (block : Block) (statements rest after : List Placed) → BeginWith done statements rest → BeginsWith block rest after → BeginWith (done ++ block ∷ []) statements after
begin_push [] block statements rest after done block_is = (after, subst (λ l. BeginsWith block l after) (sym done) block_is, refl)
begin_push (d ∷ ds) block statements rest after done block_is = (done.0, done.1, begin_push ds block done.0 rest after done.2 block_is)

-- blocks that are done, where one more statement follows
next_of : (done : List Block) (statements : List Placed) (s : Placed) → ((more : List Placed) → BeginWith done (statements ++ more) more) → (more : List Placed) → BeginWith done ((statements ++ s ∷ []) ++ more) (s ∷ more)
next_of done statements s built more = subst (λ l. BeginWith done l (s ∷ more)) (sym (append_assoc statements (s ∷ []) more)) (built (s ∷ more))

pub opened : (done : List Block) (statements : List Placed) (s : Placed) → HasRole s Begin → AreBuilt statements done None → AreBuilt (statements ++ s ∷ []) done (Some [])
opened done statements s role built = (s, role.0, tt, next_of done statements s built)

not_begin : (role : Role) (s : Placed) → (role ≡ Begin → ⊥) → HasRole s role → IsWord words.Begin s → ⊥
not_begin Begin s other role = absurd (other refl)
not_begin (End Commit) s other role = role.1
not_begin (End Rollback) s other role = role.1
not_begin (End CutOff) s other role = absurd role
not_begin Other s other role = role.0

pub stood_alone : (done : List Block) (statements : List Placed) (s : Placed) (role : Role) → (role ≡ Begin → ⊥) → HasRole s role → AreBuilt statements done None → AreBuilt (statements ++ s ∷ []) (done ++ Alone s ∷ []) None
stood_alone done statements s role other has built more = begin_push done (Alone s) ((statements ++ s ∷ []) ++ more) (s ∷ more) more (next_of done statements s built more) (not_begin role s other has, refl)

-- in an open block
in_block : (done : List Block) (statements : List Placed) (first s : Placed) (inside more : List Placed) → ((more : List Placed) → BeginWith done (statements ++ more) (first ∷ (inside ++ more))) → BeginWith done ((statements ++ s ∷ []) ++ more) (first ∷ (inside ++ s ∷ more))
in_block done statements first s inside more built = subst (λ l. BeginWith done l (first ∷ (inside ++ s ∷ more))) (sym (append_assoc statements (s ∷ []) more)) (built (s ∷ more))

ended_by : (end : BlockEnd) (s : Placed) (more : List Placed) → HasRole s (End end) → Ends end (s ∷ more) more
ended_by Commit s more role = (s, role.0, refl)
ended_by Rollback s more role = (s, role.0, refl)
ended_by CutOff s more role = absurd role

pub closed : (done : List Block) (statements inside : List Placed) (s : Placed) (end : BlockEnd) → HasRole s (End end) → AreBuilt statements done (Some inside) → AreBuilt (statements ++ s ∷ []) (done ++ Begun (record { statements = inside; end = end }) ∷ []) None
closed done statements inside s end role built more =
    begin_push done (Begun (record { statements = inside; end = end })) ((statements ++ s ∷ []) ++ more) (built.0 ∷ (inside ++ s ∷ more)) more
    (in_block done statements built.0 s inside more built.3)
    (built.0, built.1, built.2, s ∷ more, refl, ended_by end s more role)

not_end : (role : Role) (s : Placed) → ((end : BlockEnd) → role ≡ End end → ⊥) → HasRole s role → EndsBlock s → ⊥
not_end Begin s other role = role.1
not_end (End end) s other role = absurd (other end refl)
not_end Other s other role = role.1

all_push : (P : Placed → Type 0) (xs : List Placed) (x : Placed) → AllByRecursion P xs → P x → AllByRecursion P (xs ++ x ∷ [])
all_push P [] x all here = (here, tt)
all_push P (y ∷ ys) x all here = (all.0, all_push P ys x all.1 here)

pub held : (done : List Block) (statements inside : List Placed) (s : Placed) (role : Role) → ((end : BlockEnd) → role ≡ End end → ⊥) → HasRole s role → AreBuilt statements done (Some inside) → AreBuilt (statements ++ s ∷ []) done (Some (inside ++ s ∷ []))
held done statements inside s role other has built = (built.0, built.1, all_push (λ x. EndsBlock x → ⊥) inside s built.2 (not_end role s other has), λ more. subst (λ (l : List Placed). BeginWith done ((statements ++ s ∷ []) ++ more) (built.0 ∷ l)) (sym (append_assoc inside (s ∷ []) more)) (in_block done statements built.0 s inside more built.3))

-- at the end
pub all_done : (done : List Block) (statements : List Placed) → AreBuilt statements done None → AreBlocks done statements
all_done done statements built = subst (λ l. BeginWith done l []) (append-nil statements) (built [])

pub cut_off : (done : List Block) (statements inside : List Placed) → AreBuilt statements done (Some inside) → AreBlocks (done ++ Begun (record { statements = inside; end = CutOff }) ∷ []) statements
cut_off done statements inside built =
    subst (λ l. BeginWith (done ++ Begun (record { statements = inside; end = CutOff }) ∷ []) l []) (append-nil statements) (begin_push done (Begun (record { statements = inside; end = CutOff })) (statements ++ []) (built.0 ∷ (inside ++ [])) [] (built.3 []) (built.0, built.1, built.2, [], refl, (refl, refl)))

pub role_at : OneList → (s : Placed) (text : List ℕ) (o : Option TokenKind) → text ≡ s.text → IfSome o (λ kind. (base : ℕ) → (at : ℕ) × AreTokens base text (record { lexeme = lexeme_of kind; at = at } ∷ [])) → IfNone o ((base : ℕ) (item : Item) → AreTokens base text (item ∷ []) → ⊥) → HasRole s (role_of (option_map lexeme_of o))
role_at one s text o same = subst (λ (t : List ℕ). IfSome o (λ kind. (base : ℕ) → (at : ℕ) × AreTokens base t (record { lexeme = lexeme_of kind; at = at } ∷ [])) → IfNone o ((base : ℕ) (item : Item) → AreTokens base t (item ∷ []) → ⊥) → HasRole s (role_of (option_map lexeme_of o))) (sym same) (role_is one s o)
