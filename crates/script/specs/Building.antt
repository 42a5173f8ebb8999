-- Blocks that are built of statements as these come.
use Rattle.std.specs.Prelude.{◌≡◌, ◌⊎◌, List, [], ◌∷◌, ◌++◌, Option, None, Some}
use Rattle.std.specs.List.{AllByRecursion}
use Rattle.sql_lex.specs.declared.keyword.Keyword.TheVariants as words
use Rattle.sql_lex.specs.declared.keyword.Keyword.{Keyword}
use Rattle.sql_lex.specs.Spelling.{Lexeme, Word}
use Rattle.row_types.specs.Block.{Placed}
use Rattle.row_types.specs.declared.block.BlockEnd.TheVariants.{Commit, Rollback, CutOff}
use Rattle.script.specs.declared.building.Role.{Role}
use Rattle.script.specs.declared.building.Role.TheVariants.{Begin, End, Other}
use Rattle.row_types.specs.declared.block.Block.{Block}
use Rattle.script.specs.Blocks.{BeginWith, EndsBlock, IsWord}
use Rattle.script.specs.Statements.{IsEmpty}
use Rattle.script.specs.declared.building.Builder.{Builder}

-- Whatever statements follow, these are the blocks that are done, and behind
-- them a block is open with BEGIN and its statements so far, or none is.
abbrev pub AreBuilt : List Placed → List Block → Option (List Placed) → Type 0
AreBuilt statements done None = (more : List Placed) → BeginWith done (statements ++ more) more
AreBuilt statements done (Some open_block) =
    (first : Placed) × IsWord words.Begin first × AllByRecursion (λ s. EndsBlock s → ⊥) open_block
    × ((more : List Placed) → BeginWith done (statements ++ more) (first ∷ (open_block ++ more)))

-- what a statement is to blocks: the tokens that stand alone as BEGIN, COMMIT and ROLLBACK
abbrev pub role_of_word : Keyword → Role
role_of_word words.Begin = Begin
role_of_word words.Commit = End Commit
role_of_word words.Rollback = End Rollback
role_of_word _ = Other

-- the role of a statement of this one token
abbrev pub role_of_lexeme : Lexeme → Role
role_of_lexeme (Word keyword) = role_of_word keyword
role_of_lexeme _ = Other

-- the role of a statement with one token, or another number of them
abbrev pub role_of : Option Lexeme → Role
role_of None = Other
role_of (Some lexeme) = role_of_lexeme lexeme

-- the statement has this role, and no other
abbrev pub HasRole : Placed → Role → Type 0
HasRole statement Begin = IsWord words.Begin statement × (EndsBlock statement → ⊥)
HasRole statement (End Commit) = IsWord words.Commit statement × (IsWord words.Begin statement → ⊥)
HasRole statement (End Rollback) = IsWord words.Rollback statement × (IsWord words.Begin statement → ⊥)
HasRole statement (End CutOff) = ⊥
HasRole statement Other = (IsWord words.Begin statement → ⊥) × (EndsBlock statement → ⊥)

-- the builder has the blocks of these statements
abbrev pub Has : Builder → List Placed → Type 0
Has builder statements = AreBuilt statements builder.done builder.open

-- with this statement the builder became another: the same
-- where it is empty, and else that of one statement more
abbrev pub Adds : Placed → Builder → Builder → Type 0
Adds statement old new =
    (IsEmpty statement.text × (new ≡ old))
    ⊎ ((IsEmpty statement.text → ⊥)
    × ((statements : List Placed) → Has old statements → Has new (statements ++ statement ∷ [])))
