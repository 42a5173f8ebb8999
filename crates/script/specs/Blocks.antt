-- The blocks that statements are.
use Rattle.std.specs.Prelude.{◌≡◌, ℕ, ◌⊎◌, List, [], ◌∷◌, ◌++◌}
use Rattle.std.specs.List.{AllByRecursion}
use Rattle.sql_lex.specs.Spelling.{Word}
use Rattle.sql_lex.specs.Tokens.{AreTokens}
use Rattle.sql_lex.specs.declared.keyword.Keyword.{Keyword}
use Rattle.sql_lex.specs.declared.keyword.Keyword.TheVariants as words
use Rattle.row_types.specs.Block.{Placed}
use Rattle.row_types.specs.declared.block.Block.{Block}
use Rattle.row_types.specs.declared.block.Block.TheVariants.{Alone, Transaction as Begun}
use Rattle.row_types.specs.declared.block.BlockEnd.{BlockEnd}
use Rattle.row_types.specs.declared.block.BlockEnd.TheVariants.{Commit, Rollback, CutOff}

-- this word is the one token of the statement
abbrev pub IsWord : Keyword → Placed → Type 0
IsWord keyword statement =
    (at : ℕ) × AreTokens statement.base statement.text (record { lexeme = Word keyword; at = at } ∷ [])

-- COMMIT alone, or ROLLBACK alone, ends a block
abbrev pub EndsBlock : Placed → Type 0
EndsBlock statement = IsWord words.Commit statement ⊎ IsWord words.Rollback statement

-- Behind the statements of a block it ends like this, and `after`
-- is behind it: with COMMIT, with ROLLBACK, or as the section does.
abbrev pub Ends : BlockEnd → List Placed → List Placed → Type 0
Ends Commit statements after = (last : Placed) × IsWord words.Commit last × (statements ≡ last ∷ after)
Ends Rollback statements after = (last : Placed) × IsWord words.Rollback last × (statements ≡ last ∷ after)
Ends CutOff statements after = (statements ≡ []) × (after ≡ [])

-- The statements begin with this block, and `after` is behind it: BEGIN alone
-- begins one that goes to the first end, and any other statement is one.
abbrev pub BeginsWith : Block → List Placed → List Placed → Type 0
BeginsWith (Alone statement) statements after =
    (IsWord words.Begin statement → ⊥) × (statements ≡ statement ∷ after)
BeginsWith (Begun block) statements after =
    (first : Placed) × IsWord words.Begin first × AllByRecursion (λ s. EndsBlock s → ⊥) block.statements
    × (rest : List Placed) × (statements ≡ first ∷ (block.statements ++ rest)) × Ends block.end rest after

-- the statements begin with these blocks, and `after` is behind them
abbrev pub BeginWith : List Block → List Placed → List Placed → Type 0
BeginWith [] statements after = statements ≡ after
BeginWith (block ∷ blocks) statements after =
    (rest : List Placed) × BeginsWith block statements rest × BeginWith blocks rest after

-- the statements are these blocks
abbrev pub AreBlocks : List Block → List Placed → Type 0
AreBlocks blocks statements = BeginWith blocks statements []
