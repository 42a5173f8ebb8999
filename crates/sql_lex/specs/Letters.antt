-- How the words of the language are written, in small letters.
use Rattle.std.specs.Prelude.{ℕ, List, codes}
use Rattle.sql_lex.specs.declared.keyword.Keyword.{Keyword}
use Rattle.sql_lex.specs.declared.keyword.Keyword.TheVariants.{And, Asc, Begin, Bigint, By, Checkpoint}
use Rattle.sql_lex.specs.declared.keyword.Keyword.TheVariants.{Commit, Count, Create, Delete, Desc, From}
use Rattle.sql_lex.specs.declared.keyword.Keyword.TheVariants.{Insert, Int, Integer, Into, Key, Limit, Order}
use Rattle.sql_lex.specs.declared.keyword.Keyword.TheVariants.{Primary, Rollback, Select, Set, Sum, Table}
use Rattle.sql_lex.specs.declared.keyword.Keyword.TheVariants.{Text, Update, Values, Varchar, Where}

-- the letters of a keyword, small ones
abbrev pub letters : Keyword → List ℕ
letters And = codes "and"
letters Asc = codes "asc"
letters Begin = codes "begin"
letters Bigint = codes "bigint"
letters By = codes "by"
letters Checkpoint = codes "checkpoint"
letters Commit = codes "commit"
letters Count = codes "count"
letters Create = codes "create"
letters Delete = codes "delete"
letters Desc = codes "desc"
letters From = codes "from"
letters Insert = codes "insert"
letters Int = codes "int"
letters Integer = codes "integer"
letters Into = codes "into"
letters Key = codes "key"
letters Limit = codes "limit"
letters Order = codes "order"
letters Primary = codes "primary"
letters Rollback = codes "rollback"
letters Select = codes "select"
letters Set = codes "set"
letters Sum = codes "sum"
letters Table = codes "table"
letters Text = codes "text"
letters Update = codes "update"
letters Values = codes "values"
letters Varchar = codes "varchar"
letters Where = codes "where"
