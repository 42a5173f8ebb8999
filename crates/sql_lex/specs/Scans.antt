-- What a scan finds.
use Rattle.std.specs.Prelude.{ℕ, List}
use Rattle.sql_lex.specs.Seen.{items_of}
use Rattle.sql_lex.specs.Tokens.{Item, AreTokens, AreTokensUpTo}
use Rattle.sql_lex.specs.declared.scanning.ScanEnd.{ScanEnd}
use Rattle.sql_lex.specs.declared.scanning.ScanEnd.TheVariants.{Whole, NoToken}
use Rattle.sql_lex.specs.declared.scanning.Scan.{Scan}

-- the tokens are the text, or they go up to this place, at which there is none
abbrev pub EndsSo : ℕ → List ℕ → List Item → ScanEnd → Type 0
EndsSo base text items Whole = AreTokens base text items
EndsSo base text items (NoToken at) = AreTokensUpTo base text items at

-- the tokens of the text, as far as there are any
abbrev pub IsScan : ℕ → List ℕ → Scan → Type 0
IsScan base text scan = EndsSo base text (items_of scan.tokens.items) scan.end
