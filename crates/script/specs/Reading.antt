-- How the end of a statement is read, a byte at a time; that this finds the ends of Statements is proved.
use Rattle.std.specs.Prelude.{ℕ, ◌+◌, Bool, ◌==◌, if◌then◌else◌, List, [], ◌∷◌, Option, None, Some, unwrap_or}
use Rattle.sql_lex.specs.Tokens.{opens_comment}
use Rattle.script.specs.declared.scanning.Inside.{Inside}
use Rattle.script.specs.declared.scanning.Inside.TheVariants.{Neither, Literal, Comment}
use Rattle.script.specs.declared.scanning.StatementEnd.{StatementEnd}
use Rattle.script.specs.declared.scanning.StatementEnd.TheVariants.{Semicolon, LineEnd, TextEnd}

-- what the byte behind this one stands in
abbrev pub after_byte : Inside → ℕ → Bool → Inside
after_byte Literal b opens = if b == 39 then Neither else Literal
after_byte Comment b opens = if b == 10 then Neither else Comment
after_byte Neither b opens = if b == 39 then Literal else (if opens then Comment else Neither)

-- how the statement ends at this byte, at the front, where it does
abbrev pub stop_at : Inside → ℕ → Option StatementEnd
stop_at Literal b = if b == 10 then Some (LineEnd 0) else None
stop_at Comment b = None
stop_at Neither b = if b == 59 then Some (Semicolon 0) else None

-- the same end, so many bytes further
abbrev pub later : ℕ → StatementEnd → StatementEnd
later n (Semicolon k) = Semicolon (n + k)
later n (LineEnd k) = LineEnd (n + k)
later n TextEnd = TextEnd

-- how the statement at the front of a text ends, where its first byte stands in this
abbrev pub end_of : Inside → List ℕ → StatementEnd
end_of inside [] = TextEnd
end_of inside (b ∷ bs) =
    unwrap_or (stop_at inside b) (later 1 (end_of (after_byte inside b (opens_comment (b ∷ bs))) bs))
