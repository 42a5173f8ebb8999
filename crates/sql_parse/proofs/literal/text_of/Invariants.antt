use Rattle.std.proofs.Common.{◌≡◌, ℕ, ◌++◌, ◌≤◌, ◌<◌, ◌^◌, length, not, eqb}
use Rattle.std.specs.Prelude.{string_bytes}
use Rattle.std.specs.List.{prefix_len}
use denote.Text.{Utf8}
use denote.Shadow.{shadow}
use Rattle.sql_parse.specs.Quotes.{unquoted}
use Rattle.sql_parse.proofs.literal.text_of.Given as goal

-- the text so far, and that of what is left
abbrev pub invariant-loop-at : goal.invariant-loop-at
invariant-loop-at l = shadow (Utf8 l.rest) × (string_bytes l.text ++ unquoted l.rest ≡ unquoted l.raw) × (l.at ≡ prefix_len (λ (b : ℕ). not (eqb b 39)) l.rest) × (l.at ≤ length l.rest) × (l.at < 2 ^ 63)

abbrev pub decreases-loop-at : goal.decreases-loop-at
decreases-loop-at l = length l.rest
