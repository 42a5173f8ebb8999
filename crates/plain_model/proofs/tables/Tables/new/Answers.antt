use Rattle.std.proofs.Common.{List, [], length, map, ap, sym, subst, ◌∙◌}
use Rattle.std.proofs.lemmas.List.{length-map}
use Rattle.row_types.specs.Tables.{Tables, AreTables}
use Rattle.key_space.specs.Plays.{Rows}
use Rattle.plain_model.specs.Views.{paired}
use Rattle.plain_model.proofs.Viewing.{paired_empty, empty_are_tables}
use Rattle.plain_model.proofs.tables.Tables.new.Goals as goal

pub from_lists-requires-clause-len : goal.from_lists-requires-clause-len
from_lists-requires-clause-len c =
    let lists = c.in_ok-lists.ensures ∙ ap (map (λ def. [])) c.tables.ensures.value in
    ap (λ (l : List Rows). length l) lists ∙ length-map c.args.schema (λ def. [])

pub from_lists-requires-clause-tables : goal.from_lists-requires-clause-tables
from_lists-requires-clause-tables c =
    let lists = c.in_ok-lists.ensures ∙ ap (map (λ def. [])) c.tables.ensures.value in
    let same = ap (paired c.args.schema) lists ∙ paired_empty c.args.schema in
    subst (λ (ts : Tables). AreTables ts) (sym same) (empty_are_tables c.args.schema c.tables.ensures.schema)

pub returns : goal.returns
returns c =
    c.from_lists.ensures ∙ ap (paired c.args.schema) (c.in_ok-lists.ensures ∙ ap (map (λ def. [])) c.tables.ensures.value) ∙ paired_empty c.args.schema
