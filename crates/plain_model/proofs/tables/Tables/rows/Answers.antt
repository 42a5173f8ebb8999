use Rattle.std.proofs.Common.{◌≡◌, ◌<◌, length, ap, sym, ◌∙◌, arith}
use Rattle.row_types.specs.Tables.{Tables}
use Rattle.plain_model.specs.Meaning.{table_at}
use Rattle.plain_model.specs.Views.{paired}
use Rattle.plain_model.proofs.Viewing.{paired_at, paired_len}
use Rattle.plain_model.proofs.tables.Tables.rows.Goals as goal

pub index-requires : goal.index-requires
index-requires c =
    let view : length c.args.self.now ≡ length (paired c.self.inside.schema c.self.inside.lists.items) = ap (λ (ts : Tables). length ts) (sym c.self.view_is) in
    let len = paired_len c.self.inside.schema c.self.inside.lists.items c.self.invariant.len in
    let lists = c.self.invariant.len in
    let ok = c.self.inside.lists.ok in
    omega arith

pub returns : goal.returns
returns c =
    let schema = c.self.inside.schema in
    let lists = c.self.inside.lists.items in
    let view : length c.args.self.now ≡ length (paired schema lists) = ap (λ (ts : Tables). length ts) (sym c.self.view_is) in
    let len = paired_len schema lists c.self.invariant.len in
    let same = c.self.invariant.len in
    let inside : c.args.table < length lists = omega arith in
    c.as_slice.ensures ∙ c.index.ensures ∙ paired_at schema lists c.args.table c.index.result.now same inside ∙ ap (λ (ts : Tables). (table_at ts c.args.table).rows) c.self.view_is
