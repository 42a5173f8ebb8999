use Rattle.std.proofs.Common.{◌≡◌, length, ap, sym, subst, ◌∙◌, arith}
use Rattle.std.proofs.Math.ListN.{length-set}
use Rattle.row_types.specs.Tables.{Tables, IsTableRows, AreTables}
use Rattle.key_space.specs.Plays.{Rows, changed}
use Rattle.plain_model.specs.Meaning.{table_at}
use Rattle.plain_model.specs.Views.{paired}
use Rattle.plain_model.proofs.Viewing.{paired_len, paired_set, changed_are_tables}
use Rattle.plain_model.proofs.tables.Tables.with_rows.Goals as goal

pub index_mut-requires : goal.index_mut-requires
index_mut-requires c =
    let same : c.in_ok-tables.tables ≡ c.args.self.now = c.in_ok-tables.ensures in
    let view : length c.args.self.now ≡ length (paired c.tables.inside.schema c.tables.inside.lists.items) = ap (λ (ts : Tables). length ts) (sym same ∙ sym c.tables.view_is) in
    let len = paired_len c.tables.inside.schema c.tables.inside.lists.items c.tables.invariant.len in
    let lists = c.tables.invariant.len in
    let ok = c.tables.inside.lists.ok in
    omega arith

pub invariant_of-tables : goal.invariant_of-tables
invariant_of-tables c =
    let n = c.args.table in
    let rows = c.from_vec.result in
    let now : paired c.tables.inside.schema c.tables.inside.lists.items ≡ c.args.self.now = c.tables.view_is ∙ c.in_ok-tables.ensures in
    let fits : IsTableRows (record (table_at (paired c.tables.inside.schema c.tables.inside.lists.items) n) { rows = rows }) =
    subst (λ (ts : Tables). IsTableRows (record (table_at ts n) { rows = rows })) (sym now) (subst (λ (r : Rows). IsTableRows (record (table_at c.args.self.now n) { rows = r })) (sym c.from_vec.ensures) c.requires.rows) in
    record {
      len = length-set c.tables.inside.lists.items n rows ∙ c.tables.invariant.len;
      tables = subst (λ (ts : Tables). AreTables ts) (sym (paired_set c.tables.inside.schema c.tables.inside.lists.items n rows)) (changed_are_tables (paired c.tables.inside.schema c.tables.inside.lists.items) n rows c.tables.invariant.tables fits);
    }

pub returns : goal.returns
returns c =
    paired_set c.tables.inside.schema c.tables.inside.lists.items c.args.table c.from_vec.result
    ∙ ap (λ (ts : Tables). changed ts c.args.table (λ t. c.from_vec.result)) (c.tables.view_is ∙ c.in_ok-tables.ensures)
    ∙ ap (λ (r : Rows). changed c.args.self.now c.args.table (λ t. r)) c.from_vec.ensures
