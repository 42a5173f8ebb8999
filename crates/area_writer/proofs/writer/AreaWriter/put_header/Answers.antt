use Rattle.std.proofs.Common.{◌+◌, ◌++◌, List, ℕ, length, sym, ◌∙◌, ap, ap₂, subst, arith}
use Rattle.std.specs.Int.{w16, to_le_bytes}
use Rattle.std.specs.Option.{ForSome}
use Rattle.area_writer.specs.Put.{HasText, new_area, text_so_far}
use Rattle.area_writer.proofs.Behind.{head_so_far, length-head}
use Rattle.area_writer.proofs.Told.{at_done}
use Rattle.area_writer.proofs.writer.AreaWriter.put_header.Goals as goal

pub returns-clause-filling : goal.returns-clause-filling
returns-clause-filling g c = at_done _ _ c.put_header-done.result c.finish.result c.put_header-done.ensures.text c.finish.ensures.ok c.finish.ensures.err (λ put ok.
    let content = g.D.Disk.content in
    let generation = c.args.generation in
    let settings = c.args.settings.now in
    let schema = c.args.schema.now in
    let count = c.args.count in
    let mid = c.put_header-done.new.disk in
    let area = new_area generation settings schema in
    let spelled = ap₂ (λ (f l : List ℕ). f ++ to_le_bytes w16 (length l) ++ l) c.fields-fields.ensures c.lay_schema-len.ensures.text ∙ head_so_far generation settings schema count in
    let file = subst (λ (l : List ℕ). ForSome (content mid) (HasText l)) spelled put in
    let size = c.lay_schema-len.ensures.len in
    record {
      at = 35 + c.lay_schema-len.result;
      stage = ok.1;
      place = ap (λ (n : ℕ). 35 + n) size ∙ length-head generation settings schema count;
      near = omega (arith, c.lay_schema-len.ensures.short, c.ranges.count.fits);
      file = subst (λ disk. ForSome (content disk) (HasText (text_so_far area count))) (sym c.finish.ensures.spare) file;
    })
