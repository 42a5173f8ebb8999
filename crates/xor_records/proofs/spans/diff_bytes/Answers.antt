use Rattle.xor_records.proofs.SpanLaws.{turned, first_apart, last_apart, made}
use Rattle.xor_records.proofs.spans.diff_bytes.Goals as goal

pub returns-clause-bytes : goal.returns-clause-bytes
returns-clause-bytes c = made c.args.diff.now.offset c.args.diff.now.length c.args.before.now c.args.after.now c.copy_from_slice.new.self c.xor_into.new.into c.copy_from_slice.ensures.after c.xor_into.ensures

pub returns-clause-turns : goal.returns-clause-turns
returns-clause-turns c =
    turned c.args.before.now c.args.after.now c.args.diff.now.offset c.args.diff.now.length c.xor_into.new.into c.requires.lengths c.requires.span
    (made c.args.diff.now.offset c.args.diff.now.length c.args.before.now c.args.after.now c.copy_from_slice.new.self c.xor_into.new.into c.copy_from_slice.ensures.after c.xor_into.ensures)

pub returns-clause-first : goal.returns-clause-first
returns-clause-first c =
    first_apart c.args.before.now c.args.after.now c.args.diff.now.offset c.args.diff.now.length c.xor_into.new.into c.requires.span
    (made c.args.diff.now.offset c.args.diff.now.length c.args.before.now c.args.after.now c.copy_from_slice.new.self c.xor_into.new.into c.copy_from_slice.ensures.after c.xor_into.ensures)

pub returns-clause-last : goal.returns-clause-last
returns-clause-last c =
    last_apart c.args.before.now c.args.after.now c.args.diff.now.offset c.args.diff.now.length c.xor_into.new.into c.requires.span
    (made c.args.diff.now.offset c.args.diff.now.length c.args.before.now c.args.after.now c.copy_from_slice.new.self c.xor_into.new.into c.copy_from_slice.ensures.after c.xor_into.ensures)
