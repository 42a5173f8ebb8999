use Rattle.std.proofs.Common.{◌∙◌, length, arith, refl, sym, ap}
use Rattle.std.specs.Prelude.{max}
use Rattle.atomic_table.specs.Seated.{TableId}
use Rattle.olfit_tree.proofs.Laid.{base_rows, built_is, clean_is, few_nodes, laid_long, laid_opens, new_is, packed_is, paid_is, room_is, told_is, works_is}
use Rattle.olfit_tree.proofs.index.Index.build.Goals as goal

pub laid_out-requires-clause-few : goal.laid_out-requires-clause-few
laid_out-requires-clause-few c = few_nodes c.args.nodes c.max-nodes.result c.args.sorted.now c.leaf_size.result c.requires.some c.requires.few c.ranges.nodes.fits (c.max-nodes.ensures ∙ ap (max c.args.nodes) c.nodes_needed.ensures) c.leaf_size.ensures

pub laid_out-requires-clause-room : goal.laid_out-requires-clause-room
laid_out-requires-clause-room c = room_is c.args.nodes c.max-nodes.result c.args.sorted.now c.leaf_size.result c.requires.some c.requires.few c.ranges.nodes.fits (c.max-nodes.ensures ∙ ap (max c.args.nodes) c.nodes_needed.ensures) c.leaf_size.ensures

pub opened-requires : goal.opened-requires
opened-requires c = laid_opens c.args.nodes c.max-nodes.result c.args.sorted.now c.leaf_size.result c.requires.some c.requires.few c.ranges.nodes.fits (c.max-nodes.ensures ∙ ap (max c.args.nodes) c.nodes_needed.ensures) c.leaf_size.ensures c.requires.rises c.in_ok-words.words.items c.in_ok-words.used c.in_ok-words.ensures.words

pub invariant_of-index : goal.invariant_of-index
invariant_of-index c =
    let long = laid_long c.args.nodes c.max-nodes.result c.args.sorted.now c.leaf_size.result c.requires.some c.requires.few c.ranges.nodes.fits (c.max-nodes.ensures ∙ ap (max c.args.nodes) c.nodes_needed.ensures) c.leaf_size.ensures c.requires.rises c.in_ok-words.words.items c.in_ok-words.used c.in_ok-words.ensures.words in
    let m = c.max-nodes.ensures in let s = c.requires.some in record {
      some = omega (arith, m, s);
      few = (few_nodes c.args.nodes c.max-nodes.result c.args.sorted.now c.leaf_size.result c.requires.some c.requires.few c.ranges.nodes.fits (c.max-nodes.ensures ∙ ap (max c.args.nodes) c.nodes_needed.ensures) c.leaf_size.ensures).1;
      sized = c.in_ok-memory.ensures.table.1 ∙ long;
    }

pub invariant_of-writer : goal.invariant_of-writer
invariant_of-writer c =
    let long = laid_long c.args.nodes c.max-nodes.result c.args.sorted.now c.leaf_size.result c.requires.some c.requires.few c.ranges.nodes.fits (c.max-nodes.ensures ∙ ap (max c.args.nodes) c.nodes_needed.ensures) c.leaf_size.ensures c.requires.rises c.in_ok-words.words.items c.in_ok-words.used c.in_ok-words.ensures.words in
    record {
      works = works_is c.args.nodes c.max-nodes.result c.args.sorted.now c.leaf_size.result c.requires.some c.requires.few c.ranges.nodes.fits (c.max-nodes.ensures ∙ ap (max c.args.nodes) c.nodes_needed.ensures) c.leaf_size.ensures c.requires.rises c.in_ok-words.words.items c.in_ok-words.used c.in_ok-words.ensures.words c.in_ok-memory.hand.me.0 (ap (λ x. x.0) c.in_ok-memory.ensures.writer)
          c.in_ok-memory.hand.table_id c.in_ok-memory.hand refl refl (ap (λ (t : TableId). t.words) c.in_ok-memory.ensures.table.0 ∙ (c.in_ok-memory.ensures.table.1 ∙ long));
      counted = sym (ap (λ x. length x.0.seen.log) c.in_ok-memory.ensures.writer);
      built = built_is c.args.nodes c.max-nodes.result c.args.sorted.now c.leaf_size.result c.requires.some c.requires.few c.ranges.nodes.fits (c.max-nodes.ensures ∙ ap (max c.args.nodes) c.nodes_needed.ensures) c.leaf_size.ensures c.requires.rises c.in_ok-words.words.items c.in_ok-words.used c.in_ok-words.ensures.words c.in_ok-memory.hand.me.0 (ap (λ x. x.0) c.in_ok-memory.ensures.writer);
      inserted = omega arith;
      paid = paid_is c.args.nodes c.max-nodes.result c.args.sorted.now c.leaf_size.result c.requires.some c.requires.few c.ranges.nodes.fits (c.max-nodes.ensures ∙ ap (max c.args.nodes) c.nodes_needed.ensures) c.leaf_size.ensures c.requires.rises c.in_ok-words.words.items c.in_ok-words.used c.in_ok-words.ensures.words c.in_ok-memory.hand.me.0 (ap (λ x. x.0) c.in_ok-memory.ensures.writer);
    }

pub returns-clause-base : goal.returns-clause-base
returns-clause-base c = base_rows c.args.nodes c.max-nodes.result c.args.sorted.now c.leaf_size.result c.requires.some c.requires.few c.ranges.nodes.fits (c.max-nodes.ensures ∙ ap (max c.args.nodes) c.nodes_needed.ensures) c.leaf_size.ensures c.requires.rises c.in_ok-words.words.items c.in_ok-words.used c.in_ok-words.ensures.words c.in_ok-memory.hand.me.0 (ap (λ x. x.0) c.in_ok-memory.ensures.writer)

pub returns-clause-packed : goal.returns-clause-packed
returns-clause-packed c = packed_is c.args.nodes c.max-nodes.result c.args.sorted.now c.leaf_size.result c.requires.some c.requires.few c.ranges.nodes.fits (c.max-nodes.ensures ∙ ap (max c.args.nodes) c.nodes_needed.ensures) c.leaf_size.ensures c.requires.rises c.in_ok-words.words.items c.in_ok-words.used c.in_ok-words.ensures.words c.in_ok-memory.hand.me.0 (ap (λ x. x.0) c.in_ok-memory.ensures.writer) c.in_ok-memory.hand.table_id

pub returns-clause-new : goal.returns-clause-new
returns-clause-new c = new_is c.args.nodes c.max-nodes.result c.args.sorted.now c.leaf_size.result c.requires.some c.requires.few c.ranges.nodes.fits (c.max-nodes.ensures ∙ ap (max c.args.nodes) c.nodes_needed.ensures) c.leaf_size.ensures c.requires.rises c.in_ok-words.words.items c.in_ok-words.used c.in_ok-words.ensures.words c.in_ok-memory.hand.me.0 (ap (λ x. x.0) c.in_ok-memory.ensures.writer)

pub returns-clause-told : goal.returns-clause-told
returns-clause-told c = told_is c.args.nodes c.max-nodes.result c.args.sorted.now c.leaf_size.result c.requires.some c.requires.few c.ranges.nodes.fits (c.max-nodes.ensures ∙ ap (max c.args.nodes) c.nodes_needed.ensures) c.leaf_size.ensures c.requires.rises c.in_ok-words.words.items c.in_ok-words.used c.in_ok-words.ensures.words c.in_ok-memory.hand.me.0 (ap (λ x. x.0) c.in_ok-memory.ensures.writer)

pub returns-clause-clean : goal.returns-clause-clean
returns-clause-clean c = clean_is c.args.nodes c.max-nodes.result c.args.sorted.now c.leaf_size.result c.requires.some c.requires.few c.ranges.nodes.fits (c.max-nodes.ensures ∙ ap (max c.args.nodes) c.nodes_needed.ensures) c.leaf_size.ensures c.requires.rises c.in_ok-words.words.items c.in_ok-words.used c.in_ok-words.ensures.words c.in_ok-memory.hand.me.0 (ap (λ x. x.0) c.in_ok-memory.ensures.writer)
