use Rattle.std.proofs.Common.{◌≡◌, List, [], ◌∷◌, ℕ, get_or, take, drop, sym, ◌∙◌, ap}
use Rattle.disk_core.specs.declared.history.Entry.TheVariants.{Write}
use Rattle.disk_core.specs.Entries.{change_of, len_of, total_len, calls_of}
use Rattle.disk_core.specs.History.{Change}
use Rattle.disk_core.specs.Places.{is_written}
use Rattle.disk_core.proofs.Calls.{front_fits, rest_more, calls_more}
use Rattle.disk_core.proofs.history.History.is_written.Goals as goal

pub split_at-requires : goal.split_at-requires
split_at-requires c =
    let fits = front_fits c.deref-entry-items.result.now c.loop-entry.entry-index (Write 0 0) c.loop-entry-test.true c.as_slice-rest.result.now c.loop-entry.invariant.whole in
    rw (c.len.ensures, c.loop-entry.invariant.rest) fits

pub loop-entry-preserved : goal.loop-entry-preserved
loop-entry-preserved c =
    let entries = c.deref-entry-items.result.now in
    let i = c.loop-entry.entry-index in
    let bytes = c.as_slice-rest.result.now in
    let so_far = c.loop-entry.invariant in
    let entry = get_or entries i (Write 0 0) in
    let earlier = calls_of (take i entries) bytes [] in
    let rest = drop (total_len (take i entries)) bytes in
    let piece : c.split_at.result.0.now ≡ take (len_of entry) rest = c.split_at.ensures.front ∙ ap (λ n. take n c.loop-entry.rest.now) c.len.ensures ∙ ap (λ (l : List ℕ). take (len_of entry) l) so_far.rest in
    record {
      so_far = c.has_written-written.ensures earlier so_far.so_far
          ∙ ap (λ (l : List ℕ). is_written (change_of entry l ∷ earlier) c.args.place) piece
          ∙ ap (λ (l : List Change). is_written l c.args.place) (sym (calls_more entries i (Write 0 0) c.loop-entry-test.true bytes));
      rest = c.split_at.ensures.back ∙ ap (λ n. drop n c.loop-entry.rest.now) c.len.ensures ∙ ap (λ (l : List ℕ). drop (len_of entry) l) so_far.rest ∙ rest_more entries i (Write 0 0) c.loop-entry-test.true bytes;
      whole = so_far.whole;
    }
