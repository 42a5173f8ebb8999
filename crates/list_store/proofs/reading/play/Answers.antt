use Rattle.std.proofs.Common.{◌≡◌, ℕ, ◌+◌, ◌<◌, ◌≤◌, List, [], ◌∷◌, ◌++◌, length, take, get_or, Result, Ok, Err, refl, sym, ◌∙◌, ap, subst, arith, rules}
use Rattle.std.proofs.lemmas.Result.{err_from_is_err_and}
use Rattle.lane_format.specs.declared.segment.Batch.{Batch}
use Rattle.list_keeper.specs.Past.{tables_in}
use Rattle.list_store.specs.Found.{HasRead, bodies_in}
use Rattle.list_store.specs.Log.{IsNoBatch}
use Rattle.list_store.specs.declared.fault.OpenFault.TheVariants.{Damaged}
use Rattle.list_store.proofs.Playing.{bodies_more, bodies_next, stops_here}
use Rattle.list_store.proofs.reading.play.Goals as goal

pub returns-in_err-keeper-clause-damaged : goal.returns-in_err-keeper-clause-damaged
returns-in_err-keeper-clause-damaged c = λ file at e.
    let batches = c.args.batches.now in
    let i = c.loop-batch.batch-index in
    let item = c.batch-item.result in
    let defs = c.args.schema.now in
    let same : get_or batches i item ≡ item = search (rules, c.batch-item.is) in
    let body_is : c.as_slice-body.result.now ≡ (get_or batches i item).body = c.as_slice-body.ensures ∙ ap (λ (b : Batch). b.body) (sym same) in
    let y = err_from_is_err_and c.from_residual.result c.from_residual.ensures.1 in
    let inner : c.in_err-keeper.field-0.0 ≡ Damaged file at = let both = sym y.1 ∙ e in let fault : y.0 ≡ Damaged file at = cc in sym y.2 ∙ fault in
    let found = c.play_batch.ensures.damaged file at (c.in_err-keeper.was ∙ ap Err inner) in
    let inside : i < length batches = omega (arith, c.loop-batch-test.true) in
    (found.0, λ some. stops_here defs c.loop-batch.keeper c.loop-batch.gate batches i item at inside c.loop-batch.invariant.read c.loop-batch.invariant.bodies (subst (λ (l : List ℕ). 1 ≤ length l → IsNoBatch defs (tables_in c.loop-batch.keeper) c.loop-batch.gate l at) body_is found.1) some)

pub loop-batch-preserved : goal.loop-batch-preserved
loop-batch-preserved c =
    let batches = c.args.batches.now in
    let i = c.loop-batch.batch-index in
    let item = c.batch-item.result in
    let defs = c.args.schema.now in
    let same : get_or batches i item ≡ item = search (rules, c.batch-item.is) in
    let body = c.as_slice-body.result.now in
    let body_is : body ≡ (get_or batches i item).body = c.as_slice-body.ensures ∙ ap (λ (b : Batch). b.body) (sym same) in
    let inside : i < length batches = omega (arith, c.loop-batch-test.true) in
    let so_far = c.loop-batch.invariant in
    let next = c.in_ok-keeper.keeper in
    record {
      read = subst (HasRead defs next) (omega arith) c.in_ok-keeper.ensures.read;
      bodies =
          bodies_next defs c.loop-batch.keeper next c.loop-batch.gate body so_far.read c.in_ok-keeper.ensures.plays
          ∙ ap (λ (l : List (List ℕ)). l ++ body ∷ []) so_far.bodies
          ∙ ap (λ (l : List ℕ). bodies_in (take i batches) ++ l ∷ []) body_is
          ∙ sym (bodies_more batches i item inside);
    }
