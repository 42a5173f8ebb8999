use Rattle.std.proofs.Common.{◌≡◌, ◌⊎◌, inl, inr, ℕ, ◌+◌, ◌-◌, ◌<◌, ◌≤◌, List, ◌++◌, length, take, drop, Result, Ok, Err, refl, sym, ◌∙◌, ap, subst, length-drop, arith}
use Rattle.std.proofs.lemmas.List.{take_rest}
use Rattle.op_log.specs.Changes.{IsReadAs, change_text}
use Rattle.op_log.specs.declared.change.RowChange.{RowChange}
use Rattle.op_log.specs.declared.change.ChangeFault.{ChangeFault}
use Rattle.list_store.proofs.Fronts.{len_read, next_there}
use Rattle.list_store.proofs.reading.changes_len.Goals as goal

pub unreachable-requires : goal.unreachable-requires
unreachable-requires c =
    let r = c.requires in
    let defs = c.args.schema.now in
    let body = c.args.body.now in
    let len = c.loop.len in
    let n = next_there defs body r.0 r.1 r.2 r.3 c.loop.counter len (omega (arith, r.4, c.loop-test.true)) (c.loop.invariant.len_is r.0 r.1 r.2 r.3 r.4) in
    elim (c.read_change.ensures.only n.change n.behind n.fits (take_rest body len ∙ n.there)) [
      | inl e ↦ let both = sym c.in-Err-BadChange.is ∙ e in cc
      | inr e ↦ let both = sym (ap Err c.in-Err-BadChange.field-0-is) ∙ sym c.in-Err-BadChange.is ∙ e in cc
    ]

pub loop-preserved : goal.loop-preserved
loop-preserved c =
    let defs = c.args.schema.now in
    let body = c.args.body.now in
    let len = c.loop.len in
    let read : IsReadAs defs (drop len body) c.in-Ok.field-0-0 c.in-Ok.more = subst (λ (l : List ℕ). IsReadAs defs l c.in-Ok.field-0-0 c.in-Ok.more) (take_rest body len) c.in-Ok.ensures.found in
    record {
      inside = omega (arith, read.inside, length-drop len body, c.loop.invariant.inside);
      len_is = λ changes rest fit text inside.
          let so_far = c.loop.invariant.len_is changes rest fit text inside in
          let n = next_there defs body changes rest fit text c.loop.counter len (omega (arith, inside, c.loop-test.true)) so_far in
          elim (c.read_change.ensures.only n.change n.behind n.fits (take_rest body len ∙ n.there)) [
            | inl e ↦ omega (arith, len_read c.read_change.result c.in-Ok.field-0-0 n.change c.in-Ok.more (length (change_text defs n.change)) c.in-Ok.is e, n.next)
            | inr e ↦ let both = sym c.in-Ok.is ∙ e in absurd cc
          ];
    }
