use Rattle.std.proofs.Common.{refl, ℕ, suc, ◌-◌, ◌≤◌, drop, replicate, ◌≡◌, ◌+◌, ◌++◌, ◌∷◌, length, take, ◌∙◌, ap, arith}
use Rattle.std.proofs.lemmas.List.{take_all, length-set, length-take, length-drop}
use Rattle.row_types.specs.Slot.{widths, slot_len, cells_text}
use Rattle.row_types.proofs.Cells.{widths_more_le, widths_more, length_of_row}
use Rattle.row_types.proofs.WritingCells.{fits_at, length-cells_text, first_written, front_more, filled}
use Rattle.row_types.proofs.slot.write_slot.Goals as goal

pub loop-i-init : goal.loop-i-init
loop-i-init c = record { place = refl; front = first_written c.args.into.now (omega arith) }

pub bounds-values-i : goal.bounds-values-i
bounds-values-i c = omega (arith, length_of_row c.args.columns.now c.args.values.now c.requires.row)

pub put_cell-requires-clause-fits : goal.put_cell-requires-clause-fits
put_cell-requires-clause-fits c = fits_at c.args.columns.now c.args.values.now c.loop-i.i c.index-columns-i.result c.index-values-i.result c.requires.row c.loop-i-test.true c.index-columns-i.is c.index-values-i.is

pub loop-i-preserved : goal.loop-i-preserved
loop-i-preserved c =
    let most = widths_more_le c.args.columns.now c.loop-i.i c.index-columns-i.result c.loop-i-test.true c.index-columns-i.is in
    record {
      place =
          let more = widths_more c.args.columns.now c.loop-i.i c.index-columns-i.result c.loop-i-test.true c.index-columns-i.is in
          omega arith;
      front =
          front_more c.args.columns.now c.args.values.now c.loop-i.i c.loop-i.at c.width.result c.index-columns-i.result c.index-values-i.result c.loop-i.into c.put_cell.new.into
          c.requires.row c.loop-i-test.true c.index-columns-i.is c.index-values-i.is c.width.ensures.value c.put_cell.ensures (omega (arith, length-set c.args.into.now 0 1)) c.loop-i.invariant.front;
    }

pub returns : goal.returns
returns c =
    let columns = c.args.columns.now in
    let values = c.args.values.now in
    let cells = cells_text columns values in
    let all : take c.loop-i.i columns ≡ columns = take_all c.loop-i.i columns c.loop-i-test.false in
    let row-len = length_of_row columns values c.requires.row in
    let both : take c.loop-i.i values ≡ values = take_all c.loop-i.i values (omega arith) in
    let front : take c.loop-i.at c.loop-i.into ≡ 1 ∷ cells = c.loop-i.invariant.front ∙ rw (all, both) refl in
    let place : c.loop-i.at ≡ 1 + widths columns = c.loop-i.invariant.place ∙ rw all refl in
    let len = length-cells_text columns values c.requires.row in
    let whole : length c.loop-i.into ≡ slot_len columns = omega (arith, length-set c.args.into.now 0 1) in
    let rest : length (take (length c.loop-i.into - c.loop-i.at) (drop c.loop-i.at c.loop-i.into)) ≡ length c.loop-i.into - c.loop-i.at = simp (length-take, length-drop) (omega arith) in
    let zeros : c.fill.new.self ≡ replicate (length c.loop-i.into - c.loop-i.at) 0 = c.fill.ensures.after (λ y h. h) ∙ ap (λ (n : ℕ). replicate n 0) rest in
    let room : c.loop-i.at ≤ length c.loop-i.into = omega arith in
    let behind : c.loop-i.at ≡ suc (length cells) = omega (arith, len) in
    filled c.loop-i.into c.fill.new.self cells c.loop-i.at front room behind zeros ∙ ap (λ (n : ℕ). 1 ∷ (cells ++ replicate (n - suc (length cells)) 0)) whole
