-- Writing columns one after another.
use Rattle.std.proofs.Common.{◌≡◌, ℕ, zero, suc, ◌+◌, ◌-◌, ◌<◌, ◌≤◌, add-one, List, [], ◌∷◌, ◌++◌, length, get_or, set, take, drop, replicate, refl, sym, ◌∙◌, ap, append_assoc, arith}
use Rattle.std.proofs.lemmas.List.{length-append, length-replicate, length-drop, drop_all, append-nil}
use Rattle.std.proofs.lemmas.List.Sums.{sum_by-cons}
use Rattle.std.proofs.lemmas.Slice.{take-put_mid}
use borrow.Rule.Slice.PartMut.{put_mid}
use Rattle.row_types.specs.declared.definition.Kind.{Kind}
use Rattle.row_types.specs.declared.definition.Kind.TheVariants as kind
use Rattle.row_types.specs.declared.definition.Column.{Column}
use Rattle.row_types.specs.declared.row.Value.{Value}
use Rattle.row_types.specs.declared.row.Value.TheVariants as value
use Rattle.row_types.specs.Slot.{width, widths, cell_text, cells_text, FitsKind, IsRowOf}

pub fits_at : (columns : List Column) (values : List Value) (i : ℕ) (c : Column) (v : Value) → IsRowOf columns values → i < length columns → c ≡ get_or columns i c → v ≡ get_or values i v → FitsKind c.kind v
fits_at [] values i c v row inside c-is v-is = absurd (omega arith)
fits_at (d ∷ columns) [] i c v row inside c-is v-is = absurd row
fits_at (d ∷ columns) (u ∷ values) zero c v row inside c-is v-is = rw (c-is, v-is) row.0
fits_at (d ∷ columns) (u ∷ values) (suc i) c v row inside c-is v-is = fits_at columns values i c v row.1 (omega arith) c-is v-is

cells_text-take_suc : (columns : List Column) (values : List Value) (i : ℕ) (c : Column) (v : Value) → IsRowOf columns values → i < length columns → c ≡ get_or columns i c → v ≡ get_or values i v
    → cells_text (take (suc i) columns) (take (suc i) values) ≡ cells_text (take i columns) (take i values) ++ cell_text c.kind v
cells_text-take_suc [] values i c v row inside c-is v-is = absurd (omega arith)
cells_text-take_suc (d ∷ columns) [] i c v row inside c-is v-is = absurd row
cells_text-take_suc (d ∷ columns) (u ∷ values) zero c v row inside c-is v-is = rw (c-is, v-is) (append-nil (cell_text d.kind u))
cells_text-take_suc (d ∷ columns) (u ∷ values) (suc i) c v row inside c-is v-is =
    ap (λ (t : List ℕ). cell_text d.kind u ++ t) (cells_text-take_suc columns values i c v row.1 (omega arith) c-is v-is) ∙ sym (append_assoc (cell_text d.kind u) _ _)

pub cells_text_more : (columns : List Column) (values : List Value) (i : ℕ) (c : Column) (v : Value) → IsRowOf columns values → i < length columns → c ≡ get_or columns i c → v ≡ get_or values i v
    → cells_text (take (i + 1) columns) (take (i + 1) values) ≡ cells_text (take i columns) (take i values) ++ cell_text c.kind v
cells_text_more columns values i c v row inside c-is v-is = rw add-one (cells_text-take_suc columns values i c v row inside c-is v-is)

pub length-cell_text : (k : Kind) (v : Value) → FitsKind k v → length (cell_text k v) ≡ width k
length-cell_text kind.Int (value.Int number) fits = refl
length-cell_text (kind.Text limit) (value.Text text) fits = omega (arith, length-append text (replicate (limit - length text) 0), length-replicate {A = ℕ} (limit - length text) 0, fits.0)
length-cell_text kind.Int (value.Text text) fits = absurd fits
length-cell_text (kind.Text limit) (value.Int number) fits = absurd fits

pub length-cells_text : (columns : List Column) (values : List Value) → IsRowOf columns values → length (cells_text columns values) ≡ widths columns
length-cells_text [] [] row = refl
length-cells_text (c ∷ columns) (v ∷ values) row =
    omega (arith, length-append (cell_text c.kind v) (cells_text columns values), length-cell_text c.kind v row.0, length-cells_text columns values row.1, sum_by-cons (λ (x : Column). width x.kind) c columns)
length-cells_text [] (v ∷ values) row = absurd row
length-cells_text (c ∷ columns) [] row = absurd row

pub first_written : (into : List ℕ) → 0 < length into → take 1 (set into 0 1) ≡ 1 ∷ []
first_written [] some = absurd (omega arith)
first_written (b ∷ into) some = refl

-- one column of the loop over them, written behind those before it
module _ (columns : List Column) (values : List Value) (i at w : ℕ) (c : Column) (v : Value) (into cell : List ℕ) (row : IsRowOf columns values) (inside : i < length columns)
    (c-is : c ≡ get_or columns i c) (v-is : v ≡ get_or values i v) (w-is : w ≡ width c.kind) (cell-is : cell ≡ cell_text c.kind v) (room : at ≤ length into)
    (front : take at into ≡ 1 ∷ cells_text (take i columns) (take i values)) where
  pub front_more : take (at + w) (put_mid at (at + w - at) into cell) ≡ 1 ∷ cells_text (take (i + 1) columns) (take (i + 1) values)
  front_more =
      let fits : FitsKind c.kind v = fits_at columns values i c v row inside c-is v-is in
      let len : at + w ≡ at + length cell = rw cell-is (omega (arith, length-cell_text c.kind v fits)) in
      take-put_mid at (at + w - at) into cell (at + w) len room ∙ rw (front, cell-is, cells_text_more columns values i c v row inside c-is v-is) refl

-- zeros behind the last column complete the slot
pub filled : (into zeros cells : List ℕ) (at : ℕ) → take at into ≡ 1 ∷ cells → at ≤ length into → at ≡ suc (length cells) → zeros ≡ replicate (length into - at) 0
    → put_mid at (length into - at) into zeros ≡ 1 ∷ (cells ++ replicate (length into - suc (length cells)) 0)
filled into zeros cells at front room place zeros-is =
    let none : drop (length into - at) (drop at into) ≡ [] = drop_all (length into - at) (drop at into) (omega (arith, length-drop at into)) in
    ap (λ (f : List ℕ). f ++ (zeros ++ drop (length into - at) (drop at into))) front ∙ ap (λ (r : List ℕ). 1 ∷ (cells ++ (zeros ++ r))) none ∙ ap (λ (r : List ℕ). 1 ∷ (cells ++ r)) (append-nil zeros ∙ zeros-is) ∙ ap (λ (n : ℕ). 1 ∷ (cells ++ replicate (length into - n) 0)) place
