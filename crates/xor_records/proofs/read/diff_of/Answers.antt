use Rattle.std.proofs.Common.{◌≡◌, ◌+◌, ◌-◌, ◌≤◌, length, take, drop, sym, ap, ap₂, ◌∙◌, subst, arith, ℕ, List}
use Rattle.xor_records.specs.declared.record.Head.{Head}
use Rattle.xor_records.specs.Record.{Diff, IsRecord}
use Rattle.xor_records.specs.Places.{length_at, xor_at}
use Rattle.xor_records.specs.Reading.{head_at}
use Rattle.xor_records.proofs.read.diff_of.Goals as goal

part : (n : ℕ) (bytes : List ℕ) → n ≡ length_at bytes → take (27 + n - 27) (drop 27 bytes) ≡ xor_at bytes
part n bytes e = ap (λ k. take k (drop 27 bytes)) (omega (arith, e))

pub head_at-head-requires : goal.head_at-head-requires
head_at-head-requires c = omega (arith, c.requires.whole)

pub new-requires : goal.new-requires
new-requires c =
    subst IsRecord (ap₂ Diff (sym c.head_at-head.ensures) (sym (part c.length_at.result c.args.from.now c.length_at.ensures))) c.requires.record

pub returns : goal.returns
returns c = c.new.ensures ∙ ap₂ Diff c.head_at-head.ensures (part c.length_at.result c.args.from.now c.length_at.ensures)
