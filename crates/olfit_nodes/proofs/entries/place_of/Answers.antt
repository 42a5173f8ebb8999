use Rattle.std.proofs.Common.{◌≡◌, nat_le, ℕ, arith, sym, ap, cond, Bool}
use Rattle.std.proofs.lemmas.Bool.{le-leb, lt-leb}
use Rattle.std.proofs.lemmas.List.FromFn.{sum_by-map-range_with_len_more}
use Rattle.olfit_nodes.specs.Nodes.{Entry, entry_at}
use Rattle.olfit_nodes.proofs.entries.place_of.Goals as goal
use Rattle.olfit_nodes.proofs.entries.place_of.Goals.{then-entry-key, else-entry-key}

pub loop-place-preserved : goal.loop-place-preserved
loop-place-preserved c =
    let more = sum_by-map-range_with_len_more (λ (e : Entry). cond (nat_le e.0 c.args.key) 1 0) (entry_at c.args.words.now) 0 c.loop-place.place c.loop-place.place (omega arith) in
    let so = c.loop-place.invariant.counted in let few = c.loop-place.invariant.few in
    let key : (entry_at c.args.words.now c.loop-place.place).0 ≡ c.entry.result.0 = ap (λ (e : Entry). e.0) (sym c.entry.ensures) in
    elim c.if-entry-key.branch [
      | then-entry-key w ↦ record {
        few = omega arith;
        counted = let yes = le-leb (entry_at c.args.words.now c.loop-place.place).0 c.args.key (omega arith) in
            let e : cond {A = ℕ} (nat_le (entry_at c.args.words.now c.loop-place.place).0 c.args.key) 1 0 ≡ 1 = ap (λ (b : Bool). cond {A = ℕ} b 1 0) yes in omega (arith, so, more, e, w.below-is);
      }
      | else-entry-key w ↦ record {
        few = omega arith;
        counted = let no = lt-leb (entry_at c.args.words.now c.loop-place.place).0 c.args.key (omega arith) in
            let e : cond {A = ℕ} (nat_le (entry_at c.args.words.now c.loop-place.place).0 c.args.key) 1 0 ≡ 0 = ap (λ (b : Bool). cond {A = ℕ} b 1 0) no in omega (arith, so, more, e, w.below-is);
      }
    ]
