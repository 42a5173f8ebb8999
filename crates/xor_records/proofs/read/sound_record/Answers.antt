use Rattle.std.proofs.Common.{◌≡◌, ◌+◌, ◌≤◌, ◌<◌, ◌^◌, length, subst, sym, ap, ◌∙◌, arith}
use Rattle.xor_records.specs.Record.{Commit, End, IsTxn}
use Rattle.xor_records.proofs.TextLaws.{kinds, a_diff, no_diff, an_end, at_diff, at_commit, at_end}
use Rattle.xor_records.proofs.read.sound_record.Goals as goal

pub bounds-from-0 : goal.bounds-from-0
bounds-from-0 c = omega (arith, (kinds c.args.from.now c.requires).0)

pub diff_of-requires-clause-record : goal.diff_of-requires-clause-record
diff_of-requires-clause-record c = (a_diff c.args.from.now (λ k. (c.type_inv.from k).fits) c.requires c.if-kind-eq-DIFF.true).0

pub diff_of-requires-clause-whole : goal.diff_of-requires-clause-whole
diff_of-requires-clause-whole c = (a_diff c.args.from.now (λ k. (c.type_inv.from k).fits) c.requires c.if-kind-eq-DIFF.true).1

pub length_at-requires : goal.length_at-requires
length_at-requires c = omega (arith, (a_diff c.args.from.now (λ k. (c.type_inv.from k).fits) c.requires c.if-kind-eq-DIFF.true).1)

pub returns-then-kind-eq-DIFF-clause-record : goal.returns-then-kind-eq-DIFF-clause-record
returns-then-kind-eq-DIFF-clause-record c = c.diff_of.ensures ∙ sym (at_diff c.args.from.now c.if-kind-eq-DIFF.true).0

pub returns-then-kind-eq-DIFF-clause-len : goal.returns-then-kind-eq-DIFF-clause-len
returns-then-kind-eq-DIFF-clause-len c = ap (λ n. 27 + n) c.length_at.ensures ∙ sym (at_diff c.args.from.now c.if-kind-eq-DIFF.true).1

pub txn_at-txn-requires : goal.txn_at-txn-requires
txn_at-txn-requires c = (no_diff c.args.from.now (λ k. (c.type_inv.from k).fits) c.requires c.if-kind-eq-DIFF.false).1

pub new-requires : goal.new-requires
new-requires c = subst IsTxn (sym c.txn_at-txn.ensures) (no_diff c.args.from.now (λ k. (c.type_inv.from k).fits) c.requires c.if-kind-eq-DIFF.false).0

pub returns-then-kind-eq-COMMIT-clause-record : goal.returns-then-kind-eq-COMMIT-clause-record
returns-then-kind-eq-COMMIT-clause-record c = c.new.ensures ∙ ap Commit c.txn_at-txn.ensures ∙ sym (at_commit c.args.from.now c.if-kind-eq-COMMIT.true).0

pub returns-then-kind-eq-COMMIT-clause-len : goal.returns-then-kind-eq-COMMIT-clause-len
returns-then-kind-eq-COMMIT-clause-len c = sym (at_commit c.args.from.now c.if-kind-eq-COMMIT.true).1

pub new-requires-2 : goal.new-requires-2
new-requires-2 c = subst IsTxn (sym c.txn_at-txn.ensures) (no_diff c.args.from.now (λ k. (c.type_inv.from k).fits) c.requires c.if-kind-eq-DIFF.false).0

pub returns-clause-record : goal.returns-clause-record
returns-clause-record c =
    c.new-2.ensures ∙ ap End c.txn_at-txn.ensures ∙ sym (at_end c.args.from.now (an_end c.args.from.now c.requires c.if-kind-eq-DIFF.false c.if-kind-eq-COMMIT.false)).0

pub returns-clause-len : goal.returns-clause-len
returns-clause-len c = sym (at_end c.args.from.now (an_end c.args.from.now c.requires c.if-kind-eq-DIFF.false c.if-kind-eq-COMMIT.false)).1
