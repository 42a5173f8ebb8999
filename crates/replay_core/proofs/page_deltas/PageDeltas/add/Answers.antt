use Rattle.std.proofs.Common.{◌≡◌, ℕ, Bool, ◌<◌, ◌^◌, All, cond, nat_le, refl, sym, ap, ap₂, ◌∙◌, subst}
use Rattle.fields.specs.Toggle.{byte_from, toggled}
use Rattle.xor_records.specs.Record.{Diff, Commit, End, IsRecord}
use Rattle.xor_records.specs.Replay.{stamp_of, is_owed, only_one}
use Rattle.xor_records.specs.Views.{seen}
use Rattle.replay_core.specs.Ended.{is_in}
use Rattle.replay_core.specs.Pages.{name_of, is_named}
use Rattle.replay_core.proofs.DeltaLaws.{Grows, grown, grown_none, grown_owed, grown_not_owed}
use Rattle.replay_core.proofs.page_deltas.PageDeltas.add.Goals as goal

pub returns-then-is_owed-clause-ok : goal.returns-then-is_owed-clause-ok
returns-then-is_owed-clause-ok c =
    let images = c.args.images.now in
    let has_ended : ℕ → Bool = is_in c.args.ended.now in
    let head = c.in-Diff.head in
    let is : c.args.rec.now ≡ Diff head c.in-Diff.xor.now = sym c.kind.ensures.parts ∙ ap seen c.in-Diff.is in
    let bytes : All (λ x. x < 2 ^ 8) c.in-Diff.xor.now = (subst IsRecord is c.kind.ensures.record).1.bytes in
    let owed : is_owed has_ended (stamp_of images (name_of (head.table, head.page))) head ≡ _ =
    ap₂ (λ e s. only_one e (nat_le head.stamp s)) (sym c.has.ensures) (sym c.stamp_of-stamp.ensures) ∙ sym c.is_owed.ensures
    ∙ c.if-is_owed.true in
    grown images has_ended c.args.rec.now c.args.self.now c.flip.new.self
    (subst (λ r. Grows images has_ended r c.args.self.now c.flip.new.self) (sym is)
    (grown_owed images has_ended head c.in-Diff.xor.now c.args.self.now c.flip.new.self bytes owed
    (λ name. c.flip.ensures.there name ∙ c.in_ok-room-in-Diff.ensures.there name)
    (λ name. c.flip.ensures.xor name
    ∙ ap (λ x. cond (is_named (head.table, head.page) name) (toggled (byte_from head.offset) x c.in-Diff.xor.now) x)
    (c.in_ok-room-in-Diff.ensures.xor name))))

pub returns-else-is_owed-clause-ok : goal.returns-else-is_owed-clause-ok
returns-else-is_owed-clause-ok c =
    let images = c.args.images.now in
    let has_ended : ℕ → Bool = is_in c.args.ended.now in
    let head = c.in-Diff.head in
    let is : c.args.rec.now ≡ Diff head c.in-Diff.xor.now = sym c.kind.ensures.parts ∙ ap seen c.in-Diff.is in
    let bytes : All (λ x. x < 2 ^ 8) c.in-Diff.xor.now = (subst IsRecord is c.kind.ensures.record).1.bytes in
    let owed : is_owed has_ended (stamp_of images (name_of (head.table, head.page))) head ≡ _ =
    ap₂ (λ e s. only_one e (nat_le head.stamp s)) (sym c.has.ensures) (sym c.stamp_of-stamp.ensures) ∙ sym c.is_owed.ensures
    ∙ c.if-is_owed.false in
    grown images has_ended c.args.rec.now c.args.self.now c.room.new.self
    (subst (λ r. Grows images has_ended r c.args.self.now c.room.new.self) (sym is)
    (grown_not_owed images has_ended head c.in-Diff.xor.now c.args.self.now c.room.new.self bytes owed
    c.in_ok-room-in-Diff.ensures.there c.in_ok-room-in-Diff.ensures.xor))

pub returns-in-Commit-clause-ok : goal.returns-in-Commit-clause-ok
returns-in-Commit-clause-ok c =
    let images = c.args.images.now in
    let has_ended : ℕ → Bool = is_in c.args.ended.now in
    let is : c.args.rec.now ≡ Commit c.in-Commit.txn = sym c.kind.ensures.parts ∙ ap seen c.in-Commit.is in
    grown images has_ended c.args.rec.now c.args.self.now c.args.self.now
    (subst (λ r. Grows images has_ended r c.args.self.now c.args.self.now) (sym is)
    (grown_none images has_ended (Commit c.in-Commit.txn) c.args.self.now (λ _. refl) (λ _ _ _ _. refl)))

pub returns-in-End-clause-ok : goal.returns-in-End-clause-ok
returns-in-End-clause-ok c =
    let images = c.args.images.now in
    let has_ended : ℕ → Bool = is_in c.args.ended.now in
    let is : c.args.rec.now ≡ End c.in-End.txn = sym c.kind.ensures.parts ∙ ap seen c.in-End.is in
    grown images has_ended c.args.rec.now c.args.self.now c.args.self.now
    (subst (λ r. Grows images has_ended r c.args.self.now c.args.self.now) (sym is)
    (grown_none images has_ended (End c.in-End.txn) c.args.self.now (λ _. refl) (λ _ _ _ _. refl)))
