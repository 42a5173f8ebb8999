use Rattle.std.proofs.Common.{List, ℕ, drop, refl, sym, ap, subst, ◌∙◌, inl, inr}
use Rattle.std.specs.Prelude.{decimal}
use Rattle.script.specs.Headers.{BeginsSection}
use Rattle.script.specs.Lines.{Session, lines}
use Rattle.script.specs.Reached.{BreaksSection, IsBadSession}
use Rattle.script.specs.Script.{numbered}
use Rattle.script.proofs.LineLaws.{slice_rest}
use Rattle.script.proofs.ScriptLaws.{another, numbered_session, too_many}
use Rattle.script.proofs.SectionLaws.{err_weaker}
use Rattle.script.proofs.splitting.session_at.Goals as goal

pub returns-then-number-gt-MAX_SESSIONS-clause-fault : goal.returns-then-number-gt-MAX_SESSIONS-clause-fault
returns-then-number-gt-MAX_SESSIONS-clause-fault c = inl (too_many c.args.text.now c.args.at c.args.number c.requires.starts c.requires.inside c.if-number-gt-MAX_SESSIONS.true, refl)

pub returns-then-not-begins_session-clause-fault : goal.returns-then-not-begins_session-clause-fault
returns-then-not-begins_session-clause-fault c =
    let text = c.args.text.now in
    let at = c.args.at in
    let same = slice_rest _ at ∙ ap (λ (l : List ℕ). drop at l) c.as_bytes.ensures.value in
    inl (another text at c.args.number c.requires.starts c.requires.inside c.requires.some (λ begins. absurd (let yes = c.begins_session.ensures.1 (subst (λ (l : List ℕ). BeginsSection (lines l) (Session (decimal c.args.number))) (sym same) begins) in let both = sym yes ∙ c.if-not-begins_session.true in cc)), refl)

pub returns-clause-session : goal.returns-clause-session
returns-clause-session c =
    let text = c.args.text.now in
    let at = c.args.at in
    let same = slice_rest _ at ∙ ap (λ (l : List ℕ). drop at l) c.as_bytes.ensures.value in
    let begins : BeginsSection (lines (drop at text)) (numbered c.args.number) = subst (BeginsSection (lines (drop at text))) (sym (numbered_session c.args.number c.requires.some)) (subst (λ (l : List ℕ). BeginsSection (lines l) (Session (decimal c.args.number))) same (c.begins_session.ensures.0 c.if-not-begins_session.false)) in
    c.section_at.ensures.section (numbered c.args.number) begins

pub returns-clause-fault : goal.returns-clause-fault
returns-clause-fault c =
    let text = c.args.text.now in
    let at = c.args.at in
    let same = slice_rest _ at ∙ ap (λ (l : List ℕ). drop at l) c.as_bytes.ensures.value in
    let begins : BeginsSection (lines (drop at text)) (numbered c.args.number) = subst (BeginsSection (lines (drop at text))) (sym (numbered_session c.args.number c.requires.some)) (subst (λ (l : List ℕ). BeginsSection (lines l) (Session (decimal c.args.number))) same (c.begins_session.ensures.0 c.if-not-begins_session.false)) in
    err_weaker c.section_at.result (BreaksSection text at (numbered c.args.number)) (IsBadSession text at c.args.number) (λ place breaks. inr (c.if-number-gt-MAX_SESSIONS.false, breaks)) (c.section_at.ensures.fault (numbered c.args.number) begins)
