use Rattle.std.proofs.Common.{◌≡◌, ◌+◌, ◌≤◌, List, ℕ, take, sym, ap, subst, ◌∙◌, inr}
use Rattle.std.specs.Prelude.{IsTrue}
use Rattle.std.specs.List.{list_all}
use Rattle.std.proofs.lemmas.Result.{err_from_is_err_and}
use Rattle.sql_lex.specs.Tokens.{is_blank}
use Rattle.script.specs.Lines.{Setup, script_parts}
use Rattle.script.specs.Reached.{BreaksSection, HasSection, HasSections, IsBadSession}
use Rattle.script.specs.Script.{BreaksFirstAt, IsFirstUnblank, numbered}
use Rattle.script.proofs.ScriptLaws.{all_sections_read, bad_session, bad_setup, begun, front_is, one_more, sections_from}
use Rattle.script.proofs.SectionLaws.{FrontFacts, bad_weaker}
use Rattle.script.proofs.splitting.script_of.Goals as goal

-- blanks alone stand before the first header
blank_front : (text bytes bytes2 : List ℕ) (front : ℕ) → bytes ≡ text → bytes2 ≡ text → FrontFacts bytes front → IsTrue (list_all is_blank (take front bytes2)) → IsTrue (list_all is_blank (script_parts text).front)
blank_front text bytes bytes2 front same same2 facts blank =
    let f = subst (λ l. FrontFacts l front) same facts in
    subst (λ (l : List ℕ). IsTrue (list_all is_blank l)) (ap (λ (l : List ℕ). take front l) same2 ∙ sym (front_is text front (f.parts 0) f.header)) blank

pub returns-in_err-setup-clause-fault : goal.returns-in_err-setup-clause-fault
returns-in_err-setup-clause-fault c =
    let text = c.args.text.now in
    let front = c.front_len-front.result in
    let facts : FrontFacts c.as_bytes.result.now front = record { parts = c.front_len-front.ensures.parts; header = c.front_len-front.ensures.header; within = c.front_len-front.ensures.within; ended = c.front_len-front.ensures.ended } in
    let f = subst (λ l. FrontFacts l front) c.as_bytes.ensures.value facts in
    let blank = blank_front text _ _ front c.as_bytes.ensures.value c.as_bytes-2.ensures.value facts (subst (IsFirstUnblank (take front c.as_bytes-2.result.now)) c.in_default.is c.first_unblank.ensures) in
    let p = err_from_is_err_and c.from_residual.result c.from_residual.ensures.1 in
    rw (p.1, p.2) (bad_weaker _ (BreaksSection text front Setup) (BreaksFirstAt text) (λ place breaks. inr (blank, bad_setup text front place (sections_from text front (f.parts 0)) breaks)) c.in_err-setup.ensures.fault)

pub loop-at-init : goal.loop-at-init
loop-at-init c =
    let text = c.args.text.now in
    let front = c.front_len-front.result in
    let facts : FrontFacts c.as_bytes.result.now front = record { parts = c.front_len-front.ensures.parts; header = c.front_len-front.ensures.header; within = c.front_len-front.ensures.within; ended = c.front_len-front.ensures.ended } in
    let f = subst (λ l. FrontFacts l front) c.as_bytes.ensures.value facts in
    subst (HasSections text c.in_ok-setup.at c.in_ok-setup.setup) (sym c.new-sessions.ensures) (begun text front c.in_ok-setup.at c.in_ok-setup.setup (sections_from text front (f.parts 0)) f.header f.within c.in_ok-setup.ensures.setup)

pub returns-in_err-session-clause-fault : goal.returns-in_err-session-clause-fault
returns-in_err-session-clause-fault c =
    let text = c.args.text.now in
    let front = c.front_len-front.result in
    let facts : FrontFacts c.as_bytes.result.now front = record { parts = c.front_len-front.ensures.parts; header = c.front_len-front.ensures.header; within = c.front_len-front.ensures.within; ended = c.front_len-front.ensures.ended } in
    let blank = blank_front text _ _ front c.as_bytes.ensures.value c.as_bytes-2.ensures.value facts (subst (IsFirstUnblank (take front c.as_bytes-2.result.now)) c.in_default.is c.first_unblank.ensures) in
    let p = err_from_is_err_and c.from_residual-in_err-session.result c.from_residual-in_err-session.ensures.1 in
    rw (p.1, p.2) (bad_weaker _ (IsBadSession text c.loop-at.at (c.len.result + 1)) (BreaksFirstAt text) (λ place bad. inr (blank, bad_session text c.loop-at.at place _ c.loop-at.sessions c.loop-at.invariant (subst (λ n. IsBadSession text c.loop-at.at (n + 1) place) c.len.ensures bad))) c.in_err-session.ensures.fault)

pub loop-at-preserved : goal.loop-at-preserved
loop-at-preserved c =
    let text = c.args.text.now in
    let end = c.in_ok-session.end in
    let session = c.in_ok-session.session in
    let found = subst (λ n. HasSection text c.loop-at.at end (numbered (n + 1)) session) c.len.ensures c.in_ok-session.ensures.session in
    let most = subst (λ n. n + 1 ≤ 16) c.len.ensures c.in_ok-session.ensures.number in
    subst (HasSections text end _) (sym c.in_ok-push.ensures.ok) (one_more text c.loop-at.at end _ c.loop-at.sessions session c.loop-at.invariant found most)

pub returns-clause-script : goal.returns-clause-script
returns-clause-script c =
    let text = c.args.text.now in
    let front = c.front_len-front.result in
    let facts : FrontFacts c.as_bytes.result.now front = record { parts = c.front_len-front.ensures.parts; header = c.front_len-front.ensures.header; within = c.front_len-front.ensures.within; ended = c.front_len-front.ensures.ended } in
    let blank = blank_front text _ _ front c.as_bytes.ensures.value c.as_bytes-2.ensures.value facts (subst (IsFirstUnblank (take front c.as_bytes-2.result.now)) c.in_default.is c.first_unblank.ensures) in
    all_sections_read text c.loop-at.at _ c.requires.short c.utf8.text blank c.loop-at.invariant c.loop-at-test.false
