use Rattle.std.proofs.Common.{◌+◌, drop, sym, ap, ◌∙◌}
use Rattle.script.specs.Reading.{after_byte, end_of, later}
use Rattle.sql_lex.specs.Tokens.{opens_comment}
use Rattle.script.proofs.LineLaws.{slice_rest}
use Rattle.script.proofs.ScanLaws.{scan_goes_on, scan_stops}
use Rattle.script.proofs.scanning.statement_end.Goals as goal

pub returns-in-Some : goal.returns-in-Some
returns-in-Some c = scan_stops c.args.text.now c.loop-i.i c.loop-i.inside _ c.loop-i-test.true c.loop-i.invariant (sym c.in-Some.is ∙ c.end_at.ensures)

pub loop-i-preserved : goal.loop-i-preserved
loop-i-preserved c =
    let text = c.args.text.now in
    let i = c.loop-i.i in
    let opens = c.opens_comment.ensures ∙ ap opens_comment (slice_rest text i) in
    scan_goes_on text i c.loop-i.inside c.loop-i-test.true c.loop-i.invariant (sym c.end_at.ensures ∙ c.in_default.is)
    ∙ ap (λ s. later (i + 1) (end_of s (drop (i + 1) text))) (ap (after_byte c.loop-i.inside _) (sym opens) ∙ sym c.after-inside.ensures)
