use Rattle.std.proofs.Common.{List, ℕ, drop, ap, subst, ◌∙◌}
use Rattle.script.specs.Headers.{BeginsSection}
use Rattle.script.specs.Lines.{Setup, lines}
use Rattle.script.proofs.LineLaws.{slice_rest}
use Rattle.script.proofs.ScriptLaws.{inside_of}
use Rattle.script.proofs.splitting.setup_of.Goals as goal

pub section_at-requires-clause-inside : goal.section_at-requires-clause-inside
section_at-requires-clause-inside c =
    let at = c.args.at in
    let same = slice_rest _ at ∙ ap (λ (l : List ℕ). drop at l) c.as_bytes.ensures.value in
    inside_of c.args.text.now at Setup (subst (λ (l : List ℕ). BeginsSection (lines l) Setup) same (c.begins_setup.ensures.0 c.if-not-begins_setup.false))
