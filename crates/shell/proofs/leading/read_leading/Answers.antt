use Rattle.std.proofs.Common.{rules, ◌≡◌, ◌<◌, ◌≤◌, length, Option, None, Some, MatchOption, refl, sym, arith}
use Rattle.shell.specs.Leading.{IsLead}
use Rattle.shell.specs.declared.leading.Lead.{Lead}
use Rattle.shell.proofs.LeadingLaws.{absent, all_leading, no_more}
use Rattle.shell.proofs.leading.read_leading.Goals as goal

pub returns-in_default : goal.returns-in_default
returns-in_default c =
    let now = c.loop-block in
    let none = absent ((lead : Lead) → ¬ (IsLead c.block-item.result lead)) (IsLead c.block-item.result) c.in_ok-lead.field-0 (search (rules, c.in_default.is, c.in_default.not-Some)) c.in_ok-lead.ensures in
    no_more c.args.blocks.now now.block-index now.schema now.replies now.invariant c.block-item.result (omega arith) c.block-item.is none

pub returns : goal.returns
returns c =
    let now = c.loop-block in
    all_leading c.args.blocks.now now.block-index now.schema now.replies now.invariant (omega arith)
