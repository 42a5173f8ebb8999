use Rattle.script.proofs.TotalLaws.{each_text}
use Rattle.script.proofs.laws.script_or_fault.Goals as goal

pub returns : goal.returns
returns c = each_text c.each_text_has_tokens.ensures c.one_token_list.ensures c.one_end.ensures.not_both
