use Rattle.reply_text.proofs.ApartLaws.{told_apart}
use Rattle.reply_text.proofs.laws.replies_are_told_apart.Goals as goal

pub returns : goal.returns
returns c = told_apart
