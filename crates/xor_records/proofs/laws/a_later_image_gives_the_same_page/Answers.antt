use Rattle.xor_records.proofs.ReplayLaws.{later_image_is_same}
use Rattle.xor_records.proofs.laws.a_later_image_gives_the_same_page.Goals as goal

pub returns : goal.returns
returns c = later_image_is_same
