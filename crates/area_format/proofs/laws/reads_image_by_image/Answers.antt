use Rattle.area_format.proofs.Readings.{all_fine, all_images, next_image, one_bad}
use Rattle.area_format.proofs.laws.reads_image_by_image.Goals as goal

pub returns-clause-whole : goal.returns-clause-whole
returns-clause-whole c = all_fine

pub returns-clause-damaged : goal.returns-clause-damaged
returns-clause-damaged c = λ bytes header k at is. one_bad bytes header is k at

pub returns-clause-next : goal.returns-clause-next
returns-clause-next c = next_image

pub returns-clause-all : goal.returns-clause-all
returns-clause-all c = all_images
