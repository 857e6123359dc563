use Rattle.law_image.proofs.Standing.{same_pages}
use Rattle.law_image.proofs.laws.same_pages_have_the_same_extents.Goals as goal

pub returns : goal.returns
returns c = same_pages
