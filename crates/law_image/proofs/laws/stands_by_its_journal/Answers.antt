use Rattle.law_image.proofs.Standing.{stands_by}
use Rattle.law_image.proofs.laws.stands_by_its_journal.Goals as goal

pub returns : goal.returns
returns c = stands_by
