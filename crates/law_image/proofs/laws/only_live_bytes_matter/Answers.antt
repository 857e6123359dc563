use Rattle.law_image.proofs.Standing.{same_front, other_pages}
use Rattle.law_image.proofs.laws.only_live_bytes_matter.Goals as goal

pub returns-clause-journal : goal.returns-clause-journal
returns-clause-journal c = same_front

pub returns-clause-pages : goal.returns-clause-pages
returns-clause-pages c = other_pages
