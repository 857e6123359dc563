use Rattle.law_image.proofs.Standing.{same_world}
use Rattle.law_image.proofs.laws.same_payloads_and_live_pages.Goals as goal

pub returns : goal.returns
returns c = same_world
