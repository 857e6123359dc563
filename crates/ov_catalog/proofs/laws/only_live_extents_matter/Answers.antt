use Rattle.ov_catalog.proofs.Standing.{same_readings}
use Rattle.ov_catalog.proofs.laws.only_live_extents_matter.Goals as goal

pub returns : goal.returns
returns c = same_readings
