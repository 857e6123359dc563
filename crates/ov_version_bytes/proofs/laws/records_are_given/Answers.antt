use Rattle.ov_version_bytes.proofs.Given.{records_given}
use Rattle.ov_version_bytes.proofs.laws.records_are_given.Goals as goal

pub returns : goal.returns
returns c = records_given
