use Rattle.ov_model.proofs.Holds.{moved_held}
use Rattle.ov_model.proofs.course.partitions_have_their_versions_records.Goals as goal

pub returns-clause-kept : goal.returns-clause-kept
returns-clause-kept c = moved_held
