use Rattle.ov_model.proofs.Placing.{moved_placed}
use Rattle.ov_model.proofs.course.each_version_is_in_one_partition.Goals as goal

pub returns-clause-kept : goal.returns-clause-kept
returns-clause-kept c = moved_placed
