use Rattle.law_partitions.proofs.CourseMoves.{partitions_at}
use Rattle.law_partitions.proofs.courses.worlds_of_a_course_keep_their_partitions.Goals as goal

pub returns-clause-kept : goal.returns-clause-kept
returns-clause-kept c = partitions_at
