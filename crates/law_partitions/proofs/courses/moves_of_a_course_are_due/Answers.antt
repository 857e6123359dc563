use Rattle.law_partitions.proofs.CourseMoves.{course_due}
use Rattle.law_partitions.proofs.courses.moves_of_a_course_are_due.Goals as goal

pub returns : goal.returns
returns c = course_due
