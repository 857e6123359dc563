use Rattle.ov_model.proofs.Courses.{course_ends}
use Rattle.ov_model.proofs.course.a_course_ends_at_its_moves.Goals as goal

pub returns : goal.returns
returns c = course_ends
