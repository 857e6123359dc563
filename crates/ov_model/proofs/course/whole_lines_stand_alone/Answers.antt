use Rattle.ov_model.proofs.Courses.{whole_lines}
use Rattle.ov_model.proofs.course.whole_lines_stand_alone.Goals as goal

pub returns : goal.returns
returns c = whole_lines
