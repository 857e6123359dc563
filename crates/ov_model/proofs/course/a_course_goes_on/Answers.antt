use Rattle.ov_model.proofs.Courses.{goes_on, play_append}
use Rattle.ov_model.proofs.course.a_course_goes_on.Goals as goal

pub returns-clause-course : goal.returns-clause-course
returns-clause-course c = goes_on

pub returns-clause-play : goal.returns-clause-play
returns-clause-play c = play_append
