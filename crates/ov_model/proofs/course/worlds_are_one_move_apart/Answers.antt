use Rattle.ov_model.proofs.Courses.{at_next, at_last}
use Rattle.ov_model.proofs.course.worlds_are_one_move_apart.Goals as goal

pub returns-clause-next : goal.returns-clause-next
returns-clause-next c = at_next

pub returns-clause-last : goal.returns-clause-last
returns-clause-last c = at_last
