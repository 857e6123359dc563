use Rattle.ov_model.proofs.Courses.{due_next, due_most}
use Rattle.ov_model.proofs.course.due_never_falls.Goals as goal

pub returns-clause-next : goal.returns-clause-next
returns-clause-next c = due_next

pub returns-clause-all : goal.returns-clause-all
returns-clause-all c = due_most
