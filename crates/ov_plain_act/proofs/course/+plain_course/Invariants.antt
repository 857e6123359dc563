use Rattle.std.proofs.Common.{length}
use Rattle.ov_plain_act.proofs.course.+plain_course.Given as goal

abbrev pub decreases-plain_course : goal.decreases-plain_course
decreases-plain_course l = length l.commands.now
