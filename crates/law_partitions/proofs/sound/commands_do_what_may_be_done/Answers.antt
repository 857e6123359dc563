use Rattle.law_partitions.proofs.CourseWhole.{deed_may}
use Rattle.law_partitions.proofs.sound.commands_do_what_may_be_done.Goals as goal

pub returns : goal.returns
returns c = deed_may
