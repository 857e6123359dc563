use Rattle.law_partitions.proofs.CourseWhole.{tight_exact}
use Rattle.law_partitions.proofs.plans.tight_partitions_are_exact.Goals as goal

pub returns : goal.returns
returns c = tight_exact
