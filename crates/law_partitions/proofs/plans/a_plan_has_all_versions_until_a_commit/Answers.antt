use Rattle.law_partitions.proofs.PlanMoves.{begun_has_all, copied_has_all, flipped_has_all}
use Rattle.law_partitions.proofs.plans.a_plan_has_all_versions_until_a_commit.Goals as goal

pub returns-clause-begun : goal.returns-clause-begun
returns-clause-begun c = begun_has_all

pub returns-clause-copied : goal.returns-clause-copied
returns-clause-copied c = copied_has_all

pub returns-clause-flipped : goal.returns-clause-flipped
returns-clause-flipped c = flipped_has_all
