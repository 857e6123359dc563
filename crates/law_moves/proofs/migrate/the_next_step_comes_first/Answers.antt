use Rattle.law_runs.proofs.Stepping.{one_next}
use Rattle.law_moves.proofs.Migrating.{over_next}
use Rattle.law_moves.proofs.migrate.the_next_step_comes_first.Goals as goal

pub returns-clause-over : goal.returns-clause-over
returns-clause-over c = over_next

pub returns-clause-next : goal.returns-clause-next
returns-clause-next c = one_next
