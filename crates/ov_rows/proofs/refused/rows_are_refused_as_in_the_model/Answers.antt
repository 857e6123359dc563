use Rattle.ov_rows.proofs.Agreeing.{refused_alike, refused_together, never_memory}
use Rattle.ov_rows.proofs.refused.rows_are_refused_as_in_the_model.Goals as goal

pub returns-clause-same : goal.returns-clause-same
returns-clause-same c = refused_alike

pub returns-clause-none : goal.returns-clause-none
returns-clause-none c = refused_together

pub returns-clause-memory : goal.returns-clause-memory
returns-clause-memory c = never_memory
