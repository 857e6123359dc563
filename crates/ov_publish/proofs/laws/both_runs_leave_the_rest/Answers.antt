use Rattle.ov_publish.proofs.Overwriting.{both_same}
use Rattle.ov_publish.proofs.laws.both_runs_leave_the_rest.Goals as goal

pub returns-clause-same : goal.returns-clause-same
returns-clause-same c list segment old live there off = both_same list.page segment.page list.bytes.now segment.bytes.now old live there off
