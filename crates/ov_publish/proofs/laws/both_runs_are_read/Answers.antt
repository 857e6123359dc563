use Rattle.ov_publish.proofs.Overwriting.{first_read}
use Rattle.ov_publish.proofs.laws.both_runs_are_read.Goals as goal

pub returns-clause-list : goal.returns-clause-list
returns-clause-list c list segment old off = first_read list.page segment.page list.bytes.now segment.bytes.now old off
