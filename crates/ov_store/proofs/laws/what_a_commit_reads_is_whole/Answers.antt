use Rattle.ov_store.proofs.Undamaged.{joined_not_damaged, read_not_damaged}
use Rattle.ov_store.proofs.laws.what_a_commit_reads_is_whole.Goals as goal

pub returns-clause-parents : goal.returns-clause-parents
returns-clause-parents c = read_not_damaged

pub returns-clause-joined : goal.returns-clause-joined
returns-clause-joined c = joined_not_damaged
