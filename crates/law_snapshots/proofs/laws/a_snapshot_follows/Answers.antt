use Rattle.law_snapshots.proofs.Followed.{snapshot_follows}
use Rattle.law_snapshots.proofs.Saying.{is_snapshot, one_snapshot}
use Rattle.law_snapshots.proofs.laws.a_snapshot_follows.Goals as goal

pub returns-clause-there : goal.returns-clause-there
returns-clause-there c = is_snapshot

pub returns-clause-one : goal.returns-clause-one
returns-clause-one c = one_snapshot

pub returns-clause-follows : goal.returns-clause-follows
returns-clause-follows c = snapshot_follows
