use Rattle.law_commits.proofs.Agreed.{different}
use Rattle.law_commits.proofs.applying.a_commit_gives_different_rids.Goals as goal

pub returns : goal.returns
returns c = different
