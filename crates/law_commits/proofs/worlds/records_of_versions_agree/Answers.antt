use Rattle.law_commits.proofs.Listed.{world_agrees}
use Rattle.law_commits.proofs.Same.{versions_agree}
use Rattle.law_commits.proofs.worlds.records_of_versions_agree.Goals as goal

pub returns-clause-none_differ : goal.returns-clause-none_differ
returns-clause-none_differ c = versions_agree

pub returns-clause-numbers : goal.returns-clause-numbers
returns-clause-numbers c = λ d vids parents rise are. world_agrees d rise vids parents are
