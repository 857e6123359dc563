use Rattle.law_reads.proofs.Listed.{is_list, agrees, only, not_bad}
use Rattle.law_reads.proofs.listing.lists_are_seen.Goals as goal

pub returns-clause-list : goal.returns-clause-list
returns-clause-list c = is_list

pub returns-clause-agrees : goal.returns-clause-agrees
returns-clause-agrees c = agrees

pub returns-clause-only : goal.returns-clause-only
returns-clause-only c = only

pub returns-clause-not_bad : goal.returns-clause-not_bad
returns-clause-not_bad c = not_bad
