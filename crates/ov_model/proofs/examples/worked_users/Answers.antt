use Rattle.ov_model.proofs.UserWorked.{all_users, all_queries, all_staged}
use Rattle.ov_model.proofs.examples.worked_users.Goals as goal

pub returns-clause-print : goal.returns-clause-print
returns-clause-print c = all_users

pub returns-clause-queries : goal.returns-clause-queries
returns-clause-queries c = all_queries

pub returns-clause-files : goal.returns-clause-files
returns-clause-files c = all_staged
