use Rattle.ov_model.proofs.Replying.{says_some, begun_moved}
use Rattle.ov_model.proofs.course.no_reply_of_a_run_is_empty.Goals as goal

pub returns-clause-says : goal.returns-clause-says
returns-clause-says c = says_some

pub returns-clause-kept : goal.returns-clause-kept
returns-clause-kept c = begun_moved
