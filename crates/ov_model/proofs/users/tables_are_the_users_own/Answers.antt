use Rattle.ov_model.proofs.Owning.{tables-same}
use Rattle.ov_model.proofs.users.tables_are_the_users_own.Goals as goal

pub returns : goal.returns
returns c = tables-same
