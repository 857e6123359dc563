use Rattle.ov_model.proofs.Owning.{staged-goes}
use Rattle.ov_model.proofs.users.a_staged_table_is_its_owners.Goals as goal

pub returns : goal.returns
returns c = staged-goes
