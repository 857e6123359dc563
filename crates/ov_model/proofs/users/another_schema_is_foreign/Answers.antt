use Rattle.ov_model.proofs.Ruling.{foreign-is}
use Rattle.ov_model.proofs.users.another_schema_is_foreign.Goals as goal

pub returns-clause-live : goal.returns-clause-live
returns-clause-live c = foreign-is
