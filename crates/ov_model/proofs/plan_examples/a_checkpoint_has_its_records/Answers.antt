use Rattle.ov_model.proofs.Worked.{checkpoint_records, checkpoint_epoch}
use Rattle.ov_model.proofs.plan_examples.a_checkpoint_has_its_records.Goals as goal

pub returns-clause-records : goal.returns-clause-records
returns-clause-records c = checkpoint_records

pub returns-clause-epoch : goal.returns-clause-epoch
returns-clause-epoch c = checkpoint_epoch
