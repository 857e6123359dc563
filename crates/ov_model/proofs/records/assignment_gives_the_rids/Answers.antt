use Rattle.ov_model.proofs.Assigning.{assigned_is}
use Rattle.ov_model.proofs.Sharing.{weight_is, fresh_is}
use Rattle.ov_model.proofs.records.assignment_gives_the_rids.Goals as goal

pub returns-clause-rids : goal.returns-clause-rids
returns-clause-rids c = assigned_is

pub returns-clause-weights : goal.returns-clause-weights
returns-clause-weights c = weight_is

pub returns-clause-fresh : goal.returns-clause-fresh
returns-clause-fresh c = fresh_is
