use Rattle.ov_model.proofs.Growing.{kept_rid}
use Rattle.ov_model.proofs.Origins.{all_known}
use Rattle.ov_model.proofs.records.versions_keep_earlier_rids.Goals as goal

pub returns-clause-kept : goal.returns-clause-kept
returns-clause-kept c = kept_rid

pub returns-clause-known : goal.returns-clause-known
returns-clause-known c = all_known
