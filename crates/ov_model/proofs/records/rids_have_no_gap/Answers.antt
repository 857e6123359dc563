use Rattle.ov_model.proofs.Rids.{no_gap}
use Rattle.ov_model.proofs.records.rids_have_no_gap.Goals as goal

pub returns : goal.returns
returns c = no_gap
