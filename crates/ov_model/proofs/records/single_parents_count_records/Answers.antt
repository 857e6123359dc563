use Rattle.ov_model.proofs.Singles.{singles}
use Rattle.ov_model.proofs.records.single_parents_count_records.Goals as goal

pub returns : goal.returns
returns c = singles
