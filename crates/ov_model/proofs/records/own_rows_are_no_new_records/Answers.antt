use Rattle.ov_model.proofs.Own.{own_rows}
use Rattle.ov_model.proofs.records.own_rows_are_no_new_records.Goals as goal

pub returns : goal.returns
returns c = own_rows
