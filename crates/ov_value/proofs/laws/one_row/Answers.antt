use Rattle.ov_value.proofs.MarkLemmas.{rows_same}
use Rattle.ov_value.proofs.laws.one_row.Goals as goal

pub returns : goal.returns
returns c = rows_same
