use Rattle.ov_tally.proofs.Ties.{rows_ranked}
use Rattle.ov_tally.proofs.laws.ranked_rows.Goals as goal

pub returns : goal.returns
returns c = rows_ranked
