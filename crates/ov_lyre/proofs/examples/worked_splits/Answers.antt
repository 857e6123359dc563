use Rattle.ov_lyre.proofs.Worked.{all_split}
use Rattle.ov_lyre.proofs.examples.worked_splits.Goals as goal

pub returns : goal.returns
returns c = all_split
