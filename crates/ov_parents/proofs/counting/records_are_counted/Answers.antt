use Rattle.ov_parents.proofs.Adding.{all_counted}
use Rattle.ov_parents.proofs.counting.records_are_counted.Goals as goal

pub returns : goal.returns
returns c = all_counted
