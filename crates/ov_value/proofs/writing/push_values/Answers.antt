use Rattle.ov_value.proofs.Fronts.{front_of}
use Rattle.ov_value.proofs.writing.push_values.Goals as goal

pub returns-in_err-push_value-clause-front : goal.returns-in_err-push_value-clause-front
returns-in_err-push_value-clause-front c = let front = rw c.loop-value.invariant at c.in_err-push_value.ensures.front in front_of _ _ _ front
