use Rattle.std.specs.Cmp.Lexicographic.{pointwise_decides}
use Rattle.ov_value.specs.Order.{value_tie_decides}
use Rattle.ov_value.proofs.row.RowPartialEq.eq.Goals as goal

-- rows whose values tie one by one are the same
pub returns-clause-same : goal.returns-clause-same
returns-clause-same c = rw (← c.self.view_is, ← c.other.view_is, c.eq.ensures, c.as_slice.ensures.value, c.as_slice-2.ensures.value) (pointwise_decides value_tie_decides _ _)
