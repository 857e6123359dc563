-- The last byte and those before it.
use Rattle.ov_csv.proofs.Spelled.{null_mark-then, null_mark-else}
use Rattle.ov_csv.proofs.fields.is_null_mark.Goals as goal

pub returns-then-last-eq78 : goal.returns-then-last-eq78
returns-then-last-eq78 c = null_mark-then _ _ _ _ c.in-Some.ensures.cases.0 c.if-last-eq78.true c.are_backslashes.ensures

pub returns-else-last-eq78 : goal.returns-else-last-eq78
returns-else-last-eq78 c = null_mark-else _ _ _ c.in-Some.ensures.cases.0 c.if-last-eq78.false
