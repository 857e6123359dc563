use Rattle.std.proofs.Common.{refl}
use Rattle.ov_value.proofs.MarkLemmas.{row_spelled}
use Rattle.ov_value.proofs.Standing.{row_is}
use Rattle.ov_value.proofs.test.spells_row.Goals as goal

pub returns-then-is_full-clause-only : goal.returns-then-is_full-clause-only
returns-then-is_full-clause-only c row is e = (refl, row_is c.args.schema.now.columns c.args.marked c.args.bytes.now row (row_spelled c.args.schema.now c.args.marked c.args.bytes.now row is e))
