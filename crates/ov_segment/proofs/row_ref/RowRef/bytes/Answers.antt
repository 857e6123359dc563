use Rattle.std.proofs.Common.{ap, ◌∙◌}
use Rattle.ov_value.specs.Spelling.{row_spelling}
use Rattle.ov_segment.proofs.RowLemmas.{spelled_so}
use Rattle.ov_segment.proofs.row_ref.RowRef.bytes.Goals as goal

pub returns : goal.returns
returns c = (spelled_so _ _ _ c.self.invariant.spelled).1 ∙ ap (λ row. (row_spelling row).bytes) c.self.view_is
