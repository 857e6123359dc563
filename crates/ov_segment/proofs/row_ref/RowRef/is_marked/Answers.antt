use Rattle.std.proofs.Common.{ap, ◌∙◌}
use Rattle.ov_value.specs.Spelling.{row_spelling}
use Rattle.ov_segment.proofs.RowLemmas.{spelled_so}
use Rattle.ov_segment.proofs.row_ref.RowRef.is_marked.Goals as goal

pub returns : goal.returns
returns c = (spelled_so _ _ _ c.self.invariant.spelled).0 ∙ ap (λ row. (row_spelling row).marked) c.self.view_is
