use Rattle.std.proofs.Common.{sym, subst}
use Rattle.ov_segment.specs.Drafts.{Draft, Holds}
use Rattle.ov_segment.proofs.DraftLemmas.{null_where}
use Rattle.ov_segment.proofs.draft.RowDraft.has_null.Goals as goal

pub returns : goal.returns
returns c = λ values h. null_where values _ (subst (λ (d : Draft). Holds d values) (sym c.self.view_is) h).nulls_are
