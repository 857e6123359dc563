use Rattle.std.proofs.Common.{sym, subst}
use Rattle.ov_segment.specs.Drafts.{Draft, Holds}
use Rattle.ov_segment.proofs.DraftLemmas.{len_plain, len_marked}
use Rattle.ov_segment.proofs.draft.RowDraft.len.Goals as goal

pub returns-then-self-eq0 : goal.returns-then-self-eq0
returns-then-self-eq0 c = λ values h. len_plain _ values (subst (λ (d : Draft). Holds d values) (sym c.self.view_is) h) c.if-self-eq0.true

pub returns-else-self-eq0 : goal.returns-else-self-eq0
returns-else-self-eq0 c = λ values h. len_marked _ values _ (subst (λ (d : Draft). Holds d values) (sym c.self.view_is) h) c.if-self-eq0.false c.saturating_add.ensures
