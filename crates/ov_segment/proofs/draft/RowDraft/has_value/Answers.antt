use Rattle.std.proofs.Common.{sym, subst}
use Rattle.ov_segment.specs.Drafts.{Draft, Holds}
use Rattle.ov_segment.proofs.DraftLemmas.{value_there, value_past}
use Rattle.ov_segment.proofs.draft.RowDraft.has_value.Goals as goal

pub returns-then-place-self : goal.returns-then-place-self
returns-then-place-self c = λ values h. value_there _ values c.args.place (subst (λ (d : Draft). Holds d values) (sym c.self.view_is) h) c.if-place-self.true

pub returns-else-place-self : goal.returns-else-place-self
returns-else-place-self c = λ values h. value_past _ values c.args.place (subst (λ (d : Draft). Holds d values) (sym c.self.view_is) h) c.if-place-self.false
