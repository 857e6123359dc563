use Rattle.std.proofs.Common.{refl, sym, subst, arith}
use Rattle.ov_segment.specs.Drafts.{Draft, Holds}
use Rattle.ov_segment.proofs.DraftLemmas.{held_bytes}
use Rattle.ov_segment.proofs.draft.RowDraft.push_bytes.Goals as goal

pub returns-then-self-gt-LONGEST_ROW : goal.returns-then-self-gt-LONGEST_ROW
returns-then-self-gt-LONGEST_ROW c = λ values value h some is.
    held_bytes _ values value _ _ _ _ (subst (λ (d : Draft). Holds d values) (sym c.self.view_is) h) some is refl c.saturating_add-self-inside.ensures (λ few. absurd (omega (arith, few, c.if-self-gt-LONGEST_ROW.true)))

pub returns : goal.returns
returns c = λ values value h some is.
    held_bytes _ values value _ _ _ _ (subst (λ (d : Draft). Holds d values) (sym c.self.view_is) h) some is refl c.saturating_add-self-inside.ensures (λ few. c.in_ok-extend_from_slice.ensures.items)
