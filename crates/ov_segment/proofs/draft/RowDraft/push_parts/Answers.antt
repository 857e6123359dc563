use Rattle.std.proofs.Common.{refl, sym, ◌∙◌, ap, subst, arith, ◌++◌, List, ℕ}
use Rattle.ov_segment.specs.Drafts.{Draft, Holds}
use Rattle.ov_segment.proofs.DraftLemmas.{held_value}
use Rattle.ov_segment.proofs.draft.RowDraft.push_parts.Goals as goal

pub returns-then-self-gt-LONGEST_ROW : goal.returns-then-self-gt-LONGEST_ROW
returns-then-self-gt-LONGEST_ROW c = λ values value h parts.
    held_value _ values value _ _ _ _ _ (subst (λ (d : Draft). Holds d values) (sym c.self.view_is) h) parts refl
    (rw (c.saturating_add-self-inside.ensures, c.saturating_add.ensures) refl)
    (λ few. absurd (omega (arith, few, c.if-self-gt-LONGEST_ROW.true)))

pub returns : goal.returns
returns c = λ values value h parts.
    held_value _ values value _ _ _ _ _ (subst (λ (d : Draft). Holds d values) (sym c.self.view_is) h) parts refl
    (rw (c.saturating_add-self-inside.ensures, c.saturating_add.ensures) refl)
    (λ few. c.in_ok-extend_from_slice-2.ensures.items ∙ ap (λ (l : List ℕ). l ++ c.args.rest.now) c.in_ok-extend_from_slice.ensures.items)
