use Rattle.std.proofs.Common.{◌++◌, List, ℕ, sym, ◌∙◌, ap, subst, arith}
use Rattle.ov_segment.specs.Drafts.{Draft, IsWhole}
use Rattle.ov_segment.proofs.DraftLemmas.{whole_plain, whole_marked, behind_front}
use Rattle.ov_segment.proofs.draft.RowDraft.append_to.Goals as goal

pub returns-then-self-eq0-clause-marked : goal.returns-then-self-eq0-clause-marked
returns-then-self-eq0-clause-marked c = λ values w. (whole_plain _ values (subst (λ (d : Draft). IsWhole d values) (sym c.self.view_is) w) c.if-self-eq0.true).0

pub returns-then-self-eq0-clause-bytes : goal.returns-then-self-eq0-clause-bytes
returns-then-self-eq0-clause-bytes c = λ values w.
    c.in_ok-extend_from_slice.ensures.items
    ∙ ap (λ (l : List ℕ). c.args.bytes.now.items ++ l) (c.deref.ensures.value ∙ (whole_plain _ values (subst (λ (d : Draft). IsWhole d values) (sym c.self.view_is) w) c.if-self-eq0.true).1)

pub push_marks-requires : goal.push_marks-requires
push_marks-requires c = omega (arith, c.self.invariant.few, c.self.invariant.within)

pub returns-clause-marked : goal.returns-clause-marked
returns-clause-marked c = λ values w.
    (whole_marked _ values (subst (λ (d : Draft). IsWhole d values) (sym c.self.view_is) w) c.if-self-eq0.false (omega (arith, c.self.invariant.few, c.self.invariant.within))).0

pub returns-clause-bytes : goal.returns-clause-bytes
returns-clause-bytes c = λ values w.
    rw (c.in_ok-extend_from_slice-2.ensures.items, c.in_ok-push_marks.ensures.bytes, c.deref-2.ensures.value)
    (behind_front _ _ _ _
    ∙ ap (λ (l : List ℕ). c.args.bytes.now.items ++ l)
    (whole_marked _ values (subst (λ (d : Draft). IsWhole d values) (sym c.self.view_is) w) c.if-self-eq0.false (omega (arith, c.self.invariant.few, c.self.invariant.within))).1)
