use Rattle.std.proofs.Common.{List, length, sym, ap, ◌∙◌}
use Rattle.ov_value.specs.declared.value.Value.{Value}
use Rattle.ov_value.specs.Spelling.{kept, marks}
use Rattle.ov_value.proofs.MarkLemmas.{spelled_marks}
use Rattle.ov_value.proofs.Standing.{marked_row_is, marked_are, meets}
use Rattle.ov_value.proofs.test.marks_of_marked.Goals.{else-kept-width-via-then-kept-width+else-nulls-ne0, else-kept-width-via-else-kept-width}
use Rattle.ov_value.proofs.test.marks_of_marked.Goals as goal

pub returns-in-None-clause-none : goal.returns-in-None-clause-none
returns-in-None-clause-none c row spelled =
    let own = spelled_marks _ _ row spelled in
    c.in-None.ensures.none _ _ _ own.0 own.1

pub returns-in-None-walk-clause-none : goal.returns-in-None-walk-clause-none
returns-in-None-walk-clause-none c row spelled = c.in-None-walk.ensures.none (meets _ _ _ _ _ row c.in-Some.ensures.found.1 spelled).can

pub returns-then-nulls-ne0-clause-found : goal.returns-then-nulls-ne0-clause-found
returns-then-nulls-ne0-clause-found c =
    marked_are _ _ _ _ _ c.in-Some.ensures.found.1 c.in-Some-walk.ensures.found (sym c.if-kept-width.true ∙ c.in-Some-walk.ensures.kept) c.if-nulls-ne0.true

pub returns-then-nulls-ne0-clause-kept : goal.returns-then-nulls-ne0-clause-kept
returns-then-nulls-ne0-clause-kept c =
    c.in-Some-walk.ensures.kept ∙ ap (λ (r : List Value). length (kept r)) (sym (marked_row_is c.args.columns.now _ _ _ _ c.in-Some.ensures.found.1))

pub returns-then-nulls-ne0-clause-marks : goal.returns-then-nulls-ne0-clause-marks
returns-then-nulls-ne0-clause-marks c =
    sym c.in-Some-walk.ensures.found.marked ∙ ap (λ (r : List Value). marks (kept r)) (sym (marked_row_is c.args.columns.now _ _ _ _ c.in-Some.ensures.found.1))

pub returns-else-kept-width-clause-none : goal.returns-else-kept-width-clause-none
returns-else-kept-width-clause-none c row spelled =
    let m = meets c.args.columns.now c.args.bytes.now _ _ _ row c.in-Some.ensures.found.1 spelled in
    elim c.else-kept-width.branch [
      | else-kept-width-via-then-kept-width+else-nulls-ne0 w ↦ m.some w.if-nulls-ne0.false
      | else-kept-width-via-else-kept-width w ↦ w.if-kept-width.false (c.in-Some-walk.ensures.kept ∙ m.width_is)
    ]
