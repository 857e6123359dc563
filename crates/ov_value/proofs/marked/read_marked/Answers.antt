use Rattle.std.proofs.Common.{sym, ◌∙◌, arith}
use mathlib.Core.Bool.{true≢false}
use Rattle.ov_value.specs.Reading.{AreMarks}
use Rattle.ov_value.proofs.RowLemmas.{length-HasKinds}
use Rattle.ov_value.proofs.MarkLemmas.{spelled_marks, marked_row, marked_spelled}
use Rattle.ov_value.proofs.marked.read_marked.Goals as goal

pub are_marks-requires : goal.are_marks-requires
are_marks-requires c =
    let found = rw c.in-Some-2.is at c.in_ok-read_values-in-Some.ensures.found in
    rw c.deref.ensures.value (omega (arith, length-HasKinds _ _ found.kinds))

pub returns-in-None-clause-only : goal.returns-in-None-clause-only
returns-in-None-clause-only c row spelled =
    let own = spelled_marks _ _ row spelled in
    c.in-None.ensures.none _ _ _ own.0 own.1

pub returns-in-None-2-clause-only : goal.returns-in-None-2-clause-only
returns-in-None-2-clause-only c row spelled =
    let marked = marked_row _ _ _ _ _ row c.in-Some.ensures.found.1 spelled in
    let only = rw c.in-None-2.is at c.in_ok-read_values-in-Some.ensures.only in
    only row marked.lies

pub returns-then-are_marks-clause-found : goal.returns-then-are_marks-clause-found
returns-then-are_marks-clause-found c =
    let found = rw c.in-Some-2.is at c.in_ok-read_values-in-Some.ensures.found in
    let are : AreMarks c.in-Some-2.values.items c.in-Some.width c.in-Some.nulls = rw (← c.deref.ensures.value) (c.are_marks.ensures.0 c.if-are_marks.true) in
    marked_spelled _ _ _ _ _ _ c.in-Some.ensures.found.1 found are

pub returns-then-are_marks-clause-only : goal.returns-then-are_marks-clause-only
returns-then-are_marks-clause-only c row spelled =
    let marked = marked_row _ _ _ _ _ row c.in-Some.ensures.found.1 spelled in
    let only = rw c.in-Some-2.is at c.in_ok-read_values-in-Some.ensures.only in
    only row marked.lies

pub returns-else-are_marks-clause-only : goal.returns-else-are_marks-clause-only
returns-else-are_marks-clause-only c row spelled =
    let marked = marked_row _ _ _ _ _ row c.in-Some.ensures.found.1 spelled in
    let only = rw c.in-Some-2.is at c.in_ok-read_values-in-Some.ensures.only in
    let are : AreMarks c.deref.result.now c.in-Some.width c.in-Some.nulls = rw (c.deref.ensures.value, only row marked.lies) marked.are in
    true≢false (sym (c.are_marks.ensures.1 are) ∙ c.if-are_marks.false)
