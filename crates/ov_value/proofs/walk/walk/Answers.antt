use Rattle.std.proofs.Common.{◌≡◌, ◌≢◌, ◌<◌, length, sym, subst, ◌∙◌, arith}
use Rattle.std.proofs.lemmas.Bool.{eqb-true, eqb-false}
use Rattle.ov_value.specs.declared.column.Column.{Column}
use Rattle.ov_value.specs.Reading.{Begins}
use Rattle.ov_value.specs.Decoding.{front_value}
use Rattle.ov_value.proofs.Decoded.{marked_step, plain_step, pass_more, pass_all, pass_short}
use Rattle.ov_value.proofs.walk.walk.Goals.{then-marks-eq0+in_ok-rest, else-marks-eq0, then-loop-passed-test+else-not-is_empty, else-loop-passed-test, else-is_empty-via-then-is_empty+else-marks-eq0-2, else-is_empty-via-else-is_empty}
use Rattle.ov_value.proofs.walk.walk.Goals as goal

pub loop-passed-preserved : goal.loop-passed-preserved
loop-passed-preserved c =
    let some : length c.loop-passed.rest.now ≢ 0 = eqb-false _ _ (sym c.is_empty.ensures ∙ c.if-not-is_empty.true) in
    let more : 0 < length c.loop-passed.rest.now = omega arith in
    let column = c.index-columns-passed.result in
    elim c.if-marks-eq0.branch [
      | then-marks-eq0+in_ok-rest w ↦
          rw w.rest-is
          (pass_more _ _ _ _ _ _ column (front_value column.kind c.loop-passed.rest.now) w.in_ok-rest.rest.now c.loop-passed.invariant c.loop-passed-test.true c.index-columns-passed.is more
          (plain_step column.kind _ _ _ _ w.if-marks-eq0.true more
          (subst (λ (x : Column). Begins x.kind c.loop-passed.rest.now (front_value x.kind c.loop-passed.rest.now) w.in_ok-rest.rest.now) (sym c.index-columns-passed.is) w.in_ok-rest.ensures.found)))
      | else-marks-eq0 w ↦
          rw w.rest-is
          (pass_more _ _ _ _ _ _ column _ c.loop-passed.rest.now c.loop-passed.invariant c.loop-passed-test.true c.index-columns-passed.is more
          (marked_step column.kind c.loop-passed.marks c.loop-passed.rest.now (omega (arith, w.if-marks-eq0.false))))
    ]

pub returns-then-marks-eq0-2-clause-found : goal.returns-then-marks-eq0-2-clause-found
returns-then-marks-eq0-2-clause-found c = (pass_all _ _ _ _ _ _ c.loop-passed.invariant (eqb-true _ _ (sym c.is_empty-2.ensures ∙ c.if-is_empty.true)) c.if-marks-eq0-2.true).0

pub returns-then-marks-eq0-2-clause-kept : goal.returns-then-marks-eq0-2-clause-kept
returns-then-marks-eq0-2-clause-kept c = (pass_all _ _ _ _ _ _ c.loop-passed.invariant (eqb-true _ _ (sym c.is_empty-2.ensures ∙ c.if-is_empty.true)) c.if-marks-eq0-2.true).1

pub returns-else-is_empty-clause-none : goal.returns-else-is_empty-clause-none
returns-else-is_empty-clause-none c =
    pass_short _ _ _ _ _ _ c.loop-passed.invariant
    (λ more. elim c.loop-passed-test.branch [
      | then-loop-passed-test+else-not-is_empty w ↦
          let none : length c.loop-passed.rest.now ≡ 0 = eqb-true _ _ (sym w.is_empty.ensures ∙ w.if-not-is_empty.false) in
          absurd (omega (arith, more, none))
      | else-loop-passed-test w ↦ w.loop-passed-test.false
    ])
    (λ ended. elim c.else-is_empty.branch [
      | else-is_empty-via-then-is_empty+else-marks-eq0-2 w ↦ w.if-marks-eq0-2.false
      | else-is_empty-via-else-is_empty w ↦
          let some : length c.loop-passed.rest.now ≢ 0 = eqb-false _ _ (sym c.is_empty-2.ensures ∙ w.if-is_empty.false) in
          absurd (some ended)
    ])
