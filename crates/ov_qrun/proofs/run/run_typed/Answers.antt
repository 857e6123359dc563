use Rattle.std.proofs.Common.{◌≡◌, ◌∙◌, ap, ap₂}
use Rattle.std.specs.Prelude.{filter}
use Rattle.ov_model.specs.Answers.{answer}
use Rattle.ov_terms.specs.Finding.{is_taken}
use Rattle.ov_terms.specs.Standing.{pairs_among, pairs_at, pairs_shown}
use Rattle.ov_qrun.proofs.run.run_typed.Goals as goal

pub returns-clause-rows : goal.returns-clause-rows
returns-clause-rows c = λ related.
    let scan = c.args.scan.now in
    let guard = c.in_ok-plan.plan.filter in
    let kept : pairs_at c.of-table.result c.in_ok-kept.kept.items ≡ filter (is_taken guard) (pairs_shown scan) =
    (rw (c.as_slice.ensures, c.as_slice-2.ensures) at c.in_ok-kept.ensures)
    ∙ ap (λ rows. filter (is_taken guard) (pairs_among rows scan.vids scan.picks)) c.of-table.ensures in
    c.in_ok-rows.ensures related (pairs_shown scan) kept
    ∙ ap₂ (λ query schema. answer query schema related (pairs_shown scan)) (c.in_ok-plan.ensures.query ∙ c.query.ensures)
    (c.in_ok-plan.ensures.shape ∙ c.of-shape.ensures ∙ c.schema.ensures)
