use Rattle.std.proofs.Common.{◌≡◌, ◌∙◌, ap, ap₂, map}
use Rattle.std.specs.Prelude.{filter}
use Rattle.ov_model.specs.Answers.{answer}
use Rattle.ov_terms.specs.Finding.{in_version, is_taken}
use Rattle.ov_terms.specs.Standing.{pairs_at}
use Rattle.ov_qrun.proofs.run.rows_over.Goals as goal

pub returns : goal.returns
returns c = λ related.
    let rows = c.args.rows.now in
    let guard = c.in_ok-plan.plan.filter in
    let kept : pairs_at c.of_two-table.result c.in_ok-kept.kept.items ≡ filter (is_taken guard) (map (in_version 0) rows) =
    c.in_ok-kept.ensures ∙ ap (λ all. filter (is_taken guard) (map (in_version 0) all)) c.of_two-table.ensures in
    c.in_ok-made.ensures related (map (in_version 0) rows) kept
    ∙ ap₂ (λ query shape. answer query shape related (map (in_version 0) rows)) c.in_ok-plan.ensures.query (c.in_ok-plan.ensures.shape ∙ c.without_key-shape.ensures)
