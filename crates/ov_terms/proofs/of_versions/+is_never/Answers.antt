-- One that is false is enough.
use Rattle.std.proofs.Common.{◌∙◌}
use Rattle.ov_terms.specs.Finding.{found_truth}
use Rattle.ov_terms.proofs.ThreeValues.{has-false}
use Rattle.ov_terms.proofs.of_versions.+is_never.Goals as goal

pub has_never-returns-then-is_never : goal.has_never-returns-then-is_never
has_never-returns-then-is_never n c = λ group true.
    has-false (found_truth group) c.args.conds.now c.loop-cond.cond-index c.cond-item.result c.loop-cond-test.true c.cond-item.is
    (c.is_never.ensures c.if-is_never.true group)

pub is_never-returns-in-Every : goal.is_never-returns-in-Every
is_never-returns-in-Every n c = λ true group.
    rw c.in-Every.is (c.found_by_cases.ensures.every group c.in-Every.conds ∙ (rw c.as_slice-in-Every.ensures at c.has_never.ensures group true))
