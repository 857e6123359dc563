use Rattle.std.proofs.Common.{◌≡◌, map, drop}
use Rattle.ov_model.specs.Answers.{truth_and, truth_every, truth_or, truth_any}
use Rattle.ov_terms.specs.Finding.{found_truth}
use Rattle.ov_terms.specs.Standing.{pairs_at}
use Rattle.ov_terms.proofs.table.Table.+truth.Given as goal

-- the truth so far, and that of the conditions that are left
abbrev pub invariant-every-loop-cond : goal.invariant-every-loop-cond
invariant-every-loop-cond l =
    truth_every (map (found_truth (pairs_at l.self l.group)) l.conds)
    ≡ truth_and l.truth (truth_every (map (found_truth (pairs_at l.self l.group)) (drop l.cond-index l.conds)))

abbrev pub invariant-any-loop-cond : goal.invariant-any-loop-cond
invariant-any-loop-cond l =
    truth_any (map (found_truth (pairs_at l.self l.group)) l.conds)
    ≡ truth_or l.truth (truth_any (map (found_truth (pairs_at l.self l.group)) (drop l.cond-index l.conds)))
