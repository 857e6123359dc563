use Rattle.std.proofs.Common.{◌≡◌, List, map, take}
use Rattle.ov_model.specs.Answers.{Pair, Related, here_for, truth}
use Rattle.ov_terms.specs.Finding.{found_truth}
use Rattle.ov_terms.proofs.found_cond.+find_cond.Given as goal

-- the conditions before say what they say by their names
abbrev pub invariant-find_conds-loop-cond : goal.invariant-find_conds-loop-cond
invariant-find_conds-loop-cond l = (related : Related) (group : List Pair)
    → map (found_truth group) l.found ≡ map (truth (here_for l.shape related group)) (take l.cond-index l.conds)
