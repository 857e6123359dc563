use Rattle.std.proofs.Common.{◌≡◌, ◌∷◌, [], map, take}
use Rattle.ov_model.specs.Book.{Row}
use Rattle.ov_terms.specs.Finding.{found_truth, in_version}
use Rattle.ov_terms.proofs.table.Table.+at_version.Given as goal

-- what was made says what the conditions before say
abbrev pub invariant-all_at_version-loop-cond : goal.invariant-all_at_version-loop-cond
invariant-all_at_version-loop-cond l = (row : Row)
    → map (found_truth (in_version l.vid row ∷ [])) l.made ≡ map (found_truth (in_version l.vid row ∷ [])) (take l.cond-index l.conds)
