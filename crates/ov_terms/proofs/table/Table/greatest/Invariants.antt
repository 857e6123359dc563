use Rattle.std.proofs.Common.{◌≡◌, drop}
use Rattle.ov_model.specs.Answers.{first_by, greatest_from}
use Rattle.ov_terms.specs.Seeing.{cell_of}
use Rattle.ov_terms.proofs.Values.{IsBest, onward, values}
use Rattle.ov_terms.proofs.table.Table.greatest.Given as goal

-- the greatest of the values before, and of those that are left
abbrev pub invariant-loop-spot : goal.invariant-loop-spot
invariant-loop-spot l =
    IsBest (cell_of l.greatest)
    × (first_by greatest_from (values l.self l.found l.group)
    ≡ onward greatest_from (cell_of l.greatest) (values l.self l.found (drop l.spot-index l.group)))
