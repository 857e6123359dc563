use Rattle.std.proofs.Common.{◌≡◌, drop}
use Rattle.ov_model.specs.Answers.{first_by, least_from}
use Rattle.ov_terms.specs.Seeing.{cell_of}
use Rattle.ov_terms.proofs.Values.{IsBest, onward, values}
use Rattle.ov_terms.proofs.table.Table.least.Given as goal

-- the least of the values before, and of those that are left
abbrev pub invariant-loop-spot : goal.invariant-loop-spot
invariant-loop-spot l =
    IsBest (cell_of l.least)
    × (first_by least_from (values l.self l.found l.group)
    ≡ onward least_from (cell_of l.least) (values l.self l.found (drop l.spot-index l.group)))
