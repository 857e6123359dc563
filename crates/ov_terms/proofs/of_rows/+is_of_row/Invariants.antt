use Rattle.std.proofs.Common.{take}
use Rattle.std.specs.List.{All}
use Rattle.ov_terms.specs.Finding.{IsOfRow}
use Rattle.ov_terms.proofs.of_rows.+is_of_row.Given as goal

-- the conditions before say the same in every version
abbrev pub invariant-are_of_rows-loop-cond : goal.invariant-are_of_rows-loop-cond
invariant-are_of_rows-loop-cond l = All IsOfRow (take l.cond-index l.conds)
