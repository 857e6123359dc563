use Rattle.std.proofs.Common.{◌≡◌, subst}
use Rattle.std.specs.Prelude.{IfOk}
use Rattle.ov_terms.proofs.Found.{first-row}
use Rattle.ov_terms.proofs.table.Table.row.Goals as goal

pub returns-in-len1-up : goal.returns-in-len1-up
returns-in-len1-up c =
    subst (λ all. IfOk c.cells.result (λ cells. cells ≡ all)) (first-row c.args.self.now c.args.group.now _ c.in-len1-up.len_at_least) c.cells.ensures
