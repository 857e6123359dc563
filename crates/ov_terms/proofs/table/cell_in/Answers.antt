use Rattle.std.proofs.Common.{◌∙◌, [], ap}
use Rattle.std.specs.Prelude.{slice_index_or}
use Rattle.ov_value.specs.declared.value.Value.TheVariants.{Null}
use Rattle.ov_terms.proofs.Found.{row-at}
use Rattle.ov_terms.proofs.table.cell_in.Goals as goal

pub returns-then-at-len : goal.returns-then-at-len
returns-then-at-len c =
    c.at.ensures
    ∙ ap (λ row. slice_index_or row c.args.place Null)
    (c.row.ensures (record { rid = 0; row = [] }) ∙ row-at c.args.records.now c.args.at (record { rid = 0; row = [] }) (rw c.len.ensures.count at c.if-at-len.true))
