use Rattle.std.proofs.Common.{◌≡◌, List, [], None, sym, subst}
use Rattle.ov_model.specs.Act.{repeated_key}
use Rattle.ov_model.specs.Book.{Row}
use Rattle.ov_model.specs.Registry.{stage_schema}
use Rattle.ov_staging.proofs.Keys.{once_without}
use Rattle.ov_staging.proofs.deciding.without_table.Goals as goal

pub returns-clause-once : goal.returns-clause-once
returns-clause-once c =
    subst (λ (l : List Row). repeated_key stage_schema [] 1 l ≡ None) (sym c.in_ok-without_row.ensures.ok)
    (once_without c.args.rows.now c.args.owner.now c.args.table.now c.requires.rise)
