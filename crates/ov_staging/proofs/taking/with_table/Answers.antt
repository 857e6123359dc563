use Rattle.std.proofs.Common.{◌≡◌, ◌∙◌, List, [], None, false, sym, subst}
use Rattle.std.specs.Prelude.{is_some}
use Rattle.ov_model.specs.Act.{repeated_key}
use Rattle.ov_model.specs.Book.{Row}
use Rattle.ov_model.specs.Registry.{stage_schema, table_in}
use Rattle.ov_staging.proofs.Keys.{once_table}
use Rattle.ov_staging.proofs.taking.with_table.Goals as goal

pub returns-clause-once : goal.returns-clause-once
returns-clause-once c =
    let rows = c.args.rows.now
    in let new : is_some (table_in rows c.args.owner.now c.args.table.now) ≡ false
    = (λ i. is_some (table_in rows (sym c.as_str.ensures.text i) (sym c.as_str-2.ensures.text i))) ∙ sym c.in_ok-there.ensures ∙ c.if-there.false
    in subst (λ (l : List Row). repeated_key stage_schema [] 1 l ≡ None) (sym c.in_ok-with_row.ensures.ok)
    (once_table rows c.args.owner.now c.args.table.now c.args.row.now c.requires.rise c.requires.row new)
