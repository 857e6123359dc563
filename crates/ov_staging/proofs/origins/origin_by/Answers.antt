use Rattle.std.proofs.Common.{◌≡◌, ◌∙◌, Some, Option, sym, ap, subst}
use Rattle.std.specs.Prelude.{IfOk}
use Rattle.ov_model.specs.Book.{Row}
use Rattle.ov_model.specs.Registry.{find, table_in}
use Rattle.ov_staging.specs.Origins.{IsOriginOf}
use Rattle.ov_staging.proofs.Keys.{table_at}
use Rattle.ov_staging.proofs.origins.origin_by.Goals as goal

pub returns-in-Some-get-clause-of : goal.returns-in-Some-get-clause-of
returns-in-Some-get-clause-of c =
    let rows = c.args.rows.now
    in let owner = c.args.owner.now
    in let table = c.args.table.now
    in let found : find rows owner table ≡ Some c.in-Some.place
    = (λ i. find rows (sym c.as_str.ensures.text i) (sym c.as_str-2.ensures.text i)) ∙ sym c.in-Some.ensures.place
    in let there : table_in rows owner table ≡ Some c.in-Some-get.row.now = table_at rows owner table c.in-Some.place c.in-Some-get.row.now found ∙ ap Some (sym c.in-Some-get.ensures.lookup.1)
    in subst (λ (o : Option Row). IfOk c.origin_of_row.result (IsOriginOf c.args.store.now.held.numbers owner table o)) (sym there) c.origin_of_row.ensures.of
