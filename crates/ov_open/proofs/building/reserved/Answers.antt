use Rattle.std.proofs.lemmas.Result.{err_from_is_err_and}
use Rattle.ov_open.proofs.Built.{pages_refuse, page_missing}
use Rattle.ov_open.proofs.building.reserved.Goals as goal

pub returns-in_err-pages : goal.returns-in_err-pages
returns-in_err-pages c =
    let p = err_from_is_err_and c.from_residual.result c.from_residual.ensures.1
    in rw (p.1, p.2) (pages_refuse c.args.extents.now c.args.there c.in_err-pages.field-0.0 c.requires c.in_err-pages.ensures.cause)

pub returns-in-Some : goal.returns-in-Some
returns-in-Some c = page_missing c.args.extents.now c.args.there c.in-Some.at c.in_ok-pages.pages c.in_ok-pages.ensures.reserved c.in-Some.ensures
