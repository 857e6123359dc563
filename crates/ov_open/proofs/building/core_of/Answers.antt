use Rattle.std.proofs.lemmas.Result.{err_from_is_err_and}
use Rattle.ov_open.proofs.Built.{low, not_built, built}
use Rattle.ov_open.proofs.building.core_of.Goals as goal

pub reserved-requires : goal.reserved-requires
reserved-requires c =
    rw c.deref.ensures.value
    (low c.args.journal c.args.payloads.now c.args.there c.in_ok-catalog.catalog.numbers c.in_ok-extents.extents.items c.in_ok-catalog.ensures c.in_ok-extents.ensures)

pub returns-in_err-pages : goal.returns-in_err-pages
returns-in_err-pages c =
    let p = err_from_is_err_and c.from_residual-in_err-pages.result c.from_residual-in_err-pages.ensures.1
    in rw (p.1, p.2)
    (not_built c.args.journal c.args.payloads.now c.args.there c.in_ok-catalog.catalog.numbers c.in_ok-extents.extents.items c.in_ok-catalog.ensures c.in_ok-extents.ensures c.in_err-pages.field-0.0 (rw c.deref.ensures.value at c.in_err-pages.ensures))

pub returns : goal.returns
returns c =
    let is = rw c.deref.ensures.value at c.in_ok-pages.ensures
    in built c.args.journal c.args.payloads.now c.args.there c.in_ok-catalog.catalog.numbers c.in_ok-extents.extents.items c.in_ok-catalog.ensures c.in_ok-extents.ensures c.in_ok-pages.pages c.of.result c.of.ensures is.0 is.1
