use Rattle.ov_catalog.specs.declared.arrival.Arrival.{Arrival}
use Rattle.ov_catalog.specs.Applying.{format_off, of_live, set_numbered}
use Rattle.ov_catalog.specs.Arriving.{wide_arrival_off}
use Rattle.ov_catalog.specs.Raw.{place_in}
use Rattle.ov_catalog.proofs.WideLemmas.{or-rest, some-schema, wide-arrives}
use Rattle.ov_catalog.proofs.catalog.Catalog.apply_reserved.Goals as goal

pub widen-requires-clause-ready : goal.widen-requires-clause-ready
widen-requires-clause-ready c =
    let n = c.args.self.now.numbers in
    let wide = c.in-Wide in
    some-schema wide.cvd (place_in wide.place) wide.columns (set_numbered wide.cvd n) c.args.self.now.ready (rw wide.is at c.requires.ready)

pub widen-requires-clause-applies : goal.widen-requires-clause-applies
widen-requires-clause-applies c =
    let n = c.args.self.now.numbers in
    let wide = c.in-Wide in
    let new : Arrival = record { vid = wide.vid; rows = wide.rows; fresh = wide.fresh; place = wide.place; added = wide.added; list = wide.list; segment = wide.segment } in
    let follows = rw wide.is at c.requires.applies.1 in
    wide-arrives wide.message wide.columns wide.parents new (set_numbered wide.cvd n)
    (or-rest (format_off c.requires.applies.0) (of_live (wide_arrival_off wide.message wide.columns wide.parents new) (set_numbered wide.cvd n)) follows)
