use Rattle.std.proofs.Common.{◌<◌, ◌∙◌, List, length, map, get_or, ap, sym, subst}
use Rattle.std.specs.List.{All}
use Rattle.std.proofs.lemmas.List.{length-map}
use Rattle.ov_segment.specs.declared.place.Place.{Place}
use Rattle.ov_segment.specs.Tables.{Content, AreAt, records_at, record_at}
use Rattle.ov_segment.proofs.MovedLemmas.{are_chosen, records_chosen}
use Rattle.ov_segment.proofs.table.Table.at.Goals as goal

pub invariant_of-result : goal.invariant_of-result
invariant_of-result c =
    let same = ap (λ (t : Content). length t.records) (sym c.self.view_is) ∙ length-map c.self.inside.places.items (record_at c.self.inside.columns.items c.self.inside.bytes.items) in
    subst (λ (l : List Place). AreAt c.self.inside.columns.items c.self.inside.bytes.items l) (sym (rw c.deref.ensures.value at c.in_ok-places.ensures))
    (are_chosen _ _ _ _ c.self.invariant (subst (λ n. All (λ i. i < n) c.args.order.now) same c.requires))

pub returns-clause-records : goal.returns-clause-records
returns-clause-records c none =
    let same = ap (λ (t : Content). length t.records) (sym c.self.view_is) ∙ length-map c.self.inside.places.items (record_at c.self.inside.columns.items c.self.inside.bytes.items) in
    ap (records_at c.self.inside.columns.items c.self.inside.bytes.items) (rw c.deref.ensures.value at c.in_ok-places.ensures)
    ∙ records_chosen c.self.inside.columns.items c.self.inside.bytes.items c.self.inside.places.items none c.args.order.now (subst (λ n. All (λ i. i < n) c.args.order.now) same c.requires)
    ∙ ap (λ (t : Content). map (λ i. get_or t.records i none) c.args.order.now) c.self.view_is
