use Rattle.std.proofs.Common.{◌==◌, List, ap, sym, subst, ◌∙◌}
use Rattle.std.specs.List.{dedup}
use Rattle.ov_segment.specs.declared.numbered.Record.{Record}
use Rattle.ov_segment.specs.declared.place.Place.{Place}
use Rattle.ov_segment.specs.Tables.{Content, AreAt, records_at}
use Rattle.ov_segment.proofs.MovedLemmas.{records_dedup, are_dedup}
use Rattle.ov_segment.proofs.table.Table.drop_repeats.Goals as goal

pub invariant_of-self : goal.invariant_of-self
invariant_of-self c = subst (λ (l : List Place). AreAt c.self.inside.columns.items c.self.inside.bytes.items l) (sym c.drop_repeated.ensures) (are_dedup _ _ _ c.self.invariant)

pub returns-clause-records : goal.returns-clause-records
returns-clause-records c =
    ap (records_at c.self.inside.columns.items c.self.inside.bytes.items) c.drop_repeated.ensures
    ∙ sym (records_dedup c.self.inside.columns.items c.self.inside.bytes.items c.self.inside.places.items)
    ∙ ap (λ (t : Content). dedup (λ (x y : Record). x.rid == y.rid) t.records) c.self.view_is
