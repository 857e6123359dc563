-- A version that comes with added columns.
use Rattle.std.proofs.Common.{◌≡◌, ℕ, List, ap, sym, ◌∙◌}
use Rattle.std.specs.Prelude.{Option, Some, None}
use Rattle.std.specs.Option.{option_or}
use Rattle.ov_host.specs.declared.area.Extent.{Extent}
use Rattle.ov_place.specs.declared.place_facts.Place.{Place}
use Rattle.ov_model.specs.Moves.{wide_schema}
use Rattle.ov_value.specs.declared.column.Column.{Column}
use Rattle.ov_value.specs.Shapes.{Shape}
use Rattle.ov_catalog.specs.declared.arrival.Arrival.{Arrival}
use Rattle.ov_catalog.specs.declared.cvd.Cvd.{Cvd}
use Rattle.ov_catalog.specs.declared.field.Field.{Field}
use Rattle.ov_catalog.specs.Applying.{columns_off, message_off, of_live, version_off, vid_off}
use Rattle.ov_catalog.specs.Arriving.{IsWidened, arrival_off, wide_arrival_off}
use Rattle.ov_catalog.specs.Numbers.{SetNumbers}
use Rattle.ov_catalog.specs.Raw.{place_in}
use Rattle.ov_catalog.specs.Ready.{ForWide, IsForWide, IsSet, Ready}

-- what holds of a dataset speaks of no column
pub set_schema : (d : Cvd) (schema : Shape) → IsSet d → IsSet (record d { schema = schema })
set_schema d schema is = record {
  some = is.some;
  few = is.few;
  graph = is.graph;
  new = is.new;
  placed = is.placed;
  none_other = is.none_other;
  records = is.records;
  next = is.next;
  plan = is.plan;
  threshold = is.threshold;
}

without-third : (a b c rest : Option Field) → option_or a (option_or b (option_or c rest)) ≡ None → option_or a (option_or b rest) ≡ None
without-third None None None rest h = h
without-third None None (Some field) rest h = absurd cc
without-third None (Some field) c rest h = absurd cc
without-third (Some field) b c rest h = absurd cc

-- with the columns it applies where it does without them
pub wide-arrives : (message : List ℕ) (columns : List Column) (parents : List (ℕ × ℕ)) (new : Arrival) (o : Option (SetNumbers Extent Extent))
    → of_live (wide_arrival_off message columns parents new) o ≡ None → of_live (arrival_off message parents new) o ≡ None
wide-arrives message columns parents new None h = absurd cc
wide-arrives message columns parents new (Some d) h = without-third (vid_off new.vid d) (message_off message) (columns_off columns d) (version_off parents new.rows new.fresh (place_in new.place) new.added new.list new.segment d) h

pub or-rest : (first rest : Option Field) → option_or first rest ≡ None → rest ≡ None
or-rest None rest h = h
or-rest (Some field) rest h = absurd cc

-- ---- the schema that is kept

pub room-schema : (cvd : ℕ) (p : Place) (columns : List Column) (schema : Shape) (o : Option (SetNumbers Extent Extent)) → IsWidened columns schema o → IsForWide cvd p columns o (ForWide cvd p schema)
room-schema cvd p columns schema None h = h
room-schema cvd p columns schema (Some d) h = ap (λ (s : Shape). ForWide cvd p s) h

same-schema : (cvd other : ℕ) (p q : Place) (a b : Shape) → ForWide cvd p a ≡ ForWide other q b → a ≡ b
same-schema cvd other p q a b e = cc

pub schema-kept : (cvd other : ℕ) (p q : Place) (columns : List Column) (schema : Shape) (o : Option (SetNumbers Extent Extent)) (ready : Ready) → IsForWide cvd p columns o ready → ready ≡ ForWide other q schema → IsWidened columns schema o
schema-kept cvd other p q columns schema None ready h e = h
schema-kept cvd other p q columns schema (Some d) ready h e = same-schema other cvd q p schema (wide_schema d.schema columns) (sym e ∙ h)

pub some-schema : (cvd : ℕ) (p : Place) (columns : List Column) (o : Option (SetNumbers Extent Extent)) (ready : Ready) → IsForWide cvd p columns o ready → (schema : Shape) × (ready ≡ ForWide cvd p schema)
some-schema cvd p columns None ready h = absurd h
some-schema cvd p columns (Some d) ready h = (_, h)
