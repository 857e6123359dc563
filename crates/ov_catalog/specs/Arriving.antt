-- A commit's event, or that of one with added columns, without its dataset.
--     arrival_off message parents new d      the first part of it that can't follow what the dataset has
--     wide_arrival_off message columns parents new d      the same with columns that are added
--     IsWidened columns schema d      the schema that these leave
use Rattle.std.specs.Prelude.{◌≡◌, ◌+◌, ◌≤◌, ◌^◌, ℕ, List, Option, Some, None}
use Rattle.ov_layout.specs.declared.part.Part.{Part}
use Rattle.ov_layout.specs.Parts.{records_at}
use Rattle.ov_place.specs.declared.place_facts.Place.{Place}
use Rattle.ov_place.specs.declared.place_facts.Place.TheVariants.{Own, Join}
use Rattle.ov_value.specs.declared.column.Column.{Column}
use Rattle.ov_value.specs.Shapes.{Shape}
use Rattle.ov_model.specs.Moves.{wide_schema}
use Rattle.ov_catalog.specs.declared.arrival.Arrival.{Arrival}
use Rattle.ov_catalog.specs.declared.field.Field.{Field}
use Rattle.ov_catalog.specs.Applying.{commit_off, wide_off}
use Rattle.ov_catalog.specs.Numbers.{SetNumbers}
use Rattle.ov_catalog.specs.Raw.{place_in}

abbrev pub arrival_off : {L S : Type 0} → List ℕ → List (ℕ × ℕ) → Arrival → SetNumbers L S → Option Field
arrival_off message parents new d =
    commit_off new.vid message parents new.rows new.fresh (place_in new.place) new.added new.list new.segment d

abbrev pub wide_arrival_off : {L S : Type 0} → List ℕ → List Column → List (ℕ × ℕ) → Arrival → SetNumbers L S → Option Field
wide_arrival_off message columns parents new d =
    wide_off new.vid message columns parents new.rows new.fresh (place_in new.place) new.added new.list new.segment d

-- it is the schema that the columns leave of this dataset's, where the dataset is there
abbrev pub IsWidened : {L S : Type 0} → List Column → Shape → Option (SetNumbers L S) → Type 0
IsWidened columns schema None = ⊥
IsWidened columns schema (Some d) = schema ≡ wide_schema d.schema columns

-- the partition that is joined, if one is
abbrev pub part_asked : Place → Option ℕ
part_asked Own = None
part_asked (Join id) = Some id

-- a partition that is joined has with the added records at most 2^31
abbrev pub FitsRecords : Place → ℕ → List Part → Type 0
FitsRecords Own added parts = Unit {0}
FitsRecords (Join id) added parts = records_at id parts + added ≤ 2 ^ 31

-- a partition of this number isn't the one that is joined
abbrev pub IsOther : Place → ℕ → Type 0
IsOther Own id = Unit {0}
IsOther (Join other) id = other ≡ id → ⊥
