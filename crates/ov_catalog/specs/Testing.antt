-- What an Init, a Commit and a Wide ask of the numbers before them: the first part of the event that is off.
--     init_off, commit_off, wide_off      that part; None where all of it holds
use Rattle.std.specs.Prelude.{ℕ, ◌+◌, ◌-◌, ◌*◌, ◌%◌, ◌^◌, Bool, true, false, not, ◌&&◌, ◌||◌, ◌==◌, nat_le, nat_lt, if◌then◌else◌, List, [], ◌∷◌, length, map, slice_index_or, Option, Some, None, is_ok, find}
use Rattle.std.specs.List.{list_all, list_any, sum_by}
use Rattle.std.specs.Option.{option_or}
use Rattle.std.specs.Ordering.{nat_cmp, eq_by_cmp}
use Rattle.std.specs.Set.{distinct_count}
use Rattle.std.specs.Str.{bytes_eq}
use Rattle.ov_event.specs.declared.event.RawSchema.{RawSchema}
use Rattle.ov_graph.specs.Versions.{heaviest}
use Rattle.ov_host.specs.declared.area.Extent.{Extent}
use Rattle.ov_host.specs.Extent.{pages_of}
use Rattle.ov_place.specs.Placement.{placed}
use Rattle.ov_place.specs.declared.place_facts.Place.{Place}
use Rattle.ov_place.specs.declared.place_facts.Place.TheVariants.{Own, Join}
use Rattle.ov_place.specs.declared.place_facts.PlaceFacts.{PlaceFacts}
use Rattle.ov_value.specs.declared.column.Column.{Column}
use Rattle.ov_value.specs.declared.column.Kind.TheVariants as kind
use Rattle.ov_value.specs.Making.{schema_of, widened}
use Rattle.ov_value.specs.Naming.{is_name}
use Rattle.ov_catalog.specs.declared.field.Field.{Field}
use Rattle.ov_catalog.specs.declared.field.Field.TheVariants as off
use Rattle.ov_catalog.specs.Numbers.{VersionNumbers, PartNumbers, TargetNumbers, PlanNumbers, SetNumbers, Numbers}

abbrev pub off_unless : Bool → Field → Option Field
off_unless holds field = if holds then None else Some field

-- ---- what both Init and Commit ask

abbrev pub is_named : {L S : Type 0} → List ℕ → SetNumbers L S → Bool
is_named name d = bytes_eq d.name name

abbrev pub no_column : Column
no_column = record { name = []; kind = kind.Int }

abbrev pub name_at : List Column → ℕ → List ℕ
name_at columns place = (slice_index_or columns place no_column).name

abbrev pub are_places : List Column → List ℕ → Bool
are_places columns key = list_all (λ place. nat_lt place (length columns)) key

-- each key position is one of a column, and the columns with the names at these positions are a schema's
abbrev pub is_schema : RawSchema → Bool
is_schema s =
    are_places s.columns s.key && is_ok (schema_of s.columns (map (name_at s.columns) s.key))

-- no extent passes page 2^22, and an empty one has page 0
abbrev pub is_extent : Extent → Bool
is_extent e = nat_le (e.page + pages_of e) (2 ^ 22) && (not (e.bytes == 0) || e.page == 0)

-- both or none
abbrev pub is_same : Bool → Bool → Bool
is_same true b = b
is_same false b = not b

-- a list of so many rows: its ranges have 8 bytes each, there is at most one a row, and one at least where there is a row
abbrev pub is_list : ℕ → Extent → Bool
is_list rows list = list.bytes % 8 == 0 && (nat_le list.bytes (8 * rows) && (is_same (list.bytes == 0) (rows == 0) && is_extent list))

-- a segment of so many records, which is empty where there are none
abbrev pub is_segment : ℕ → Extent → Bool
is_segment records segment = is_same (segment.bytes == 0) (records == 0) && is_extent segment

-- ---- Init

-- a name that no live dataset has, of which there may be one more
abbrev pub name_off : {L S : Type 0} → List ℕ → Numbers L S → Option Field
name_off name n = off_unless (is_name name && (not (list_any (is_named name) n.sets) && nat_lt (length n.sets) 1024)) off.Name

abbrev pub init_off : {L S : Type 0} → List ℕ → RawSchema → ℕ → Extent → Extent → Numbers L S → Option Field
init_off name schema rows list segment n =
    option_or (off_unless (nat_lt n.next 4294967295) off.Number)
    (option_or (name_off name n)
    (option_or (off_unless (is_schema schema) off.Schema)
    (option_or (off_unless (nat_le rows 1000000) off.Rows)
    (off_unless (is_list rows list && is_segment rows segment) off.Place))))

-- ---- Commit

-- the rows of a version; none where it isn't there
abbrev pub rows_at : {L : Type 0} → List (VersionNumbers L) → ℕ → ℕ
rows_at versions vid = slice_index_or (map (λ v. v.rows) versions) (vid - 1) 0

-- no number stands twice: as many are distinct as there are
abbrev pub are_distinct : List ℕ → Bool
are_distinct ns = distinct_count (eq_by_cmp nat_cmp) ns == length ns

-- a version that is there; the weight of its edge is at most its rows and those of the new version
abbrev pub is_parent : {L : Type 0} → List (VersionNumbers L) → ℕ → ℕ × ℕ → Bool
is_parent versions rows edge =
    (nat_le 1 edge.0 && nat_le edge.0 (length versions)) && (nat_le edge.1 rows && nat_le edge.1 (rows_at versions edge.0))

-- at least one, none twice
abbrev pub are_parents : {L : Type 0} → List (VersionNumbers L) → ℕ → List (ℕ × ℕ) → Bool
are_parents versions rows parents =
    nat_le 1 (length parents) && (list_all (is_parent versions rows) parents && are_distinct (map (λ edge. edge.0) parents))

-- the partition that serves a version, and the one of a number
abbrev pub part_serving : {S : Type 0} → List (PartNumbers S) → ℕ → Option (PartNumbers S)
part_serving parts vid = find (λ part. list_any (λ v. v == vid) part.versions) parts

abbrev pub part_numbered : {S : Type 0} → List (PartNumbers S) → ℕ → Option (PartNumbers S)
part_numbered parts id = find (λ part. part.id == id) parts

abbrev pub id_in : {S : Type 0} → Option (PartNumbers S) → ℕ
id_in None = 0
id_in (Some part) = part.id

abbrev pub records_in : {S : Type 0} → Option (PartNumbers S) → ℕ
records_in None = 0
records_in (Some part) = part.records

-- the targets that weren't flipped yet
abbrev pub targets_from : ℕ → List TargetNumbers → List TargetNumbers
targets_from at [] = []
targets_from at (t ∷ ts) = if at == 0 then t ∷ ts else targets_from (at - 1) ts

abbrev pub is_unmoved : {S : Type 0} → Option (PlanNumbers S) → ℕ → Bool
is_unmoved None vid = false
is_unmoved (Some plan) vid = list_any (λ t. list_any (λ v. v == vid) t.versions) (targets_from plan.at plan.targets)

abbrev pub copied_in : {S : Type 0} → Option (PlanNumbers S) → ℕ
copied_in None = 0
copied_in (Some plan) = plan.copied

abbrev pub stored : {L S : Type 0} → SetNumbers L S → ℕ
stored d = sum_by (λ part. part.records) d.parts + copied_in d.plan

-- what decides on a version's place, by its edge from its tree parent
abbrev pub facts_of : {L S : Type 0} → SetNumbers L S → ℕ × ℕ → PlaceFacts
facts_of d edge = record {
  threshold = d.threshold;
  unmoved = is_unmoved d.plan edge.0;
  weight = edge.1;
  records = d.records;
  stored = stored d;
  parent = id_in (part_serving d.parts edge.0);
}

abbrev pub is_place : Place → Place → Bool
is_place Own Own = true
is_place (Join a) (Join b) = a == b
is_place _ _ = false

-- an own partition takes all rows; one that is joined takes at least the new records, and holds no more records then than the
-- dataset has
abbrev pub is_count : {L S : Type 0} → SetNumbers L S → ℕ → ℕ → ℕ → Place → Bool
is_count d rows fresh added Own = added == rows
is_count d rows fresh added (Join id) =
    (nat_le fresh added && nat_le added rows) && nat_le (records_in (part_numbered d.parts id) + added) (d.records + fresh)

abbrev pub vid_off : {L S : Type 0} → ℕ → SetNumbers L S → Option Field
vid_off vid d = off_unless (vid == length d.versions + 1 && nat_le vid 65535) off.Vid

abbrev pub message_off : List ℕ → Option Field
message_off message = off_unless (nat_le (length message) 1024) off.Message

-- what is asked behind the message
abbrev pub version_off : {L S : Type 0} → List (ℕ × ℕ) → ℕ → ℕ → Place → ℕ → Extent → Extent → SetNumbers L S → Option Field
version_off parents rows fresh place added list segment d =
    option_or (off_unless (are_parents d.versions rows parents) off.Parent)
    (option_or (off_unless (nat_le rows 1000000 && (nat_le fresh rows && (nat_le rows (d.records + fresh) && nat_le (d.records + fresh) (2 ^ 31)))) off.Rows)
    (option_or (off_unless (is_place place (placed (facts_of d (heaviest parents)))) off.Placing)
    (option_or (off_unless (is_count d rows fresh added place) off.Count)
    (off_unless (is_list rows list && is_segment added segment) off.Place))))

abbrev pub commit_off : {L S : Type 0} → ℕ → List ℕ → List (ℕ × ℕ) → ℕ → ℕ → Place → ℕ → Extent → Extent → SetNumbers L S → Option Field
commit_off vid message parents rows fresh place added list segment d =
    option_or (vid_off vid d)
    (option_or (message_off message)
    (version_off parents rows fresh place added list segment d))

-- ---- Wide

-- columns are added where the schema takes them
abbrev pub columns_off : {L S : Type 0} → List Column → SetNumbers L S → Option Field
columns_off columns d = off_unless (is_ok (widened d.schema columns)) off.Schema

abbrev pub wide_off : {L S : Type 0} → ℕ → List ℕ → List Column → List (ℕ × ℕ) → ℕ → ℕ → Place → ℕ → Extent → Extent → SetNumbers L S → Option Field
wide_off vid message columns parents rows fresh place added list segment d =
    option_or (vid_off vid d)
    (option_or (message_off message)
    (option_or (columns_off columns d)
    (version_off parents rows fresh place added list segment d)))
