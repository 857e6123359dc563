-- A dataset as an Init makes it is as a Whole may say it.
--     init_whole      where the Init applies
use Rattle.std.proofs.Common.{◌≡◌, ◌≤◌, ◌+◌, ◌^◌, ℕ, true, not, ◌&&◌, eqb, List, length, refl, arith}
use Rattle.std.specs.Prelude.{None, nat_le, nat_lt}
use Rattle.std.specs.List.{list_any}
use Rattle.std.proofs.lemmas.Bool.{and_from, and_parts, eq-eqb, le-leb, leb-true}
use Rattle.ov_event.specs.declared.event.RawSchema.{RawSchema}
use Rattle.ov_host.specs.declared.area.Extent.{Extent}
use Rattle.ov_layout.specs.Changes.{extents_of}
use Rattle.ov_value.specs.Naming.{is_name}
use Rattle.ov_value.specs.Shapes.{Shape}
use Rattle.ov_catalog.specs.declared.field.Field.TheVariants as off
use Rattle.ov_catalog.specs.Events.{new_set, own_part}
use Rattle.ov_catalog.specs.Numbers.{SetNumbers, Numbers}
use Rattle.ov_catalog.specs.Raw.{shape_in}
use Rattle.ov_catalog.specs.Testing.{is_named, is_schema, is_list, is_segment, init_off}
use Rattle.ov_catalog.specs.Wholes.{are_records, are_parts, is_part, are_segments, are_placed}
use Rattle.ov_catalog.proofs.CommitLemmas.{off-none, off-true}
use Rattle.law_snapshots.specs.Whole.{IsWhole}
use Rattle.law_snapshots.proofs.Joining.{own_is_part}
use Rattle.law_snapshots.proofs.Tests.{of_segment}

-- what an Init's tests say
record Begins (name : List ℕ) (schema : RawSchema) (rows : ℕ) (list segment : Extent) : Type 0 where
  named : is_name name ≡ true
  is_schema_of : is_schema schema ≡ true
  few : rows ≤ 1000000
  list_is : is_list rows list ≡ true
  segment_is : is_segment rows segment ≡ true

begins : (name : List ℕ) (schema : RawSchema) (rows : ℕ) (list segment : Extent) (n : Numbers Extent Extent) → init_off name schema rows list segment n ≡ None → Begins name schema rows list segment
begins name schema rows list segment n h =
    let number = off-none (nat_lt n.next 4294967295) off.Number _ h in
    let named = off-none (is_name name && (not (list_any (is_named name) n.sets) && nat_lt (length n.sets) 1024)) off.Name _ number.1 in
    let columns = off-none (is_schema schema) off.Schema _ named.1 in
    let few = off-none (nat_le rows 1000000) off.Rows _ columns.1 in
    let extents = and_parts (is_list rows list) (is_segment rows segment) (off-true (is_list rows list && is_segment rows segment) off.Place few.1) in
    record {
      named = (and_parts (is_name name) (not (list_any (is_named name) n.sets) && nat_lt (length n.sets) 1024) named.0).0;
      is_schema_of = columns.0;
      few = leb-true rows 1000000 few.0;
      list_is = extents.0;
      segment_is = extents.1;
    }

-- its one version and its one partition
module _ (number : ℕ) (name : List ℕ) (shape : Shape) (rows : ℕ) (list : Extent) (segments : List Extent) where
  abbrev first : SetNumbers Extent Extent
  first = new_set number name shape rows list segments

  first_records : rows ≤ 1000000 → are_records first ≡ true
  first_records few =
      let itself = le-leb rows rows (omega arith) in
      and_from ((nat_le rows 1000000 && (nat_le rows (0 + rows) && nat_le rows rows)) && true) (eqb (0 + rows) rows && nat_le rows (2 ^ 31))
      (and_from (nat_le rows 1000000 && (nat_le rows (0 + rows) && nat_le rows rows)) true
      (and_from (nat_le rows 1000000) (nat_le rows (0 + rows) && nat_le rows rows) (le-leb rows 1000000 few)
      (and_from (nat_le rows (0 + rows)) (nat_le rows rows) (le-leb rows (0 + rows) (omega arith)) itself)) refl)
      (and_from (eqb (0 + rows) rows) (nat_le rows (2 ^ 31)) (eq-eqb (0 + rows) rows (omega arith)) (le-leb rows (2 ^ 31) (omega (arith, few))))

  first_parts : are_parts first ≡ true
  first_parts =
      let own = own_part 1 1 rows segments in
      and_from (is_part 1 rows own && true) true (and_from (is_part 1 rows own) true (own_is_part 1 rows 1 1 rows segments (omega arith) (omega arith) (omega arith)) refl) refl

  first_placed : is_list rows list ≡ true → are_segments rows segments ≡ true → are_placed first ≡ true
  first_placed list_is segments_are =
      and_from (is_list rows list && true) ((are_segments rows segments && true) && true) (and_from (is_list rows list) true list_is refl)
      (and_from (are_segments rows segments && true) true (and_from (are_segments rows segments) true segments_are refl) refl)

pub init_whole : (name : List ℕ) (schema : RawSchema) (rows : ℕ) (list segment : Extent) (n : Numbers Extent Extent) → init_off name schema rows list segment n ≡ None
    → IsWhole (new_set n.next name (shape_in schema) rows list (extents_of segment))
init_whole name schema rows list segment n h =
    let is = begins name schema rows list segment n h in
    record {
      named = is.named;
      schema = is.is_schema_of;
      versions = refl;
      messages = refl;
      records = first_records n.next name (shape_in schema) rows list (extents_of segment) is.few;
      parts = first_parts n.next name (shape_in schema) rows list (extents_of segment);
      threshold = refl;
      said = refl;
      runs = tt;
      plan = refl;
      placed = first_placed n.next name (shape_in schema) rows list (extents_of segment) is.list_is (of_segment rows segment is.segment_is);
    }
