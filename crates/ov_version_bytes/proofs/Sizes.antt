-- Extents that aren't placed are those of so many rows and records.
use Rattle.std.proofs.Common.{◌≡◌, ◌≤◌, ◌<◌, ◌+◌, ◌*◌, ◌/◌, ◌%◌, ◌^◌, ◌==◌, ◌&&◌, ◌||◌, ℕ, zero, suc, Bool, true, false, not, nat_lt, List, [], ◌∷◌, length, refl, ◌∙◌, ap, arith}
use Rattle.std.specs.Prelude.{nat_le, None}
use Rattle.std.specs.List.{list_any}
use Rattle.std.proofs.lemmas.Bool.{and_from, eq-eqb, le-leb, lt-ltb, not_from_false}
use Rattle.std.proofs.lemmas.Bool.Decides.{nat_tests}
use Rattle.ov_host.specs.declared.area.Extent.{Extent}
use Rattle.ov_value.specs.Naming.{is_name}
use Rattle.ov_value.specs.Shapes.{Shape, IsSound}
use Rattle.ov_catalog.specs.declared.field.Field.TheVariants as off
use Rattle.ov_catalog.specs.Applying.{is_same, is_extent, is_list, is_segment, is_named, is_schema, init_off}
use Rattle.ov_catalog.specs.Numbers.{Numbers}
use Rattle.ov_core.specs.Brought.{extent_at}
use Rattle.ov_core.specs.Rooms.{pages_for}
use Rattle.law_events.proofs.Beginning.{off_none, off_last}
use Rattle.law_events.proofs.Schemas.{sound_is_shape}
use Rattle.ov_version_bytes.specs.Written.{spelled_schema}
use Rattle.ov_version_bytes.proofs.Listing.{IsSized}

pub extent_is : (bytes : List ℕ) → extent_at 0 bytes ≡ record { page = 0; bytes = length bytes }
extent_is [] = refl
extent_is (byte ∷ bytes) = refl

abbrev of_bytes : ℕ → Extent
of_bytes count = record { page = 0; bytes = count }

same_zero : (a b : ℕ) → (a ≡ 0 → b ≡ 0) → (b ≡ 0 → a ≡ 0) → is_same (a == 0) (b == 0) ≡ true
same_zero a b forth back = at (a == 0) (b == 0) refl refl
  where
    at : (c d : Bool) → (a == 0) ≡ c → (b == 0) ≡ d → is_same c d ≡ true
    at true true e f = refl
    at true false e f = absurd (grind (arith, nat_tests))
    at false true e f = absurd (grind (arith, nat_tests))
    at false false e f = refl

first_page : (count : ℕ) → (count + 4095) / 4096 ≤ 2 ^ 22 → is_extent (of_bytes count) ≡ true
first_page count few =
    and_from (nat_le (0 + (count + 4095) / 4096) (2 ^ 22)) (not (count == 0) || 0 == 0) (le-leb (0 + (count + 4095) / 4096) (2 ^ 22) (omega (arith, few))) (or_one (not (count == 0)))
  where
    or_one : (b : Bool) → (b || true) ≡ true
    or_one true = refl
    or_one false = refl

list_is : (rows ranges : ℕ) → ranges ≤ rows → (0 < rows → 0 < ranges) → rows ≤ 1000000 → is_list rows (of_bytes (8 * ranges)) ≡ true
list_is rows ranges few some most =
    and_from ((8 * ranges) % 8 == 0) (nat_le (8 * ranges) (8 * rows) && (is_same (8 * ranges == 0) (rows == 0) && is_extent (of_bytes (8 * ranges))))
    (eq-eqb ((8 * ranges) % 8) 0 (omega arith))
    (and_from (nat_le (8 * ranges) (8 * rows)) (is_same (8 * ranges == 0) (rows == 0) && is_extent (of_bytes (8 * ranges))) (le-leb (8 * ranges) (8 * rows) (omega (arith, few)))
    (and_from (is_same (8 * ranges == 0) (rows == 0)) (is_extent (of_bytes (8 * ranges)))
    (same_zero (8 * ranges) rows (λ e. none rows refl e) (λ e. omega (arith, e, few)))
    (first_page (8 * ranges) (omega (arith, few, most)))))
  where
    none : (n : ℕ) → rows ≡ n → 8 * ranges ≡ 0 → n ≡ 0
    none zero is e = refl
    none (suc n) is e = absurd (omega (arith, e, some (omega (arith, is))))

pub sized_list : (rows : ℕ) (bytes : List ℕ) → IsSized bytes rows → rows ≤ 1000000 → is_list rows (extent_at 0 bytes) ≡ true
sized_list rows bytes sized most =
    ap (is_list rows) (extent_is bytes ∙ ap of_bytes sized.size) ∙ list_is rows sized.ranges sized.few sized.some most

pub sized_segment : (records : ℕ) (bytes : List ℕ) → 8 * records ≤ length bytes → (records ≡ 0 → bytes ≡ []) → pages_for bytes < 2 ^ 20 → is_segment records (extent_at 0 bytes) ≡ true
sized_segment records bytes long none short =
    ap (is_segment records) (extent_is bytes)
    ∙ and_from (is_same (length bytes == 0) (records == 0)) (is_extent (of_bytes (length bytes)))
    (same_zero (length bytes) records (λ e. omega (arith, e, long)) (λ e. ap (λ (bs : List ℕ). length bs) (none e)))
    (first_page (length bytes) (omega (arith, short)))

-- ---- an Init applies

pub init_applies : (name : List ℕ) (schema : Shape) (rows : ℕ) (list segment : Extent) → is_name name ≡ true → IsSound schema → rows ≤ 1000000
    → is_list rows list ≡ true → is_segment rows segment ≡ true
    → (n : Numbers Extent Extent) → n.next < 4294967295 → list_any (is_named name) n.sets ≡ false → length n.sets < 1024
    → init_off name (spelled_schema schema) rows list segment n ≡ None
init_applies name schema rows list segment named sound few at_list at_segment n next new room =
    off_none (nat_lt n.next 4294967295) off.Number _ (lt-ltb n.next 4294967295 next)
    (off_none (is_name name && (not (list_any (is_named name) n.sets) && nat_lt (length n.sets) 1024)) off.Name _
    (and_from (is_name name) (not (list_any (is_named name) n.sets) && nat_lt (length n.sets) 1024) named
    (and_from (not (list_any (is_named name) n.sets)) (nat_lt (length n.sets) 1024) (not_from_false (list_any (is_named name) n.sets) new) (lt-ltb (length n.sets) 1024 room)))
    (off_none (is_schema (spelled_schema schema)) off.Schema _ (sound_is_shape schema sound)
    (off_none (nat_le rows 1000000) off.Rows _ (le-leb rows 1000000 few)
    (off_last (is_list rows list && is_segment rows segment) off.Place (and_from (is_list rows list) (is_segment rows segment) at_list at_segment)))))
