-- What is written fits its event: extents have a spelling, and are those of so many rows and records.
use Rattle.std.proofs.Common.{◌≡◌, ◌≤◌, ◌<◌, ◌*◌, ◌^◌, ℕ, true, List, [], ◌∷◌, length, refl, sym, ◌∙◌, subst, arith}
use Rattle.ov_event.specs.Fields.{IsExtent}
use Rattle.ov_value.specs.Shapes.{Shape}
use Rattle.ov_model.specs.Book.{Row}
use Rattle.ov_segment.specs.declared.numbered.Record.{Record}
use Rattle.ov_segment.specs.Segments.{segment_spelling}
use Rattle.ov_catalog.specs.Applying.{is_list, is_segment}
use Rattle.ov_catalog.specs.Reached.{AreRows}
use Rattle.ov_catalog.specs.Shown.{sorted_by}
use Rattle.ov_core.specs.Brought.{extent_at}
use Rattle.ov_core.specs.Rooms.{pages_for}
use Rattle.ov_version_bytes.specs.Written.{AreGiven, numbered, not_held, list_written, segment_written}
use Rattle.ov_version_bytes.proofs.Keeping.{segment_sized}
use Rattle.ov_version_bytes.proofs.Listing.{IsSized, list_sized}
use Rattle.ov_version_bytes.proofs.Sizes.{extent_is, sized_list, sized_segment}

-- the list and the segment are those of these rows, and the segment isn't too long
pub record AreRuns (held rids : List ℕ) (rows : List Row) (list segment : List ℕ) : Type 0 where
  pub list_is : list ≡ list_written rids
  pub segment_is : segment ≡ segment_written held rids rows
  pub short : pages_for segment < 2 ^ 20

pub extent_fits : (bytes : List ℕ) → length bytes < 2 ^ 32 → IsExtent (extent_at 0 bytes)
extent_fits bytes low = subst IsExtent (sym (extent_is bytes)) (omega arith, low)

list_size : (held rids : List ℕ) (rows : List Row) (list segment : List ℕ) → AreGiven rids rows → AreRuns held rids rows list segment → IsSized list (length rows)
list_size held rids rows list segment given runs =
    subst (λ n. IsSized list n) given.as_many (subst (λ (bs : List ℕ). IsSized bs (length rids)) (sym runs.list_is) (list_sized rids))

pub list_low : (held rids : List ℕ) (rows : List Row) (list segment : List ℕ) → length rows ≤ 1000000 → AreGiven rids rows → AreRuns held rids rows list segment → length list < 2 ^ 32
list_low held rids rows list segment few given runs =
    let sized = list_size held rids rows list segment given runs
    in omega (arith, sized.size, sized.few, few)

pub segment_low : (held rids : List ℕ) (rows : List Row) (list segment : List ℕ) → AreRuns held rids rows list segment → length segment < 2 ^ 32
segment_low held rids rows list segment runs = omega (arith, runs.short)

pub list_sound : (held rids : List ℕ) (rows : List Row) (list segment : List ℕ) → length rows ≤ 1000000 → AreGiven rids rows → AreRuns held rids rows list segment
    → is_list (length rows) (extent_at 0 list) ≡ true
list_sound held rids rows list segment few given runs = sized_list (length rows) list (list_size held rids rows list segment given runs) few

none_spelled : (kept : List Record) → length kept ≡ 0 → segment_spelling (sorted_by (λ r. r.rid) kept) ≡ []
none_spelled [] none = refl
none_spelled (r ∷ kept) none = absurd (omega (arith, none))

pub segment_sound : (schema : Shape) (held rids : List ℕ) (rows : List Row) (list segment : List ℕ) → AreRows schema rows → AreGiven rids rows → AreRuns held rids rows list segment
    → is_segment (length (not_held held (numbered rids rows))) (extent_at 0 segment) ≡ true
segment_sound schema held rids rows list segment are given runs =
    let long = segment_sized schema held rids rows are given
    in let more : 8 * length (not_held held (numbered rids rows)) ≤ length segment =
    subst (λ (bs : List ℕ). 8 * length (not_held held (numbered rids rows)) ≤ length bs) (sym runs.segment_is) long.0
    in sized_segment (length (not_held held (numbered rids rows))) segment more (λ none. runs.segment_is ∙ none_spelled (not_held held (numbered rids rows)) none) runs.short
