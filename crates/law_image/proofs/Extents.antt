-- What is read of an extent.
use Rattle.std.proofs.Common.{◌≡◌, ◌↔◌, ◌<◌, ◌≤◌, ◌+◌, ◌*◌, ◌==◌, inl, ℕ, zero, suc, Bool, true, false, if◌then◌else◌, List, [], ◌∷◌, length, take, drop, map, Option, Some, None, refl, sym, ◌∙◌, ap, arith}
use Rattle.std.proofs.lemmas.Bool.Decides.{Decides-eqb}
use Rattle.std.proofs.lemmas.List.{length-take, length-drop}
use Rattle.ov_host.specs.declared.area.Extent.{Extent}
use Rattle.ov_value.specs.Shapes.{Shape}
use Rattle.ov_member.specs.Lists.{Spells}
use Rattle.ov_segment.specs.declared.numbered.Record.{Record}
use Rattle.ov_segment.specs.Segments.{AreRecords, segment_spelling}
use Rattle.ov_catalog.specs.Extents.{covers}
use Rattle.law_image.specs.Lists.{list_in}
use Rattle.law_image.specs.Segments.{segment_in, as_kept}
use Rattle.law_image.specs.Pages.{pages_in, extent_bytes, IsWhole, read_whole, readings_of}
use Rattle.law_image.proofs.Readers.{list_all, list_read, rows_read}
use Rattle.law_image.proofs.Standing.{long}

module _ {X : Type 0} (read : List ℕ → Option X) (pages : List ℕ) (e : Extent) where
  whole_test : IsWhole pages e → (length (extent_bytes pages e) == e.bytes) ≡ true
  whole_test is = (Decides-eqb (length (extent_bytes pages e)) e.bytes).1 is

  read_all : IsWhole pages e → read_whole read pages e ≡ read (extent_bytes pages e)
  read_all is = ap (λ (b : Bool). if b then read (extent_bytes pages e) else None) (whole_test is)

  by_test : (P : Type 0) → (IsWhole pages e → P) → ((length (extent_bytes pages e) == e.bytes) ≡ false → P) → P
  by_test P whole short = by (length (extent_bytes pages e) == e.bytes) refl
    where
      by : (b : Bool) → (length (extent_bytes pages e) == e.bytes) ≡ b → P
      by true same = whole ((Decides-eqb (length (extent_bytes pages e)) e.bytes).0 same)
      by false differs = short differs

  read_none : (length (extent_bytes pages e) == e.bytes) ≡ false → read_whole read pages e ≡ None
  read_none differs = ap (λ (b : Bool). if b then read (extent_bytes pages e) else None) differs

  read_short : (IsWhole pages e → ⊥) → read_whole read pages e ≡ None
  read_short not = by_test (read_whole read pages e ≡ None) (λ is. absurd (not is)) read_none

  read_some : (x : X) → read_whole read pages e ≡ Some x → IsWhole pages e × (read (extent_bytes pages e) ≡ Some x)
  read_some x is = by_test (IsWhole pages e × (read (extent_bytes pages e) ≡ Some x))
      (λ whole. (whole, sym (read_all whole) ∙ is))
      (λ differs. let none : None ≡ Some x = sym (read_none differs) ∙ is in absurd cc)

pub list_is : (pages : List ℕ) (e : Extent) (rids : List ℕ) → ((readings_of pages).list e ≡ Some rids) ↔ (IsWhole pages e × Spells (extent_bytes pages e) rids)
list_is pages e rids = (
  (λ is. let both = read_some list_in pages e rids is in (both.0, list_read (extent_bytes pages e) rids both.1)),
  (λ both. read_all list_in pages e both.0 ∙ list_all (extent_bytes pages e) rids both.1),
)

pub rows_are : (schema : Shape) (pages : List ℕ) (e : Extent) (records : List Record) → IsWhole pages e → AreRecords schema 0 records
    → extent_bytes pages e ≡ segment_spelling records → (readings_of pages).segment e ≡ Some (map as_kept records)
rows_are schema pages e records whole are written = read_all segment_in pages e whole ∙ ap segment_in written ∙ rows_read schema records are

pub short_is : (pages : List ℕ) (e : Extent) → (IsWhole pages e → ⊥) → ((readings_of pages).list e ≡ None) × ((readings_of pages).segment e ≡ None)
short_is pages e not = (read_short list_in pages e not, read_short segment_in pages e not)

pub whole_is : (pages : List ℕ) (e : Extent) → ((page : ℕ) → 1 ≤ covers (e ∷ []) page → page < pages_in pages) → IsWhole pages e
whole_is pages e there = by e.bytes refl
  where
    by : (n : ℕ) → e.bytes ≡ n → length (take n (drop (4096 * e.page) pages)) ≡ n
    by zero none = refl
    by (suc n) more =
        let enough : 4096 * e.page + e.bytes ≤ length pages = long (e ∷ []) e pages (inl refl) there (omega (arith, more))
        in omega (arith, more, enough, length-take (suc n) (drop (4096 * e.page) pages), length-drop (4096 * e.page) pages)
