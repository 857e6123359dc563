-- A dataset's first version: its records have the rids 1, 2, 3 and so on, and its event applies.
use Rattle.std.proofs.Common.{◌≡◌, ◌≤◌, ◌<◌, ◌^◌, ℕ, true, false, List, [], ◌∷◌, length, map, refl, sym, ◌∙◌, ap, subst, arith}
use Rattle.std.specs.Prelude.{Some, None, codes}
use Rattle.std.specs.List.{list_any}
use Rattle.std.proofs.lemmas.List.{length-map, append-nil}
use Rattle.ov_value.specs.Rows.{key_cmp}
use Rattle.ov_value.specs.Naming.{is_name}
use Rattle.ov_value.specs.Shapes.{Shape, IsSound}
use Rattle.ov_host.specs.declared.area.Extent.{Extent}
use Rattle.ov_event.specs.Spelling.{IsEvent}
use Rattle.ov_model.specs.Book.{Row}
use Rattle.ov_model.specs.Lists.{Rises}
use Rattle.ov_model.specs.Moves.{piece_of, version_of}
use Rattle.ov_model.specs.Records.{Rec, record_of, records_of, order_of, rid_in, fresh_in, counted, lacking}
use Rattle.ov_model.proofs.Rids.{no_gap}
use Rattle.ov_segment.specs.declared.numbered.Record.{Record}
use Rattle.ov_catalog.specs.Applying.{first_off, is_named, is_segment}
use Rattle.ov_catalog.specs.Numbers.{Numbers}
use Rattle.ov_catalog.specs.Reached.{AreRows}
use Rattle.ov_catalog.specs.Shown.{Records, sorted_by, kept_as, list_of, segment_of}
use Rattle.ov_core.specs.Brought.{segments_in, extent_at}
use Rattle.law_image.specs.Lists.{list_in}
use Rattle.law_image.specs.Segments.{as_kept}
use Rattle.ov_version_bytes.specs.Written.{numbered, not_held, list_written, segment_written, first_event}
use Rattle.ov_version_bytes.proofs.Counting.{counted_given}
use Rattle.ov_version_bytes.proofs.Keeping.{numbered_long}
use Rattle.ov_version_bytes.proofs.Sizes.{init_applies}
use Rattle.ov_version_bytes.proofs.Fitting.{AreRuns, extent_fits, list_sound, segment_sound}
use Rattle.ov_core.proofs.Texts.{name_text, schema_spelled}
use Rattle.ov_version_bytes.proofs.Reading.{HoldSame, in_segments, list_reads, segment_reads, piece_segments, kept_lacking}

-- all records are of version 1
fresh_all : (rows : List Row) → fresh_in (map (record_of [] []) rows) 1 ≡ map (record_of [] []) rows
fresh_all [] = refl
fresh_all (row ∷ rows) = ap (λ rs. record_of [] [] row ∷ rs) (fresh_all rows)

all_first : (rows : List Row) → order_of (version_of [] (codes "init") rows ∷ []) ≡ map (record_of [] []) rows
all_first rows = append-nil (fresh_in (map (record_of [] []) rows) 1) ∙ fresh_all rows

rows_back : (rows : List Row) → map (λ r. r.row) (map (record_of [] []) rows) ≡ rows
rows_back [] = refl
rows_back (row ∷ rows) = ap (λ rest. row ∷ rest) (rows_back rows)

rids_first : (schema : Shape) (rows : List Row) → Rises (key_cmp schema) rows
    → map (rid_in (order_of (version_of [] (codes "init") rows ∷ []))) (map (record_of [] []) rows) ≡ counted 1 (length rows)
rids_first schema rows rises =
    let all : List Rec = order_of (version_of [] (codes "init") rows ∷ [])
    in ap (map (rid_in all)) (sym (all_first rows))
    ∙ no_gap schema (version_of [] (codes "init") rows ∷ []) (rises, tt)
    ∙ ap (λ (rs : List Rec). counted 1 (length rs)) (all_first rows)
    ∙ ap (counted 1) (length-map rows (record_of [] []))

none_held : (all rs : List Rec) → HoldSame all [] [] rs
none_held all [] = tt
none_held all (r ∷ rs) = (refl, none_held all rs)

lacking_all : (rs : List Rec) → lacking rs [] ≡ rs
lacking_all [] = refl
lacking_all (r ∷ rs) = ap (λ qs. r ∷ qs) (lacking_all rs)

pub first_list : (schema : Shape) (rows : List Row) → AreRows schema rows
    → list_in (list_written (counted 1 (length rows)))
    ≡ Some (list_of (order_of (version_of [] (codes "init") rows ∷ [])) (records_of (version_of [] (codes "init") rows) []))
first_list schema rows are =
    list_reads (counted 1 (length rows)) rows (counted_given rows are.few)
    ∙ ap (λ rids. Some (sorted_by (λ rid. rid) rids)) (sym (rids_first schema rows are.rise))

pub first_segments : (schema : Shape) (rows : List Row) → AreRows schema rows
    → segments_in (segment_written [] (counted 1 (length rows)) rows)
    ≡ map Some (map (segment_of (order_of (version_of [] (codes "init") rows ∷ []))) (piece_of (records_of (version_of [] (codes "init") rows) [])))
first_segments schema rows are =
    let all : List Rec = order_of (version_of [] (codes "init") rows ∷ [])
    in let rs : List Rec = map (record_of [] []) rows
    in let kept : map as_kept (not_held [] (numbered (counted 1 (length rows)) rows)) ≡ map (kept_as all) rs =
    (λ i. map as_kept (not_held [] (numbered (sym (rids_first schema rows are.rise) i) (sym (rows_back rows) i))))
    ∙ kept_lacking all [] [] rs (none_held all rs)
    ∙ ap (map (kept_as all)) (lacking_all rs)
    in segment_reads schema [] (counted 1 (length rows)) rows are (counted_given rows are.few)
    ∙ ap (λ (ks : Records). map Some (in_segments (sorted_by (λ k. k.0) ks))) kept
    ∙ ap (map Some) (sym (piece_segments all rs))

-- ---- the event

pub first_spelled : (name : List ℕ) (schema : Shape) (rows : List Row) (list segment : List ℕ) → is_name name ≡ true → IsSound schema → length rows ≤ 1000000
    → length list < 2 ^ 32 → length segment < 2 ^ 32 → IsEvent (first_event name schema rows list segment)
unfolding IsEvent
first_spelled name schema rows list segment named sound few list_low segment_low =
    (name_text name named, schema_spelled schema sound, omega (arith, few), extent_fits list list_low, extent_fits segment segment_low)

not_held_all : (rs : List Record) → not_held [] rs ≡ rs
not_held_all [] = refl
not_held_all (r ∷ rs) = ap (λ qs. r ∷ qs) (not_held_all rs)

pub first_applies : (name : List ℕ) (schema : Shape) (rows : List Row) (list segment : List ℕ) → is_name name ≡ true → IsSound schema → AreRows schema rows
    → AreRuns [] (counted 1 (length rows)) rows list segment
    → (n : Numbers Extent Extent) → n.next < 4294967295 → list_any (is_named name) n.sets ≡ false → length n.sets < 1024
    → (format : ℕ) → first_off format (first_event name schema rows list segment) n ≡ None
first_applies name schema rows list segment named sound are runs n next new room format =
    let rids : List ℕ = counted 1 (length rows)
    in let given = counted_given rows are.few
    in let kept : length (not_held [] (numbered rids rows)) ≡ length rows = ap (λ (rs : List Record). length rs) (not_held_all (numbered rids rows)) ∙ numbered_long rids rows given.as_many
    in init_applies name schema (length rows) (extent_at 0 list) (extent_at 0 segment) named sound are.few
    (list_sound [] rids rows list segment are.few given runs)
    (subst (λ n. is_segment n (extent_at 0 segment) ≡ true) kept (segment_sound schema [] rids rows list segment are given runs))
    n next new room
