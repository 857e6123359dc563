-- What is read of segments.
use Rattle.std.proofs.Common.{◌≡◌, ◌≤◌, ◌^◌, ℕ, Bool, true, false, nat_le, if◌then◌else◌, List, [], ◌∷◌, length, map, refl, sym, ◌∙◌, ap, subst, inl, inr}
use Rattle.std.specs.Prelude.{Option, Some, None}
use Rattle.std.proofs.lemmas.Bool.{cases_eq, eq-eqb}
use Rattle.ov_host.specs.declared.area.Extent.{Extent}
use Rattle.ov_value.specs.Shapes.{Shape}
use Rattle.ov_value.specs.Spelling.{IsRow}
use Rattle.ov_value.proofs.MarkLemmas.{rows_same}
use Rattle.ov_segment.specs.declared.numbered.Record.{Record}
use Rattle.ov_segment.specs.Segments.{AreRecords, segment_spelling}
use Rattle.ov_fetch.specs.Extents.{IsSegment}
use Rattle.ov_fetch.specs.Rows.{AreSegments}
use Rattle.law_image.specs.Pages.{readings_of, extent_bytes, IsWhole}
use Rattle.law_image.specs.Segments.{AreKept, as_kept, segment_in}
use Rattle.law_image.proofs.Extents.{short_is}
use Rattle.law_image.proofs.Readers.{rows_read, segment_read}
use Rattle.ov_model.specs.Lists.{IsIn, joined}
use Rattle.ov_model.specs.Records.{Rec, rid_in}
use Rattle.ov_catalog.specs.Shown.{Records, put_by, sorted_by, kept_as, segment_of}
use Rattle.ov_catalog.proofs.Members.{heads, tails, left_in, right_in, of_append, in_map, of_map, in_sorted, of_sorted}
use Rattle.law_reads.proofs.Founds.{some_is}
use Rattle.law_reads.specs.Sights.{record_in, records_in}

-- ---- sorted records, and what they are kept as

put_map : {X Y : Type 0} (f : X → Y) (key : Y → ℕ) (x : X) (xs : List X) → put_by key (f x) (map f xs) ≡ map f (put_by (λ z. key (f z)) x xs)
put_map f key x [] = refl
put_map {X} {Y} f key x (y ∷ ys) = by (nat_le (key (f x)) (key (f y))) (put_map f key x ys)
  where
    by : (b : Bool) → put_by key (f x) (map f ys) ≡ map f (put_by (λ z. key (f z)) x ys)
        → (if b then f x ∷ f y ∷ map f ys else f y ∷ put_by key (f x) (map f ys)) ≡ map f (if b then x ∷ y ∷ ys else y ∷ put_by (λ z. key (f z)) x ys)
    by true rest = refl
    by false rest = ap (λ l. f y ∷ l) rest

pub sorted_map : {X Y : Type 0} (f : X → Y) (key : Y → ℕ) (xs : List X) → sorted_by key (map f xs) ≡ map f (sorted_by (λ z. key (f z)) xs)
sorted_map f key [] = refl
sorted_map f key (x ∷ xs) = ap (put_by key (f x)) (sorted_map f key xs) ∙ put_map f key x (sorted_by (λ z. key (f z)) xs)

kept_map : (all piece : List Rec) → map (kept_as all) piece ≡ map as_kept (map (record_in all) piece)
kept_map all [] = refl
kept_map all (r ∷ piece) = ap (λ l. kept_as all r ∷ l) (kept_map all piece)

segment_kept : (all piece : List Rec) → segment_of all piece ≡ map as_kept (records_in all piece)
segment_kept all piece = ap (sorted_by (λ k. k.0)) (kept_map all piece) ∙ sorted_map as_kept (λ k. k.0) (map (record_in all) piece)

-- ---- one segment

none_some : {X : Type 0} (o : Option X) (x : X) → o ≡ None → o ≡ Some x → ⊥
none_some o x none some = cc

whole_of : (area : List ℕ) (e : Extent) (ks : Records) → (readings_of area).segment e ≡ Some ks → IsWhole area e
whole_of area e ks is =
    elim (cases_eq (length (extent_bytes area e)) e.bytes) [
      | inl whole ↦ whole
      | inr short ↦ absurd (none_some ((readings_of area).segment e) ks (short_is area e short).1 is)
    ]

bytes_of : (area : List ℕ) (e : Extent) (ks : Records) → (readings_of area).segment e ≡ Some ks → segment_in (extent_bytes area e) ≡ Some ks
bytes_of area e ks is =
    sym (ap (λ (b : Bool). if b then segment_in (extent_bytes area e) else None) (eq-eqb (length (extent_bytes area e)) e.bytes (whole_of area e ks is))) ∙ is

abbrev pub AllRows : Shape → List Record → Type 0
AllRows schema rs = (r : Record) → IsIn rs r → IsRow schema r.row

are_records : (schema : Shape) (last : ℕ) (rs : List Record) → AllRows schema rs → AreKept last (map as_kept rs) → AreRecords schema last rs
are_records schema last [] rows kept = tt
are_records schema last (r ∷ rs) rows kept =
    (record { above = kept.0; below = kept.1; row = rows r (inl refl); small = kept.2 }, are_records schema r.rid rs (λ x is. rows x (inr is)) kept.3)

is_segment : (schema : Shape) (area : List ℕ) (e : Extent) (rs : List Record) → AllRows schema rs → (readings_of area).segment e ≡ Some (map as_kept rs)
    → IsSegment schema area e rs
is_segment schema area e rs rows is =
    let read = segment_read (extent_bytes area e) (map as_kept rs) (bytes_of area e (map as_kept rs) is)
    in let are : AreRecords schema 0 rs = are_records schema 0 rs rows read.0
    in record {
      whole = whole_of area e (map as_kept rs) is;
      are = are;
      spelled = read.1 ∙ sym (segment_read (segment_spelling rs) (map as_kept rs) (rows_read schema rs are)).1;
    }

rows_of : (schema : Shape) (last : ℕ) (rs : List Record) → AreRecords schema last rs → AllRows schema rs
rows_of schema last [] are r is = absurd is
rows_of schema last (x ∷ rs) are r (inl same) = subst (λ y. IsRow schema y.row) (sym same) are.0.row
rows_of schema last (x ∷ rs) are r (inr later) = rows_of schema x.rid rs are.1 r later

kept_once : (schema : Shape) (rs qs : List Record) → AllRows schema rs → AllRows schema qs → map as_kept rs ≡ map as_kept qs → rs ≡ qs
kept_once schema [] [] here there same = refl
kept_once schema [] (q ∷ qs) here there same = cc
kept_once schema (r ∷ rs) [] here there same = cc
kept_once schema (r ∷ rs) (q ∷ qs) here there same =
    let first : as_kept r ≡ as_kept q = heads (as_kept r) (as_kept q) (map as_kept rs) (map as_kept qs) same
    in let row : r.row ≡ q.row = rows_same schema r.row q.row (here r (inl refl)) (there q (inl refl)) (ap (λ k. k.1) first)
    in let rest : rs ≡ qs = kept_once schema rs qs (λ x is. here x (inr is)) (λ x is. there x (inr is)) (tails (as_kept r) (as_kept q) (map as_kept rs) (map as_kept qs) same)
    in λ i. record { rid = ap (λ k. k.0) first i; row = row i } ∷ rest i

segment_once : (schema : Shape) (area : List ℕ) (e : Extent) (rs qs : List Record) → IsSegment schema area e rs → IsSegment schema area e qs → rs ≡ qs
segment_once schema area e rs qs here there =
    kept_once schema rs qs (rows_of schema 0 rs here.are) (rows_of schema 0 qs there.are)
    (some_is (map as_kept rs) (map as_kept qs)
    (sym (rows_read schema rs here.are) ∙ ap segment_in (sym here.spelled ∙ there.spelled) ∙ rows_read schema qs there.are))

-- ---- several

pub segments_are : (schema : Shape) (area : List ℕ) (all : List Rec) (es : List Extent) (pieces : List (List Rec)) → ((r : Rec) → IsIn (joined pieces) r → IsRow schema r.row)
    → map (readings_of area).segment es ≡ map Some (map (segment_of all) pieces) → AreSegments schema area es (map (records_in all) pieces)
segments_are schema area all [] [] rows same = tt
segments_are schema area all [] (piece ∷ pieces) rows same = cc
segments_are schema area all (e ∷ es) [] rows same = cc
segments_are schema area all (e ∷ es) (piece ∷ pieces) rows same = (
  is_segment schema area e (records_in all piece) here (heads _ _ _ _ same ∙ ap Some (segment_kept all piece)),
  segments_are schema area all es pieces (λ r is. rows r (right_in piece (joined pieces) r is)) (tails _ _ _ _ same),
)
  where
    here : AllRows schema (records_in all piece)
    here x is =
        let of = of_map (record_in all) piece x (of_sorted (λ r. r.rid) (map (record_in all) piece) x is)
        in subst (λ y. IsRow schema y.row) (sym of.1.1) (rows of.0 (left_in piece (joined pieces) of.0 of.1.0))

pub segments_once : (schema : Shape) (area : List ℕ) (es : List Extent) (a b : List (List Record)) → AreSegments schema area es a → AreSegments schema area es b → a ≡ b
segments_once schema area [] [] [] here there = refl
segments_once schema area [] [] (y ∷ b) here there = absurd there
segments_once schema area [] (x ∷ a) b here there = absurd here
segments_once schema area (e ∷ es) [] b here there = absurd here
segments_once schema area (e ∷ es) (x ∷ a) [] here there = absurd there
segments_once schema area (e ∷ es) (x ∷ a) (y ∷ b) here there =
    let first : x ≡ y = segment_once schema area e x y here.0 there.0
    in let rest : a ≡ b = segments_once schema area es a b here.1 there.1
    in λ i. first i ∷ rest i

rid_most : (schema : Shape) (last : ℕ) (rs : List Record) (r : Record) → AreRecords schema last rs → IsIn rs r → r.rid ≤ 2 ^ 31
rid_most schema last [] r are is = absurd is
rid_most schema last (x ∷ rs) r are (inl same) = subst (λ y. y.rid ≤ 2 ^ 31) (sym same) are.0.below
rid_most schema last (x ∷ rs) r are (inr later) = rid_most schema x.rid rs r are.1 later

pub rids_most : (schema : Shape) (area : List ℕ) (all : List Rec) (es : List Extent) (pieces : List (List Rec)) → AreSegments schema area es (map (records_in all) pieces)
    → (r : Rec) → IsIn (joined pieces) r → rid_in all r ≤ 2 ^ 31
rids_most schema area all es [] are r is = absurd is
rids_most schema area all [] (piece ∷ pieces) are r is = absurd are
rids_most schema area all (e ∷ es) (piece ∷ pieces) are r is =
    elim (of_append piece (joined pieces) r is) [
      | inl here ↦ rid_most schema 0 (records_in all piece) (record_in all r) are.0.are
          (in_sorted (λ x. x.rid) (map (record_in all) piece) (record_in all r) (in_map (record_in all) piece r here))
      | inr later ↦ rids_most schema area all es pieces are.1 r later
    ]
