-- What is read of the bytes that are written.
use Rattle.std.proofs.Common.{◌≡◌, ◌<◌, ℕ, Bool, true, false, List, [], ◌∷◌, length, map, refl, sym, ◌∙◌, ap, arith}
use Rattle.std.specs.Prelude.{Some, not, nat_le, if◌then◌else◌}
use Rattle.std.proofs.lemmas.List.{length-map}
use Rattle.ov_value.specs.Shapes.{Shape}
use Rattle.ov_model.specs.Book.{Row}
use Rattle.ov_model.specs.Moves.{piece_of}
use Rattle.ov_model.specs.Records.{Rec, rid_in, is_among, lacking}
use Rattle.ov_member.specs.Lists.{ranges_of, spelling}
use Rattle.ov_member.specs.Rids.{has}
use Rattle.ov_member.proofs.RangeLemmas.{ranges_of-apart, rids_of-ranges_of}
use Rattle.ov_segment.specs.declared.numbered.Record.{Record}
use Rattle.ov_segment.specs.Segments.{AreRecords, segment_spelling}
use Rattle.ov_catalog.specs.Reached.{AreRows}
use Rattle.ov_catalog.specs.Shown.{Records, put_by, sorted_by, kept_as, segment_of}
use Rattle.ov_core.specs.Brought.{segments_in}
use Rattle.law_image.specs.Lists.{list_in}
use Rattle.law_image.specs.Segments.{segment_in, as_kept}
use Rattle.law_image.proofs.Readers.{list_all, rows_read}
use Rattle.ov_version_bytes.specs.Written.{AreGiven, numbered, not_held, list_written, segment_written}
use Rattle.ov_version_bytes.proofs.Keeping.{kept_records, segment_long}
use Rattle.ov_version_bytes.proofs.Listing.{sorted_long, sorted_set}

-- ---- lists

pub list_reads : (rids : List ℕ) (rows : List Row) → AreGiven rids rows → list_in (list_written rids) ≡ Some (sorted_by (λ rid. rid) rids)
list_reads rids rows given =
    let sorted : List ℕ = sorted_by (λ rid. rid) rids
    in list_all (spelling sorted) sorted (record {
      ranges = ranges_of sorted;
      apart = ranges_of-apart 0 sorted (sorted_set rids given.once given.some given.low);
      written = refl;
      listed = sym (rids_of-ranges_of sorted);
    })

-- ---- segments

-- the records in one segment; where there are none, there is no segment
abbrev pub in_segments : Records → List Records
in_segments [] = []
in_segments (kept ∷ records) = (kept ∷ records) ∷ []

some_segments : (kept : Records) → 0 < length kept → in_segments kept ≡ kept ∷ []
some_segments [] some = absurd (omega (arith, some))
some_segments (k ∷ kept) some = refl

some_bytes : (bytes : List ℕ) → 0 < length bytes → segments_in bytes ≡ segment_in bytes ∷ []
some_bytes [] some = absurd (omega (arith, some))
some_bytes (byte ∷ bytes) some = refl

put_map : {X Y : Type 0} (f : X → Y) (key : Y → ℕ) (x : X) (xs : List X) → map f (put_by (λ z. key (f z)) x xs) ≡ put_by key (f x) (map f xs)
put_map f key x [] = refl
put_map {X} {Y} f key x (y ∷ ys) = at (nat_le (key (f x)) (key (f y))) (put_map f key x ys)
  where
    at : (b : Bool) → map f (put_by (λ z. key (f z)) x ys) ≡ put_by key (f x) (map f ys)
        → map f (if b then x ∷ y ∷ ys else y ∷ put_by (λ z. key (f z)) x ys) ≡ (if b then f x ∷ f y ∷ map f ys else f y ∷ put_by key (f x) (map f ys))
    at true rest = refl
    at false rest = ap (λ zs. f y ∷ zs) rest

sorted_map : {X Y : Type 0} (f : X → Y) (key : Y → ℕ) (xs : List X) → map f (sorted_by (λ z. key (f z)) xs) ≡ sorted_by key (map f xs)
sorted_map f key [] = refl
sorted_map f key (x ∷ xs) = put_map f key x (sorted_by (λ z. key (f z)) xs) ∙ ap (put_by key (f x)) (sorted_map f key xs)

spelled_reads : (schema : Shape) (rs : List Record) → AreRecords schema 0 rs → segments_in (segment_spelling rs) ≡ map Some (in_segments (map as_kept rs))
spelled_reads schema [] are = refl
spelled_reads schema (r ∷ rs) are =
    some_bytes (segment_spelling (r ∷ rs)) (omega (arith, (segment_long schema 0 (r ∷ rs) are).0))
    ∙ ap (λ read. read ∷ []) (rows_read schema (r ∷ rs) are)

pub segment_reads : (schema : Shape) (held rids : List ℕ) (rows : List Row) → AreRows schema rows → AreGiven rids rows
    → segments_in (segment_written held rids rows) ≡ map Some (in_segments (sorted_by (λ kept. kept.0) (map as_kept (not_held held (numbered rids rows)))))
segment_reads schema held rids rows are given =
    spelled_reads schema (sorted_by (λ r. r.rid) (not_held held (numbered rids rows))) (kept_records schema held rids rows are given)
    ∙ ap (λ kept. map Some (in_segments kept)) (sorted_map as_kept (λ kept. kept.0) (not_held held (numbered rids rows)))

-- ---- and what a World asks for

pub piece_segments : (all rs : List Rec) → map (segment_of all) (piece_of rs) ≡ in_segments (segment_of all rs)
piece_segments all [] = refl
piece_segments all (r ∷ rs) =
    sym (some_segments (segment_of all (r ∷ rs))
    (omega (arith, sorted_long (λ kept. kept.0) (map (kept_as all) (r ∷ rs)), length-map (r ∷ rs) (kept_as all))))

-- rids are held exactly of the records that are among the others
abbrev pub HoldSame : List Rec → List ℕ → List Rec → List Rec → Type 0
HoldSame all held others [] = Unit {0}
HoldSame all held others (r ∷ rs) = (has held (rid_in all r) ≡ is_among others r) × HoldSame all held others rs

pub kept_lacking : (all : List Rec) (held : List ℕ) (others rs : List Rec) → HoldSame all held others rs
    → map as_kept (not_held held (numbered (map (rid_in all) rs) (map (λ r. r.row) rs))) ≡ map (kept_as all) (lacking rs others)
kept_lacking all held others [] same = refl
kept_lacking all held others (r ∷ rs) same = at (has held (rid_in all r)) (is_among others r) same.0 (kept_lacking all held others rs same.1)
  where
    this : Record
    this = record { rid = rid_in all r; row = r.row }

    rest : List Record
    rest = not_held held (numbered (map (rid_in all) rs) (map (λ q. q.row) rs))

    at : (b c : Bool) → b ≡ c → map as_kept rest ≡ map (kept_as all) (lacking rs others)
        → map as_kept (if not b then this ∷ rest else rest) ≡ map (kept_as all) (if not c then r ∷ lacking rs others else lacking rs others)
    at true true e later = later
    at true false e later = absurd cc
    at false true e later = absurd cc
    at false false e later = ap (λ ks. kept_as all r ∷ ks) later

pub long_lacking : (all : List Rec) (held : List ℕ) (others rs : List Rec) → HoldSame all held others rs
    → length (not_held held (numbered (map (rid_in all) rs) (map (λ r. r.row) rs))) ≡ length (lacking rs others)
long_lacking all held others rs same =
    sym (length-map (not_held held (numbered (map (rid_in all) rs) (map (λ r. r.row) rs))) as_kept)
    ∙ ap (λ (ks : Records). length ks) (kept_lacking all held others rs same)
    ∙ length-map (lacking rs others) (kept_as all)
