-- The segment of a version: its records are a segment's, and how many bytes it has.
use Rattle.std.proofs.Common.{◌≡◌, ◌≤◌, ◌<◌, ◌+◌, ◌*◌, ◌^◌, ℕ, suc, Bool, true, false, List, [], ◌∷◌, ◌++◌, length, map, refl, sym, ap, subst, inl, inr, arith, length-append}
use Rattle.std.specs.Prelude.{filter, not, nat_eq, if◌then◌else◌}
use Rattle.std.specs.List.{All, AllByRecursion, IsDistinct}
use Rattle.std.specs.Int.{w32, to_be_bytes}
use Rattle.std.proofs.lemmas.Map.Keys.{IsDistinct-head, IsDistinct-tail, IsDistinct-cons}
use Rattle.ov_value.specs.Rows.{Fits}
use Rattle.ov_value.specs.Shapes.{Shape}
use Rattle.ov_value.specs.Spelling.{IsRow, row_spelling}
use Rattle.ov_model.specs.Book.{Row}
use Rattle.ov_model.specs.Lists.{IsIn, Rises}
use Rattle.ov_member.specs.Rids.{has}
use Rattle.ov_segment.specs.declared.numbered.Record.{Record}
use Rattle.ov_segment.specs.Segments.{AreRecords, IsNext, Ascend, record_bytes, segment_spelling, with_mark}
use Rattle.ov_catalog.specs.Reached.{AreRows}
use Rattle.ov_catalog.specs.Shown.{sorted_by}
use Rattle.ov_catalog.proofs.Members.{all_at, of_sorted}
use Rattle.ov_catalog.proofs.Rising.{by, less_of}
use Rattle.ov_version_bytes.specs.Written.{AreGiven, numbered, not_held, segment_written}
use Rattle.ov_version_bytes.proofs.Listing.{sorted_long}
use Rattle.ov_version_bytes.proofs.Sorting.{all_from, below_at, sorted_ascends}

-- ---- what filters leave

pub filter_in : {X : Type 0} (p : X → Bool) (xs : List X) (x : X) → IsIn (filter p xs) x → IsIn xs x
filter_in p [] x is = is
filter_in {X} p (y ∷ ys) x is = at (p y) is (filter_in p ys x)
  where
    at : (b : Bool) → IsIn (if b then y ∷ filter p ys else filter p ys) x → (IsIn (filter p ys) x → IsIn ys x) → IsIn (y ∷ ys) x
    at true (inl same) rest = inl same
    at true (inr later) rest = inr (rest later)
    at false there rest = inr (rest there)

pub filter_few : {X : Type 0} (p : X → Bool) (xs : List X) → length (filter p xs) ≤ length xs
filter_few p [] = omega arith
filter_few {X} p (y ∷ ys) = at (p y) (filter_few p ys)
  where
    at : (b : Bool) → length (filter p ys) ≤ length ys → length (if b then y ∷ filter p ys else filter p ys) ≤ suc (length ys)
    at true rest = omega (arith, rest)
    at false rest = omega (arith, rest)

apart_filter : {X : Type 0} (key : X → ℕ) (p : X → Bool) (n : ℕ) (xs : List X) → AllByRecursion (λ m. nat_eq n m ≡ false) (map key xs)
    → AllByRecursion (λ m. nat_eq n m ≡ false) (map key (filter p xs))
apart_filter key p n [] apart = tt
apart_filter {X} key p n (y ∷ ys) apart = at (p y) (apart_filter key p n ys apart.1)
  where
    at : (b : Bool) → AllByRecursion (λ m. nat_eq n m ≡ false) (map key (filter p ys)) → AllByRecursion (λ m. nat_eq n m ≡ false) (map key (if b then y ∷ filter p ys else filter p ys))
    at true rest = (apart.0, rest)
    at false rest = rest

pub once_filter : {X : Type 0} (key : X → ℕ) (p : X → Bool) (xs : List X) → IsDistinct nat_eq (map key xs) → IsDistinct nat_eq (map key (filter p xs))
once_filter key p [] once = once
once_filter {X} key p (y ∷ ys) once =
    at (p y) (apart_filter key p (key y) ys (IsDistinct-head nat_eq (key y) (map key ys) once)) (once_filter key p ys (IsDistinct-tail nat_eq (key y) (map key ys) once))
  where
    at : (b : Bool) → AllByRecursion (λ m. nat_eq (key y) m ≡ false) (map key (filter p ys)) → IsDistinct nat_eq (map key (filter p ys))
        → IsDistinct nat_eq (map key (if b then y ∷ filter p ys else filter p ys))
    at true apart rest = IsDistinct-cons nat_eq (key y) (map key (filter p ys)) apart rest
    at false apart rest = rest

-- ---- rows with rids

pub numbered_rids : (rids : List ℕ) (rows : List Row) → length rids ≡ length rows → map (λ r. r.rid) (numbered rids rows) ≡ rids
numbered_rids [] rows same = refl
numbered_rids (rid ∷ rids) [] same = absurd (omega (arith, same))
numbered_rids (rid ∷ rids) (row ∷ rows) same = ap (λ ns. rid ∷ ns) (numbered_rids rids rows (omega (arith, same)))

pub numbered_long : (rids : List ℕ) (rows : List Row) → length rids ≡ length rows → length (numbered rids rows) ≡ length rows
numbered_long [] rows same = same
numbered_long (rid ∷ rids) [] same = absurd (omega (arith, same))
numbered_long (rid ∷ rids) (row ∷ rows) same = ap suc (numbered_long rids rows (omega (arith, same)))

numbered_in : (rids : List ℕ) (rows : List Row) (r : Record) → IsIn (numbered rids rows) r → IsIn rids r.rid × IsIn rows r.row
numbered_in [] rows r is = absurd is
numbered_in (rid ∷ rids) [] r is = absurd is
numbered_in (rid ∷ rids) (row ∷ rows) r (inl same) = (inl (ap (λ x. x.rid) same), inl (ap (λ x. x.row) same))
numbered_in (rid ∷ rids) (row ∷ rows) r (inr later) = let there = numbered_in rids rows r later in (inr there.0, inr there.1)

-- ---- the records of a segment

are_records : (schema : Shape) (last : ℕ) (xs : List Record) → ((r : Record) → IsIn xs r → IsNext schema last r) → Rises (by (λ r. r.rid)) xs → AreRecords schema last xs
are_records schema last [] each rises = tt
are_records schema last (x ∷ xs) each rises = (
  each x (inl refl),
  are_records schema x.rid xs
      (λ r is.
      let one = each r (inr is)
      in record { above = less_of x.rid r.rid (below_at (by (λ q. q.rid)) x xs r rises.0 is); below = one.below; row = one.row; small = one.small })
      rises.1,
)

pub kept_once : (held rids : List ℕ) (rows : List Row) → AreGiven rids rows → IsDistinct nat_eq (map (λ r. r.rid) (not_held held (numbered rids rows)))
kept_once held rids rows given =
    once_filter (λ r. r.rid) (λ r. not (has held r.rid)) (numbered rids rows)
    (subst (IsDistinct nat_eq) (sym (numbered_rids rids rows given.as_many)) given.once)

pub kept_few : (held rids : List ℕ) (rows : List Row) → length rids ≡ length rows → length (not_held held (numbered rids rows)) ≤ length rows
kept_few held rids rows same = omega (arith, filter_few (λ r. not (has held r.rid)) (numbered rids rows), numbered_long rids rows same)

pub kept_records : (schema : Shape) (held rids : List ℕ) (rows : List Row) → AreRows schema rows → AreGiven rids rows
    → AreRecords schema 0 (sorted_by (λ r. r.rid) (not_held held (numbered rids rows)))
kept_records schema held rids rows are given =
    are_records schema 0 (sorted_by (λ r. r.rid) (not_held held (numbered rids rows)))
    (λ r is.
    let there = numbered_in rids rows r (filter_in (λ q. not (has held q.rid)) (numbered rids rows) r (of_sorted (λ q. q.rid) (not_held held (numbered rids rows)) r is))
    in record {
      above = all_at (λ rid. 1 ≤ rid) rids r.rid given.some there.0;
      below = all_at (λ rid. rid ≤ 2 ^ 31) rids r.rid given.low there.0;
      row = all_at (IsRow schema) rows r.row are.fit there.1;
      small = all_at (λ row. length (row_spelling row).bytes ≤ 65536) rows r.row are.short there.1;
    })
    (sorted_ascends (λ r. r.rid) (not_held held (numbered rids rows)) (kept_once held rids rows given))

pub rids_ascend : (schema : Shape) (last : ℕ) (rs : List Record) → AreRecords schema last rs → Ascend last (map (λ r. r.rid) rs)
rids_ascend schema last [] are = tt
rids_ascend schema last (r ∷ rs) are = (are.0.above, are.0.below, rids_ascend schema r.rid rs are.1)

next_in : (schema : Shape) (last : ℕ) (rs : List Record) (r : Record) → AreRecords schema last rs → IsIn rs r → IsRow schema r.row × (length (row_spelling r.row).bytes ≤ 65536)
next_in schema last [] r are is = absurd is
next_in schema last (x ∷ rs) r are (inl same) = subst (λ q. IsRow schema q.row × (length (row_spelling q.row).bytes ≤ 65536)) (sym same) (are.0.row, are.0.small)
next_in schema last (x ∷ rs) r are (inr later) = next_in schema x.rid rs r are.1 later

pub records_fit : (schema : Shape) (rs : List Record) → AreRecords schema 0 rs → All (λ r. Fits schema r.row) rs
records_fit schema rs are = all_from (λ r. Fits schema r.row) rs (λ r is. (next_in schema 0 rs r are is).0.fits)

pub records_small : (schema : Shape) (rs : List Record) → AreRecords schema 0 rs → All (λ r. length (row_spelling r.row).bytes ≤ 65536) rs
records_small schema rs are = all_from (λ r. length (row_spelling r.row).bytes ≤ 65536) rs (λ r is. (next_in schema 0 rs r are is).1)

-- ---- how long it is

pub record_long : (r : Record) → length (record_bytes r) ≡ 8 + length (row_spelling r.row).bytes
unfolding record_bytes
record_long r =
    let row : List ℕ = (row_spelling r.row).bytes
    in let number : List ℕ = to_be_bytes w32 (with_mark (row_spelling r.row).marked (length row))
    in omega (arith, length-append number row, length-append (to_be_bytes w32 r.rid) (number ++ row))

pub segment_long : (schema : Shape) (last : ℕ) (rs : List Record) → AreRecords schema last rs
    → (8 * length rs ≤ length (segment_spelling rs)) × (length (segment_spelling rs) ≤ 65544 * length rs)
segment_long schema last [] are = (omega arith, omega arith)
segment_long schema last (r ∷ rs) are =
    let rest = segment_long schema r.rid rs are.1
    in let whole : length (segment_spelling (r ∷ rs)) ≡ length (record_bytes r) + length (segment_spelling rs) = length-append (record_bytes r) (segment_spelling rs)
    in let here = record_long r
    in (omega (arith, whole, here, rest.0), omega (arith, whole, here, rest.1, are.0.small))

-- eight bytes for each record and more, and together below 2^36
pub segment_sized : (schema : Shape) (held rids : List ℕ) (rows : List Row) → AreRows schema rows → AreGiven rids rows
    → (8 * length (not_held held (numbered rids rows)) ≤ length (segment_written held rids rows)) × (length (segment_written held rids rows) < 2 ^ 36)
segment_sized schema held rids rows are given =
    let kept : List Record = not_held held (numbered rids rows)
    in let sorted : List Record = sorted_by (λ r. r.rid) kept
    in let long : length sorted ≡ length kept = sorted_long (λ r. r.rid) kept
    in let few : length kept ≤ length rows = kept_few held rids rows given.as_many
    in let size = segment_long schema 0 sorted (kept_records schema held rids rows are given)
    in (omega (arith, size.0, long), omega (arith, size.1, long, few, are.few))
