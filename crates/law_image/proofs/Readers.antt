-- Lists and segments are read exactly where the bytes are theirs.
use Rattle.std.proofs.Common.{◌≡◌, ◌<◌, ◌≤◌, ◌+◌, ◌%◌, ◌^◌, ℕ, zero, suc, Bool, true, false, ◌&&◌, nat_le, nat_lt, if◌then◌else◌, List, [], ◌∷◌, ◌++◌, length, take, drop, map, Some, None, refl, sym, ◌∙◌, ap, subst, arith, length-append}
use Rattle.std.specs.Int.{w32, to_be_bytes}
use Rattle.std.specs.Str.{bytes_eq}
use Rattle.std.proofs.lemmas.Bool.Decides.{nat_tests}
use Rattle.std.proofs.lemmas.List.{take_at, drop_at, drop-drop}
use Rattle.std.proofs.lemmas.Nat.{from_be_bytes-to_be_bytes_4}
use Rattle.std.proofs.lemmas.Slice.Eq.{bytes_eq-Decides}
use Rattle.ov_value.specs.declared.spelled.RowBytes.{RowBytes}
use Rattle.ov_value.specs.Shapes.{Shape}
use Rattle.ov_member.specs.Lists.{Range, AreApart, AreRanges, Spells, rids_of, bytes_of, range_bytes}
use Rattle.ov_segment.specs.declared.numbered.Record.{Record}
use Rattle.ov_segment.specs.Segments.{AreRecords, with_mark, record_bytes, segment_spelling}
use Rattle.ov_catalog.specs.Shown.{Records}
use Rattle.law_image.specs.Lists.{number_at, ranges_in, are_apart, list_of, list_in}
use Rattle.law_image.specs.Segments.{kept_bytes, segment_bytes, AreKept, are_kept, len_at, records_in, segment_of, segment_in, as_kept}

-- ---- tests

and_true : (a b : Bool) → a ≡ true → b ≡ true → (a && b) ≡ true
and_true true true ea eb = refl
and_true true false ea eb = eb
and_true false b ea eb = ea

pub both_true : (a b : Bool) → (a && b) ≡ true → (a ≡ true) × (b ≡ true)
both_true true true e = (refl, refl)
both_true true false e = absurd cc
both_true false b e = absurd cc

eq_true : (bytes : List ℕ) → bytes_eq bytes bytes ≡ true
eq_true bytes = (bytes_eq-Decides bytes bytes).1 refl

eq_of : (xs ys : List ℕ) → bytes_eq xs ys ≡ true → xs ≡ ys
eq_of xs ys e = (bytes_eq-Decides xs ys).0 e

-- ---- lists

range_true : (past : ℕ) (r : Range) → past < r.first → 0 < r.count → r.first + r.count ≤ 2 ^ 31 + 1
    → (nat_lt past r.first && (nat_lt 0 r.count && nat_le (r.first + r.count) (2 ^ 31 + 1))) ≡ true
range_true past r above some low = grind (arith, nat_tests)

range_of : (past : ℕ) (r : Range) → (nat_lt past r.first && (nat_lt 0 r.count && nat_le (r.first + r.count) (2 ^ 31 + 1))) ≡ true
    → (past < r.first) × (0 < r.count) × (r.first + r.count ≤ 2 ^ 31 + 1)
range_of past r e = grind (arith, nat_tests)

apart_true : (past : ℕ) (ranges : List Range) → AreApart past ranges → are_apart past ranges ≡ true
apart_true past [] apart = refl
apart_true past (r ∷ rs) apart = and_true _ _ (range_true past r apart.0 apart.1 apart.2) (apart_true (r.first + r.count) rs apart.3)

apart_of : (past : ℕ) (ranges : List Range) → are_apart past ranges ≡ true → AreApart past ranges
apart_of past [] e = tt
apart_of past (r ∷ rs) e =
    let two = both_true _ _ e
    in let here = range_of past r two.0
    in (here.0, here.1, here.2, apart_of (r.first + r.count) rs two.1)

ranges_long : (r : Range) (rs : List Range) → length (bytes_of (r ∷ rs)) ≡ 8 + length (bytes_of rs)
ranges_long r rs = length-append (range_bytes r) (bytes_of rs)

ranges_again : (past most : ℕ) (ranges : List Range) → AreApart past ranges → length (bytes_of ranges) ≤ most → ranges_in most (bytes_of ranges) ≡ ranges
ranges_again past zero [] apart enough = refl
ranges_again past (suc most) [] apart enough = refl
ranges_again past zero (r ∷ rs) apart enough =
    absurd (omega (arith, enough, ranges_long r rs))
ranges_again past (suc most) (r ∷ rs) apart enough =
    let long : 8 + length (bytes_of rs) ≤ suc most = omega (arith, enough, ranges_long r rs)
    in let first : r.first < 2 ^ 32 = omega (arith, apart.2)
    in let count : r.count < 2 ^ 32 = omega (arith, apart.2)
    in λ i.
    record { first = from_be_bytes-to_be_bytes_4 r.first first i; count = from_be_bytes-to_be_bytes_4 r.count count i }
    ∷ ranges_again (r.first + r.count) most rs apart.3 (omega (arith, long)) i

ranges_listed : (ranges : List Range) → AreRanges ranges → list_in (bytes_of ranges) ≡ Some (rids_of ranges)
ranges_listed ranges apart =
    ap (λ (rs : List Range). list_of rs (bytes_of ranges)) (ranges_again 0 (length (bytes_of ranges)) ranges apart (omega arith))
    ∙ ap (λ (b : Bool). if b then Some (rids_of ranges) else None) (and_true _ _ (apart_true 0 ranges apart) (eq_true (bytes_of ranges)))

pub list_all : (bytes rids : List ℕ) → Spells bytes rids → list_in bytes ≡ Some rids
list_all bytes rids spells = ap list_in spells.written ∙ ranges_listed spells.ranges spells.apart ∙ ap Some (sym spells.listed)

list_some : (ranges : List Range) (bytes rids : List ℕ) → list_of ranges bytes ≡ Some rids → Spells bytes rids
list_some ranges bytes rids e = by (are_apart 0 ranges) (bytes_eq (bytes_of ranges) bytes) refl refl e
  where
    by : (a b : Bool) → are_apart 0 ranges ≡ a → bytes_eq (bytes_of ranges) bytes ≡ b → (if a && b then Some (rids_of ranges) else None) ≡ Some rids → Spells bytes rids
    by true true apart same e = record { ranges = ranges; apart = apart_of 0 ranges apart; written = sym (eq_of (bytes_of ranges) bytes same); listed = cc }
    by true false apart same e = absurd cc
    by false b apart same e = absurd cc

pub list_read : (bytes rids : List ℕ) → list_in bytes ≡ Some rids → Spells bytes rids
list_read bytes rids e = list_some (ranges_in (length bytes) bytes) bytes rids e

-- ---- segments

kept_true : (last rid len : ℕ) → last < rid → rid ≤ 2 ^ 31 → len ≤ 65536 → (nat_lt last rid && (nat_le rid (2 ^ 31) && nat_le len 65536)) ≡ true
kept_true last rid len above below small = grind (arith, nat_tests)

kept_of : (last rid len : ℕ) → (nat_lt last rid && (nat_le rid (2 ^ 31) && nat_le len 65536)) ≡ true → (last < rid) × (rid ≤ 2 ^ 31) × (len ≤ 65536)
kept_of last rid len e = grind (arith, nat_tests)

all_kept_true : (last : ℕ) (records : Records) → AreKept last records → are_kept last records ≡ true
all_kept_true last [] are = refl
all_kept_true last (k ∷ ks) are = and_true _ _ (kept_true last k.0 (length k.1.bytes) are.0 are.1 are.2) (all_kept_true k.0 ks are.3)

all_kept_of : (last : ℕ) (records : Records) → are_kept last records ≡ true → AreKept last records
all_kept_of last [] e = tt
all_kept_of last (k ∷ ks) e =
    let two = both_true _ _ e
    in let here = kept_of last k.0 (length k.1.bytes) two.0
    in (here.0, here.1, here.2, all_kept_of k.0 ks two.1)

-- a length and its mark, and back
mark_back : (marked : Bool) (len : ℕ) → len ≤ 65536 → (with_mark marked len < 2 ^ 32) × (with_mark marked len % 2 ^ 31 ≡ len) × (nat_le (2 ^ 31) (with_mark marked len) ≡ marked)
mark_back true len h = (omega arith, omega arith, grind (arith, nat_tests))
mark_back false len h = (omega arith, omega arith, grind (arith, nat_tests))

records_long : (k : ℕ × RowBytes) (ks : Records) → length (segment_bytes (k ∷ ks)) ≡ 8 + (length k.1.bytes + length (segment_bytes ks))
records_long k ks =
    let number : List ℕ = to_be_bytes w32 (with_mark k.1.marked (length k.1.bytes))
    in let rid : List ℕ = to_be_bytes w32 k.0
    in let behind : length (number ++ k.1.bytes) ≡ 4 + length k.1.bytes = length-append number k.1.bytes
    in let whole : length (kept_bytes k) ≡ 4 + length (number ++ k.1.bytes) = length-append rid (number ++ k.1.bytes)
    in let all : length (segment_bytes (k ∷ ks)) ≡ length (kept_bytes k) + length (segment_bytes ks) = length-append (kept_bytes k) (segment_bytes ks)
    in omega (arith, behind, whole, all)

records_again : (last most : ℕ) (records : Records) → AreKept last records → length (segment_bytes records) ≤ most → records_in most (segment_bytes records) ≡ records
records_again last zero [] are enough = refl
records_again last (suc most) [] are enough = refl
records_again last zero (k ∷ ks) are enough =
    absurd (omega (arith, enough, records_long k ks))
records_again last (suc most) (k ∷ ks) are enough =
    let row : List ℕ = k.1.bytes
    in let rest : List ℕ = segment_bytes ks
    in let bytes : List ℕ = kept_bytes k ++ rest
    in let back = mark_back k.1.marked (length row) are.2
    in let long : 8 + (length row + length rest) ≤ suc most = omega (arith, enough, records_long k ks)
    in let number : number_at (drop 4 bytes) ≡ with_mark k.1.marked (length row) = from_be_bytes-to_be_bytes_4 _ back.0
    in let rid : number_at bytes ≡ k.0 = from_be_bytes-to_be_bytes_4 k.0 (omega (arith, are.1))
    in let len : len_at bytes ≡ length row = ap (λ n. n % 2 ^ 31) number ∙ back.1
    in let marked : nat_le (2 ^ 31) (number_at (drop 4 bytes)) ≡ k.1.marked = ap (λ n. nat_le (2 ^ 31) n) number ∙ back.2
    in let took : take (len_at bytes) (drop 8 bytes) ≡ row = ap (λ n. take n (row ++ rest)) len ∙ take_at row rest (length row) refl
    in let others : drop (8 + len_at bytes) bytes ≡ rest = sym (drop-drop (len_at bytes) 8 bytes) ∙ ap (λ n. drop n (row ++ rest)) len ∙ drop_at row rest (length row) refl
    in let more : records_in most (drop (8 + len_at bytes) bytes) ≡ ks =
    ap (records_in most) others ∙ records_again k.0 most ks are.3 (omega (arith, long))
    in λ i. (rid i, record { marked = marked i; bytes = took i }) ∷ more i

records_kept : (records : Records) → AreKept 0 records → segment_in (segment_bytes records) ≡ Some records
records_kept records are =
    ap (λ (ks : Records). segment_of ks (segment_bytes records)) (records_again 0 (length (segment_bytes records)) records are (omega arith))
    ∙ ap (λ (b : Bool). if b then Some records else None) (and_true _ _ (all_kept_true 0 records are) (eq_true (segment_bytes records)))

pub segment_all : (bytes : List ℕ) (records : Records) → AreKept 0 records → bytes ≡ segment_bytes records → segment_in bytes ≡ Some records
segment_all bytes records are written = ap segment_in written ∙ records_kept records are

segment_some : (ks : Records) (bytes : List ℕ) (records : Records) → segment_of ks bytes ≡ Some records → AreKept 0 records × (bytes ≡ segment_bytes records)
segment_some ks bytes records e = by (are_kept 0 ks) (bytes_eq (segment_bytes ks) bytes) refl refl e
  where
    by : (a b : Bool) → are_kept 0 ks ≡ a → bytes_eq (segment_bytes ks) bytes ≡ b → (if a && b then Some ks else None) ≡ Some records → AreKept 0 records × (bytes ≡ segment_bytes records)
    by true true are same e =
        let is : ks ≡ records = cc
        in subst (λ rs. AreKept 0 rs × (bytes ≡ segment_bytes rs)) is (all_kept_of 0 ks are, sym (eq_of (segment_bytes ks) bytes same))
    by true false are same e = absurd cc
    by false b are same e = absurd cc

pub segment_read : (bytes : List ℕ) (records : Records) → segment_in bytes ≡ Some records → AreKept 0 records × (bytes ≡ segment_bytes records)
segment_read bytes records e = segment_some (records_in (length bytes) bytes) bytes records e

as_kept_are : (schema : Shape) (last : ℕ) (records : List Record) → AreRecords schema last records → AreKept last (map as_kept records)
as_kept_are schema last [] are = tt
as_kept_are schema last (r ∷ rs) are = (are.0.above, are.0.below, are.0.small, as_kept_are schema r.rid rs are.1)

as_kept_spelled : (records : List Record) → segment_spelling records ≡ segment_bytes (map as_kept records)
unfolding record_bytes
as_kept_spelled [] = refl
as_kept_spelled (r ∷ rs) = ap (λ (l : List ℕ). record_bytes r ++ l) (as_kept_spelled rs)

pub rows_read : (schema : Shape) (records : List Record) → AreRecords schema 0 records → segment_in (segment_spelling records) ≡ Some (map as_kept records)
rows_read schema records are = segment_all (segment_spelling records) (map as_kept records) (as_kept_are schema 0 records are) (as_kept_spelled records)
