-- Ranges, the rids in them, and their bytes.
use Rattle.std.proofs.Common.{◌≡◌, ℕ, zero, suc, ◌+◌, ◌<◌, ◌≤◌, ◌^◌, List, [], ◌∷◌, ◌++◌, take, drop, refl, sym, ap, ◌∙◌, append_assoc, inl, inr, arith}
use Rattle.std.specs.Int.{w32, to_be_bytes, from_be_bytes}
use Rattle.std.proofs.lemmas.Bool.{cases_eq, eq-eqb, ne_eqb}
use Rattle.std.proofs.lemmas.List.{append-nil, take_at, drop_at}
use Rattle.std.proofs.lemmas.Nat.{from_be_bytes-to_be_bytes_4}
use Rattle.ov_member.specs.Rids.{RiseFrom}
use Rattle.ov_member.specs.Lists.{Range, run, rids_of, AreApart, range_bytes, bytes_of, in_front, ranges_of}
use Rattle.ov_member.proofs.RidLemmas.{RiseFrom-weaker}
use Rattle.ov_member.proofs.RunLemmas.{RiseFrom-run}

pub RiseFrom-apart : (past : ℕ) (ranges : List Range) → AreApart past ranges → RiseFrom (suc past) (rids_of ranges)
RiseFrom-apart past [] h = tt
RiseFrom-apart past (range ∷ ranges) h =
    let rest = RiseFrom-apart (range.first + range.count) ranges h.3 in
    let behind = RiseFrom-weaker (range.first + range.count) (suc (range.first + range.count)) (rids_of ranges) (omega arith) rest in
    RiseFrom-weaker (suc past) range.first (rids_of (range ∷ ranges)) (omega arith) (RiseFrom-run range.first range.count (rids_of ranges) h.2 behind)

-- ---- from rids to ranges

range_is : (first count first' count' : ℕ) (ranges : List Range) → first ≡ first' → count ≡ count' → AreApart (first + count) ranges → AreApart (first' + count') ranges
range_is first count first' count' ranges e f h = rw (← e, ← f) h

in_front-apart : (low rid : ℕ) (ranges : List Range) → low < rid → rid ≤ 2 ^ 31 → AreApart rid ranges → AreApart low (in_front rid ranges)
in_front-apart low rid [] lt le h = (lt, omega arith, omega arith, tt)
in_front-apart low rid (range ∷ ranges) lt le h =
    elim (cases_eq range.first (suc rid)) [
      | inl e ↦
          let same : range.first + range.count ≡ rid + suc range.count = omega arith in
          rw (eq-eqb range.first (suc rid) e) (lt, omega arith, omega arith, rw same at h.3)
      | inr ne ↦ rw (ne_eqb range.first (suc rid) ne) (lt, omega arith, omega arith, (omega arith, h.1, h.2, h.3))
    ]

pub ranges_of-apart : (low : ℕ) (rids : List ℕ) → RiseFrom (suc low) rids → AreApart low (ranges_of rids)
ranges_of-apart low [] h = tt
ranges_of-apart low (rid ∷ rids) h = in_front-apart low rid (ranges_of rids) (omega arith) h.1 (ranges_of-apart rid rids h.2)

rids_of-in_front : (rid : ℕ) (ranges : List Range) → rids_of (in_front rid ranges) ≡ rid ∷ rids_of ranges
unfolding run
rids_of-in_front rid [] = refl
rids_of-in_front rid (range ∷ ranges) =
    elim (cases_eq range.first (suc rid)) [
      | inl e ↦ rw (eq-eqb range.first (suc rid) e) (ap (λ (first : ℕ). rid ∷ (run first range.count ++ rids_of ranges)) (sym e))
      | inr ne ↦ rw (ne_eqb range.first (suc rid) ne) refl
    ]

pub rids_of-ranges_of : (rids : List ℕ) → rids_of (ranges_of rids) ≡ rids
rids_of-ranges_of [] = refl
rids_of-ranges_of (rid ∷ rids) = rids_of-in_front rid (ranges_of rids) ∙ ap (λ (xs : List ℕ). rid ∷ xs) (rids_of-ranges_of rids)

-- ---- from ranges to rids

in_front-new : (rid : ℕ) (ranges : List Range) → AreApart (rid + 1) ranges → in_front rid ranges ≡ record { first = rid; count = 1 } ∷ ranges
in_front-new rid [] h = refl
in_front-new rid (range ∷ ranges) h = rw (ne_eqb range.first (suc rid) (λ e. omega arith)) refl

in_front-joined : (rid count : ℕ) (ranges : List Range) → in_front rid (record { first = suc rid; count = count } ∷ ranges) ≡ record { first = rid; count = suc count } ∷ ranges
in_front-joined rid count ranges = rw (eq-eqb (suc rid) (suc rid) refl) refl

ranges_of-run : (first count : ℕ) (rids : List ℕ) (ranges : List Range) → ranges_of rids ≡ ranges → AreApart (first + suc count) ranges → ranges_of (run first (suc count) ++ rids) ≡ record { first = first; count = suc count } ∷ ranges
unfolding run
ranges_of-run first zero rids ranges e h = ap (in_front first) e ∙ in_front-new first ranges h
ranges_of-run first (suc count) rids ranges e h =
    let same : first + suc (suc count) ≡ suc first + suc count = omega arith in
    ap (in_front first) (ranges_of-run (suc first) count rids ranges e (rw same at h)) ∙ in_front-joined first (suc count) ranges

range-step : (first count past : ℕ) (rids : List ℕ) (ranges : List Range) → ranges_of rids ≡ ranges → 0 < count → AreApart (first + count) ranges → ranges_of (run first count ++ rids) ≡ record { first = first; count = count } ∷ ranges
range-step first zero past rids ranges e lt h = absurd (omega arith)
range-step first (suc count) past rids ranges e lt h = ranges_of-run first count rids ranges e h

pub ranges_of-rids_of : (past : ℕ) (ranges : List Range) → AreApart past ranges → ranges_of (rids_of ranges) ≡ ranges
ranges_of-rids_of past [] h = refl
ranges_of-rids_of past (range ∷ ranges) h = range-step range.first range.count past (rids_of ranges) ranges (ranges_of-rids_of (range.first + range.count) ranges h.3) h.1 h.3

-- ---- bytes

number_again : (m n : ℕ) → m < 2 ^ 32 → n < 2 ^ 32 → to_be_bytes w32 m ≡ to_be_bytes w32 n → m ≡ n
number_again m n lt lt' e = sym (from_be_bytes-to_be_bytes_4 m lt) ∙ ap (from_be_bytes w32) e ∙ from_be_bytes-to_be_bytes_4 n lt'

-- what fits into a range's bytes
pub record Fits (range : Range) : Type 0 where
  pub first : range.first < 2 ^ 32
  pub count : range.count < 2 ^ 32

abbrev range_from : ℕ → ℕ → Range
range_from first count = record { first = first; count = count }

pub front-same : (x y : Range) (s t : List ℕ) → Fits x → Fits y → range_bytes x ++ s ≡ range_bytes y ++ t → (x ≡ y) × (s ≡ t)
front-same x y s t fits fits' e =
    let fronts : range_bytes x ≡ range_bytes y = sym (take_at (range_bytes x) s 8 refl) ∙ ap (take 8) e ∙ take_at (range_bytes y) t 8 refl in
    let rests : s ≡ t = sym (drop_at (range_bytes x) s 8 refl) ∙ ap (drop 8) e ∙ drop_at (range_bytes y) t 8 refl in
    let firsts : to_be_bytes w32 x.first ≡ to_be_bytes w32 y.first = ap (take 4) fronts in
    let counts : to_be_bytes w32 x.count ≡ to_be_bytes w32 y.count = ap (drop 4) fronts in
    let first = number_again x.first y.first fits.first fits'.first firsts in
    let count = number_again x.count y.count fits.count fits'.count counts in
    (ap (λ (n : ℕ). range_from n x.count) first ∙ ap (range_from y.first) count, rests)

pub fits-apart : (past : ℕ) (range : Range) (ranges : List Range) → AreApart past (range ∷ ranges) → Fits range
fits-apart past range ranges h = record { first = omega arith; count = omega arith }

-- ranges that were read, and what is behind them
pub record Continues (ranges read : List Range) (rest : List ℕ) : Type 0 where
  pub others : List Range
  pub is : ranges ≡ read ++ others
  pub written : rest ≡ bytes_of others

pub continues : (past past' : ℕ) (read : List Range) (rest : List ℕ) (ranges : List Range) → AreApart past read → AreApart past' ranges → bytes_of read ++ rest ≡ bytes_of ranges → Continues ranges read rest
continues past past' [] rest ranges h h' e = record { others = ranges; is = refl; written = e }
continues past past' (range ∷ read) rest [] h h' e = absurd cc
continues past past' (range ∷ read) rest (other ∷ ranges) h h' e =
    let same = front-same range other (bytes_of read ++ rest) (bytes_of ranges) (fits-apart past range read h) (fits-apart past' other ranges h') (sym (append_assoc (range_bytes range) (bytes_of read) rest) ∙ e) in
    let more = continues (range.first + range.count) (other.first + other.count) read rest ranges h.3 h'.3 same.1 in
    record { others = more.others; is = let first = same.0 in let behind = more.is in cc; written = more.written }

nothing_written : (ranges : List Range) → [] ≡ bytes_of ranges → ranges ≡ []
nothing_written [] e = refl
nothing_written (range ∷ ranges) e = absurd cc

pub ranges-same : (past past' : ℕ) (xs ys : List Range) → AreApart past xs → AreApart past' ys → bytes_of xs ≡ bytes_of ys → xs ≡ ys
ranges-same past past' xs ys h h' e =
    let more = continues past past' xs [] ys h h' (append-nil (bytes_of xs) ∙ e) in
    sym (more.is ∙ ap (λ (zs : List Range). xs ++ zs) (nothing_written more.others more.written) ∙ append-nil xs)
