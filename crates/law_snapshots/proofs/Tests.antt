-- What tests say of lists with one element more, and of the segments that come with a version.
use Rattle.std.proofs.Common.{◌≡◌, ◌<◌, ◌≤◌, ◌+◌, ℕ, zero, suc, Bool, true, false, not, ◌&&◌, ◌||◌, eqb, List, [], ◌∷◌, ◌++◌, length, refl, sym, ap, subst, ◌∙◌, inl, inr, arith}
use Rattle.std.specs.Prelude.{nat_le, nat_lt, if◌then◌else◌}
use Rattle.std.specs.List.{list_all}
use Rattle.std.proofs.lemmas.Bool.{cases_lt, and_from, and_parts, or_from, or_left, or_right, not_from_false, eq-eqb, ne_eqb, le-leb, leb-true, lt-ltb}
use Rattle.std.proofs.lemmas.List.{length-append}
use Rattle.std.proofs.lemmas.List.Folds.{list_all-append, list_any-append}
use Rattle.ov_host.specs.declared.area.Extent.{Extent}
use Rattle.ov_layout.specs.Changes.{extents_of}
use Rattle.ov_model.specs.Records.{counted}
use Rattle.ov_catalog.specs.Events.{is_one}
use Rattle.ov_catalog.specs.Testing.{is_same, is_extent, is_segment}
use Rattle.ov_catalog.specs.Wholes.{are_segments}

-- ---- all of a list

pub all_more : {X : Type 0} (p q : X → Bool) (xs : List X) → ((x : X) → p x ≡ true → q x ≡ true) → list_all p xs ≡ true → list_all q xs ≡ true
all_more p q [] more all = refl
all_more p q (x ∷ xs) more all =
    let both = and_parts (p x) (list_all p xs) all in
    and_from (q x) (list_all q xs) (more x both.0) (all_more p q xs more both.1)

pub all_push : {X : Type 0} (p : X → Bool) (xs : List X) (x : X) → list_all p xs ≡ true → p x ≡ true → list_all p (xs ++ x ∷ []) ≡ true
all_push p xs x all here = list_all-append p xs (x ∷ []) ∙ and_from (list_all p xs) (p x && true) all (and_from (p x) true here refl)

-- what holds of each number counted, and of all of them
pub counted_at : (p : ℕ → Bool) (from count n : ℕ) → list_all p (counted from count) ≡ true → from ≤ n → n < from + count → p n ≡ true
counted_at p from zero n all le lt = absurd (omega (arith, le, lt))
counted_at p from (suc count) n all le lt =
    let both = and_parts (p from) (list_all p (counted (from + 1) count)) all in
    elim (cases_lt from n) [
      | inl less ↦ counted_at p (from + 1) count n both.1 (omega (arith, less)) (omega (arith, lt))
      | inr more ↦ let same : from ≡ n = omega (arith, le, more) in subst (λ (k : ℕ). p k ≡ true) same both.0
    ]

pub counted_all : (p : ℕ → Bool) (from count : ℕ) → ((n : ℕ) → from ≤ n → n < from + count → p n ≡ true) → list_all p (counted from count) ≡ true
counted_all p from zero each = refl
counted_all p from (suc count) each =
    and_from (p from) (list_all p (counted (from + 1) count)) (each from (omega arith) (omega arith))
    (counted_all p (from + 1) count (λ n le lt. each n (omega (arith, le)) (omega (arith, lt))))

-- ---- lists of versions

pub none_above : (limit : ℕ) (ns : List ℕ) (n : ℕ) → list_all (λ (m : ℕ). nat_le m limit) ns ≡ true → limit < n → is_one ns n ≡ false
none_above limit [] n all lt = refl
none_above limit (m ∷ ns) n all lt =
    let both = and_parts (nat_le m limit) (list_all (λ (k : ℕ). nat_le k limit) ns) all in
    let le = leb-true m limit both.0 in
    or_from (eqb m n) (is_one ns n) (ne_eqb m n (λ same. omega (arith, same, lt, le))) (none_above limit ns n both.1 lt)

-- limits
pub at_most : (count more : ℕ) (vids : List ℕ) → count ≤ more → list_all (λ (vid : ℕ). nat_le vid count) vids ≡ true → list_all (λ (vid : ℕ). nat_le vid more) vids ≡ true
at_most count more vids le all = all_more (λ (vid : ℕ). nat_le vid count) (λ (vid : ℕ). nat_le vid more) vids (λ vid h. let low = leb-true vid count h in le-leb vid more (omega (arith, low, le))) all

pub are_below : (count vid : ℕ) (vids : List ℕ) → count < vid → list_all (λ (v : ℕ). nat_le v count) vids ≡ true → list_all (λ (v : ℕ). nat_lt v vid) vids ≡ true
are_below count vid vids lt all = all_more (λ (v : ℕ). nat_le v count) (λ (v : ℕ). nat_lt v vid) vids (λ v h. let low = leb-true v count h in lt-ltb v vid (omega (arith, low, lt))) all

-- with one more at the end
one_push : (ns : List ℕ) (m n : ℕ) → is_one (ns ++ m ∷ []) n ≡ (is_one ns n || (eqb m n || false))
one_push ns m n = list_any-append (λ (k : ℕ). eqb k n) ns (m ∷ [])

pub one_stays : (ns : List ℕ) (m n : ℕ) → is_one ns n ≡ true → is_one (ns ++ m ∷ []) n ≡ true
one_stays ns m n there = one_push ns m n ∙ or_left (is_one ns n) (eqb m n || false) there

pub one_last : (ns : List ℕ) (n : ℕ) → is_one (ns ++ n ∷ []) n ≡ true
one_last ns n = one_push ns n n ∙ or_right (is_one ns n) (eqb n n || false) (or_left (eqb n n) false (eq-eqb n n refl))

or_none : (b : Bool) → (b || (false || false)) ≡ b
or_none true = refl
or_none false = refl

pub one_other : (ns : List ℕ) (m n : ℕ) → eqb m n ≡ false → is_one (ns ++ m ∷ []) n ≡ is_one ns n
one_other ns m n other = one_push ns m n ∙ ap (λ (b : Bool). is_one ns n || (b || false)) other ∙ or_none (is_one ns n)

-- ---- segments

same_is : (a b : Bool) → is_same a b ≡ true → a ≡ b
same_is true b h = sym h
same_is false true h = absurd cc
same_is false false h = refl

is_same_by : (a b : Bool) → a ≡ b → is_same a b ≡ true
is_same_by true b e = sym e
is_same_by false true e = absurd cc
is_same_by false false e = refl

-- the segment that comes with so many records, or none where there are none
of_extents : (b : Bool) (records : ℕ) (segment : Extent) → eqb segment.bytes 0 ≡ b → is_same b (eqb records 0) ≡ true → is_extent segment ≡ true
    → are_segments records (if b then [] else segment ∷ []) ≡ true
of_extents true records segment e same is = same
of_extents false records segment e same is =
    and_from ((not (eqb segment.bytes 0) && is_extent segment) && true) (not (eqb records 0))
    (and_from (not (eqb segment.bytes 0) && is_extent segment) true (and_from (not (eqb segment.bytes 0)) (is_extent segment) (not_from_false (eqb segment.bytes 0) e) is) refl) same

pub of_segment : (records : ℕ) (segment : Extent) → is_segment records segment ≡ true → are_segments records (extents_of segment) ≡ true
of_segment records segment h =
    let both = and_parts (is_same (eqb segment.bytes 0) (eqb records 0)) (is_extent segment) h in
    of_extents (eqb segment.bytes 0) records segment refl both.0 both.1

both_zero : (a b : ℕ) → eqb (a + b) 0 ≡ (eqb a 0 && eqb b 0)
both_zero a b = grind arith

lengths_zero : (a b : ℕ) (xs ys : List Extent) → eqb (length xs) 0 ≡ eqb a 0 → eqb (length ys) 0 ≡ eqb b 0 → eqb (length (xs ++ ys)) 0 ≡ eqb (a + b) 0
lengths_zero a b xs ys e f =
    ap (λ (n : ℕ). eqb n 0) (length-append xs ys) ∙ both_zero (length xs) (length ys) ∙ (λ i. e i && f i) ∙ sym (both_zero a b)

abbrev is_full : Extent → Bool
is_full e = not (eqb e.bytes 0) && is_extent e

-- segments of some records, and those of more behind them
pub segments_append : (a b : ℕ) (xs ys : List Extent) → are_segments a xs ≡ true → are_segments b ys ≡ true → are_segments (a + b) (xs ++ ys) ≡ true
segments_append a b xs ys h g =
    let own = and_parts (list_all is_full xs) (is_same (eqb (length xs) 0) (eqb a 0)) h in
    let more = and_parts (list_all is_full ys) (is_same (eqb (length ys) 0) (eqb b 0)) g in
    let counts = lengths_zero a b xs ys (same_is (eqb (length xs) 0) (eqb a 0) own.1) (same_is (eqb (length ys) 0) (eqb b 0) more.1) in
    and_from (list_all is_full (xs ++ ys)) (is_same (eqb (length (xs ++ ys)) 0) (eqb (a + b) 0))
    (list_all-append is_full xs ys ∙ and_from (list_all is_full xs) (list_all is_full ys) own.0 more.0) (is_same_by (eqb (length (xs ++ ys)) 0) (eqb (a + b) 0) counts)
